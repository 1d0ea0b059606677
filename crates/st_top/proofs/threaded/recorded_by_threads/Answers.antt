use denote.Param.{number}
use denote.Param.Send.{sendable}
use Rattle.std.proofs.Common.{rules}
use Rattle.std.proofs.Crossing.{crosses}
use Rattle.st_audit.proofs.audit.AuditRecorder.TheSendSync as recorder
use Rattle.st_audit.specs.Recording.{IsAuditOf, emulation_by}
use Rattle.st_command.specs.declared.given.Print.TheVariants as print
use Rattle.st_reading.specs.RunMeaning.{no_lines}
use Rattle.st_top.proofs.Runs.{none_yet}
use Rattle.st_top.specs.contracts.threaded.recorded_by_threads.{LINUX-type}
use Rattle.st_top.proofs.threaded.recorded_by_threads.Goals as goal

pub run_all-requires : goal.run_all-requires
run_all-requires g c = (
  search (recorder.the_send, crosses, sendable) depth 60 fits 2000,
  (search rules, (search rules, none_yet print.Audit (emulation_by (LINUX-type (number g.row.LINUX) g.row.G g.row.T)) no_lines c.args.kernel c.requires.none (λ i trace. IsAuditOf c.new-recorder.result i trace (emulation_by (LINUX-type (number g.row.LINUX) g.row.G g.row.T))) (c.new-recorder.ensures c.args.kernel.input))),
)
