use Rattle.std.proofs.Common.{rules, subst}
use Rattle.st_command.specs.Command.{RunWords}
use Rattle.st_top.specs.RunEnds.{PreparesRun, ThreadsShow}
use Rattle.st_top.specs.Outcome.{status_of}
use Rattle.st_top.proofs.ThreadedRuns.{passed_on, refused_run, threads_ready}
use Rattle.st_top.proofs.running.prepare_run.Goals as goal

pub text_of_threads-requires : goal.text_of_threads-requires
text_of_threads-requires g c = (
  search rules,
  (search rules, c.what_run_means_can_run.ensures.runnable (g.F.Files.contents c.args.files.now) c.args.threaded.now c.in_ok-input.input c.requires.limits c.in_ok-input.ensures.ends.0),
)

pub returns-clause-prepares : goal.returns-clause-prepares
returns-clause-prepares g c =
    threads_ready (g.F.Files.contents c.args.files.now) c.args.threaded.now (g.F.Files.faults c.args.files.now) (g.F.Files.faults c.read_run.new.files) (g.F.Files.asked c.args.files.now) (g.F.Files.asked c.read_run.new.files)
    c.in_ok-input.input c.in_ok-input.ensures.ends.0 c.in_ok-input.ensures.ends.1 c.text_of_threads.result
    (subst (λ (threaded : RunWords). ThreadsShow threaded.print c.in_ok-input.input threaded.emulation c.text_of_threads.result) c.threaded.view_is c.text_of_threads.ensures)

pub returns-in_err-input-clause-prepares : goal.returns-in_err-input-clause-prepares
returns-in_err-input-clause-prepares g c =
    let contents = g.F.Files.contents c.args.files.now in
    let faults = g.F.Files.faults c.args.files.now in
    let after = g.F.Files.faults c.read_run.new.files in
    let old = g.F.Files.asked c.args.files.now in
    let new = g.F.Files.asked c.read_run.new.files in
    passed_on (PreparesRun contents c.args.threaded.now faults after old new) (status_of c.in_err-input.field-0.0) c.from_residual.result c.from_residual.ensures.0 c.from_residual.ensures.1
    (refused_run contents c.args.threaded.now faults after old new c.in_err-input.field-0.0 c.in_err-input.ensures.ends)
