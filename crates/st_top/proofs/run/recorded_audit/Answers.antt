use denote.Param.{number}
use Rattle.std.proofs.Common.{◌∙◌, List, ap}
use Rattle.st_command.specs.declared.given.Print.TheVariants as print
use Rattle.st_audit.specs.AuditText.{audit}
use Rattle.st_audit.specs.Recording.{IsAuditOf, emulation_by}
use Rattle.st_kernel.specs.Kernel.{trace_of}
use Rattle.st_trace.specs.declared.entry.Entry.{Entry}
use Rattle.st_top.proofs.Runs.{drawn_so, lawful_so, none_yet, shown, starts_so}
use Rattle.st_top.specs.contracts.run.recorded_audit.{LINUX-type}
use Rattle.st_top.proofs.run.recorded_audit.Goals as goal

pub returns : goal.returns
returns g c =
    let old = c.args.kernel.now in
    let new = c.play.new.self in
    let end = c.in_ok-play.ensures in
    let noted : IsAuditOf c.play.new.recorder new.input (trace_of new) (emulation_by (LINUX-type (number g.row.LINUX))) = end.noted (none_yet print.Audit (emulation_by (LINUX-type (number g.row.LINUX))) c.args.schedule.now old c.requires.none (λ i trace. IsAuditOf c.new-recorder.result i trace (emulation_by (LINUX-type (number g.row.LINUX)))) (c.new-recorder.ensures old.input)) in
    shown print.Audit (emulation_by (LINUX-type (number g.row.LINUX))) c.args.schedule.now old c.requires.none new c.into_text.result end.input end.ok
    (c.into_text.ensures.audit new.input (trace_of new) noted (starts_so old.input new end.input c.requires.startable) (lawful_so old.input new end.input c.requires.startable)
    ∙ ap (λ (trace : List Entry). audit new.input trace (emulation_by (LINUX-type (number g.row.LINUX)))) (drawn_so old.input new end.input c.requires.startable))
