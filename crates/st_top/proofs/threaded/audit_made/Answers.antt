use denote.Param.{number}
use Rattle.std.proofs.Common.{◌∙◌, List, ap, refl}
use Rattle.st_audit.specs.AuditText.{audit}
use Rattle.st_audit.specs.Recording.{emulation_by}
use Rattle.st_command.specs.declared.given.Print.TheVariants as print
use Rattle.st_kernel.specs.Kernel.{drawn_of, trace_of}
use Rattle.st_trace.specs.declared.entry.Entry.{Entry}
use Rattle.st_top.proofs.Runs.{drawn_so, lawful_so}
use Rattle.st_top.proofs.ThreadedRuns.{merely_same, threads_show}
use Rattle.st_top.specs.contracts.threaded.audit_made.{LINUX-type}
use Rattle.st_top.proofs.threaded.audit_made.Goals as goal

pub returns : goal.returns
returns g c =
    let made = c.args.kernel.now in
    threads_show print.Audit (emulation_by (LINUX-type (number g.row.LINUX))) made.input made c.into_text.result c.in_ok-schedule.schedule (c.choices_of.ensures.whole c.requires.settled) refl c.in_ok-schedule.ensures.made
    (merely_same c.into_text.result (audit made.input (drawn_of made) (emulation_by (LINUX-type (number g.row.LINUX)))) c.requires.noted
    (λ noted. c.into_text.ensures.audit made.input (trace_of made) noted c.requires.startable (lawful_so made.input made refl c.requires.startable)
    ∙ ap (λ (trace : List Entry). audit made.input trace (emulation_by (LINUX-type (number g.row.LINUX)))) (drawn_so made.input made refl c.requires.startable)))
