use Rattle.std.proofs.Common.{◌∙◌, ap, refl}
use Rattle.st_command.specs.declared.given.Print.TheVariants as print
use Rattle.st_report.specs.ScheduleText.{repeats_text}
use Rattle.st_top.proofs.ThreadedRuns.{threads_show}
use Rattle.st_top.proofs.threaded.schedule_made.Goals as goal

pub returns : goal.returns
returns c emulation =
    let made = c.args.kernel.now in
    threads_show print.Schedule emulation made.input made c.in_ok-repeats_text.field-0 c.in_ok-schedule.schedule (c.choices_of.ensures.whole c.requires.settled) refl c.in_ok-schedule.ensures.made
    (c.in_ok-repeats_text.ensures ∙ ap repeats_text c.schedule.ensures.choices)
