use Rattle.std.proofs.Common.{◌∙◌, refl}
use Rattle.st_command.specs.declared.given.Print.TheVariants as print
use Rattle.st_top.proofs.ThreadedRuns.{threads_show}
use Rattle.st_top.proofs.threaded.trace_made.Goals as goal

pub returns : goal.returns
returns c emulation =
    let made = c.args.kernel.now in
    threads_show print.Trace emulation made.input made c.into_text.result c.in_ok-schedule.schedule (c.choices_of.ensures.whole c.requires.settled) refl c.in_ok-schedule.ensures.made
    (c.into_text.ensures ∙ c.requires.noted)
