use Rattle.std.proofs.Common.{subst}
use Rattle.st_command.specs.declared.given.Print.TheVariants as print
use Rattle.st_law.specs.declared.input.Input.{Input}
use Rattle.st_top.specs.RunEnds.{ThreadsShow}
use Rattle.st_top.proofs.threaded.schedule_by_threads.Goals as goal

pub returns : goal.returns
returns g c emulation = subst (λ (i : Input). ThreadsShow print.Schedule i emulation c.schedule_made.result) c.in_ok-kernel.ensures.input (c.schedule_made.ensures emulation)
