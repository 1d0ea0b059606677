use Rattle.st_law.specs.Machine.{state_of_run}
use Rattle.st_reached.proofs.Reached.{reached_run}
use Rattle.st_reached.proofs.Still.{none_still, still_none}
use Rattle.st_reached.proofs.law.threads_that_are_still.Goals as goal

pub returns : goal.returns
returns c = λ input startable choices t. (none_still input (state_of_run input choices) (reached_run input startable choices).whole t, still_none input (state_of_run input choices) t)
