use Rattle.st_law.specs.Machine.{state_of_run}
use Rattle.st_reached.proofs.Reached.{held_live, reached_run}
use Rattle.st_reached.proofs.law.a_held_call_has_a_live_number.Goals as goal

pub returns : goal.returns
returns c = λ input startable choices. held_live input (state_of_run input choices) (reached_run input startable choices)
