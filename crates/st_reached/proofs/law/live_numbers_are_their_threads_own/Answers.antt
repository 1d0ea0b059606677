use Rattle.st_law.specs.Machine.{state_of_run}
use Rattle.st_reached.proofs.Reached.{life_more, reached_run}
use Rattle.st_reached.proofs.law.live_numbers_are_their_threads_own.Goals as goal

pub returns-clause-own : goal.returns-clause-own
returns-clause-own c = λ input startable choices. (reached_run input startable choices).owned

pub returns-clause-life : goal.returns-clause-life
returns-clause-life c = λ input startable choices. life_more input (state_of_run input choices) (reached_run input startable choices)
