use Rattle.st_law.specs.Machine.{state_of_run}
use Rattle.st_reached.proofs.Reached.{reached_run}
use Rattle.st_reached.proofs.StillWorkers.{none_worker, worker_none}
use Rattle.st_reached.proofs.law.workers_that_are_idle.Goals as goal

pub returns : goal.returns
returns c = λ input startable choices w. (none_worker input (state_of_run input choices) (reached_run input startable choices).whole w, worker_none input (state_of_run input choices) w)
