use Rattle.st_reading.proofs.Runnable.{check_prints, replay_replays, step_runs}
use Rattle.st_reading.proofs.law.each_command_means_its_own_kind.Goals as goal

pub returns-clause-step : goal.returns-clause-step
returns-clause-step c = step_runs

pub returns-clause-replay : goal.returns-clause-replay
returns-clause-replay c = replay_replays

pub returns-clause-check : goal.returns-clause-check
returns-clause-check c = check_prints
