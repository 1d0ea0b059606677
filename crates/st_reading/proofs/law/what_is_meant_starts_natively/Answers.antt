use Rattle.st_reading.proofs.RunMeanings.{run_starts}
use Rattle.st_reading.proofs.Runnable.{replay_starts, step_starts}
use Rattle.st_reading.proofs.law.what_is_meant_starts_natively.Goals as goal

pub returns-clause-step : goal.returns-clause-step
returns-clause-step c = step_starts

pub returns-clause-replay : goal.returns-clause-replay
returns-clause-replay c = replay_starts

pub returns-clause-run : goal.returns-clause-run
returns-clause-run c = run_starts
