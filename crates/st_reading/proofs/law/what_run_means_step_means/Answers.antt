use Rattle.st_reading.proofs.RunMeanings.{step_means_what_run_means}
use Rattle.st_reading.proofs.law.what_run_means_step_means.Goals as goal

pub returns : goal.returns
returns c = step_means_what_run_means
