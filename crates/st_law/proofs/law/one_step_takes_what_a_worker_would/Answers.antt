use Rattle.st_law.proofs.OneStepTaken as one_step
use Rattle.st_law.proofs.law.one_step_takes_what_a_worker_would.Goals as goal

pub returns : goal.returns
returns c = one_step.arguments_taken
