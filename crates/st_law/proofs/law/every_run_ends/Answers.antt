use Rattle.st_law.proofs.EndOfRuns.{run_bound, number_bound}
use Rattle.st_law.proofs.Resting.{rest_settles}
use Rattle.st_law.proofs.law.every_run_ends.Goals as goal

pub returns-clause-steps : goal.returns-clause-steps
returns-clause-steps c = run_bound

pub returns-clause-number : goal.returns-clause-number
returns-clause-number c = number_bound

pub returns-clause-rest : goal.returns-clause-rest
returns-clause-rest c = rest_settles
