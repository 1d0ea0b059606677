use Rattle.st_reading.proofs.RunMeanings.{run_one, run_some}
use Rattle.st_reading.proofs.law.a_run_has_one_meaning.Goals as goal

pub returns-clause-some : goal.returns-clause-some
returns-clause-some c = run_some

pub returns-clause-one : goal.returns-clause-one
returns-clause-one c contents run a b known u v p q = run_one contents run known a b u v p q
