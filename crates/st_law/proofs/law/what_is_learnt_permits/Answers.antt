use Rattle.st_law.proofs.Learning.{learnt_holds, learned_decides}
use Rattle.st_law.proofs.LearntExactly.{exactly}
use Rattle.st_law.proofs.law.what_is_learnt_permits.Goals as goal

pub returns-clause-holds : goal.returns-clause-holds
returns-clause-holds c = learnt_holds

pub returns-clause-number : goal.returns-clause-number
returns-clause-number c = learned_decides

pub returns-clause-exactly : goal.returns-clause-exactly
returns-clause-exactly c = exactly
