use Rattle.std.proofs.Common.{refl}
use Rattle.st_reschedule.proofs.law.what_a_line_of_a_schedule_says.Goals as goal

pub returns-clause-most : goal.returns-clause-most
returns-clause-most c = refl

pub returns-clause-thread : goal.returns-clause-thread
returns-clause-thread c = refl

pub returns-clause-worker : goal.returns-clause-worker
returns-clause-worker c = refl

pub returns-clause-operator : goal.returns-clause-operator
returns-clause-operator c = refl

pub returns-clause-rest : goal.returns-clause-rest
returns-clause-rest c = refl

pub returns-clause-none : goal.returns-clause-none
returns-clause-none c = refl

pub returns-clause-more : goal.returns-clause-more
returns-clause-more c = refl
