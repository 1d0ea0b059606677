use Rattle.st_law.proofs.Standing.{answer_stands, used_as_answered, denied_as_answered}
use Rattle.st_law.proofs.law.an_answer_is_final.Goals as goal

pub returns-clause-copies : goal.returns-clause-copies
returns-clause-copies c = λ i startable later earlier w s v lawful. (answer_stands i startable later earlier w s v lawful).copies

pub returns-clause-used : goal.returns-clause-used
returns-clause-used c = used_as_answered

pub returns-clause-denied : goal.returns-clause-denied
returns-clause-denied c = denied_as_answered
