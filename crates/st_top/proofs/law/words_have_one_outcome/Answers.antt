use Rattle.st_top.proofs.Outcomes.{one_outcome, some_outcome}
use Rattle.st_top.proofs.law.words_have_one_outcome.Goals as goal

pub returns-clause-some : goal.returns-clause-some
returns-clause-some c = some_outcome c.what_is_meant_to_be_replayed_can_run.ensures

pub returns-clause-one : goal.returns-clause-one
returns-clause-one c = one_outcome
