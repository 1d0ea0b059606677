use Rattle.st_law.proofs.Begun.{stale}
use Rattle.st_law.proofs.law.a_stale_answer_changes_nothing.Goals as goal

pub returns : goal.returns
returns c = stale
