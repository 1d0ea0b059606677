use Rattle.st_relearn.proofs.LearntFilters.{learnt_is_writable}
use Rattle.st_relearn.proofs.law.what_is_learnt_can_be_written.Goals as goal

pub returns : goal.returns
returns c = learnt_is_writable
