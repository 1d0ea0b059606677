use Rattle.st_relearn.proofs.Keeping.{copies_of_runs}
use Rattle.st_relearn.proofs.law.what_a_run_copies_can_be_written.Goals as goal

pub returns : goal.returns
returns c = copies_of_runs
