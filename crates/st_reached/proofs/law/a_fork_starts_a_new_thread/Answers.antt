use Rattle.st_reached.proofs.Starting.{forks_start_new}
use Rattle.st_reached.proofs.law.a_fork_starts_a_new_thread.Goals as goal

pub returns : goal.returns
returns c = forks_start_new
