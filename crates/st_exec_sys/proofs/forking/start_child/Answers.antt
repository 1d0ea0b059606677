use Rattle.st_exec_sys.proofs.Ordered.{ordered_fork}
use Rattle.st_exec_sys.proofs.forking.start_child.Goals as goal

pub returns-clause-ordered : goal.returns-clause-ordered
returns-clause-ordered c = ordered_fork _ _ _ _ _ c.in_ok-fork.ensures.ok
