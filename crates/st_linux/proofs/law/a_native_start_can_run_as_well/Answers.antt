use Rattle.st_linux.proofs.Kept.{startable_kept, can_start_kept, bounded_kept, can_run_kept}
use Rattle.st_linux.proofs.law.a_native_start_can_run_as_well.Goals as goal

pub returns-clause-startable : goal.returns-clause-startable
returns-clause-startable c = startable_kept

pub returns-clause-system : goal.returns-clause-system
returns-clause-system c = can_start_kept

pub returns-clause-bounded : goal.returns-clause-bounded
returns-clause-bounded c = bounded_kept

pub returns-clause-runs : goal.returns-clause-runs
returns-clause-runs c = can_run_kept
