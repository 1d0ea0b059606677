use Rattle.st_model.specs.Processes.{thread_at}
use Rattle.st_system.proofs.Kept.{started_runs}
use Rattle.st_system.proofs.laws.started_threads_run.Goals as goal

pub returns : goal.returns
returns c = λ i st parts tid x. started_runs (thread_at parts.processes tid) (st.threads tid) (x.threads tid)
