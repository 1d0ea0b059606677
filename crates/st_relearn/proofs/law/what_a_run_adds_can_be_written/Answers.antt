use Rattle.st_relearn.proofs.Runs.{in_force_writable, run_adds_writable, run_changes_writable}
use Rattle.st_relearn.proofs.law.what_a_run_adds_can_be_written.Goals as goal

pub returns-clause-session : goal.returns-clause-session
returns-clause-session c = run_adds_writable

pub returns-clause-in_force : goal.returns-clause-in_force
returns-clause-in_force c = in_force_writable

pub returns-clause-changed : goal.returns-clause-changed
returns-clause-changed c = run_changes_writable
