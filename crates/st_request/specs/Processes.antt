-- How the changes of a call change the processes.
use Rattle.std.specs.Prelude.{◌≡◌, ℕ, List}
use Rattle.st_model.specs.Processes.{Processes, next_pid, process_at}
use Rattle.st_trace.specs.declared.entry.Change.{Change}
use Rattle.st_effects.specs.Changes.{process_after}

-- the processes are as the changes that one of them makes leave them; the threads and the number of the next process are as they
-- were
pub record AreProcessesAfter (old : Processes) (pid : ℕ) (changes : List Change) (new : Processes) : Type 0 where
  pub processes : (p : ℕ) → process_at new p ≡ process_after (process_at old) pid p changes
  pub threads : new.threads ≡ old.threads
  pub next : next_pid new ≡ next_pid old
