-- How the changes of a call change processes, threads, memories and tables of descriptors.
use Rattle.std.specs.Prelude.{◌≡◌, ℕ, Bool, true, false, ◌==◌, if◌then◌else◌, List, [], ◌∷◌, Option, Some}
use Rattle.std.specs.List.{fold}
use Rattle.st_model.specs.Processes.{Processes, StartedThread, next_pid, owner_of, process_at, thread_at}
use Rattle.st_memory.specs.Memory.{Memories, byte_in, is_space_live, next_space}
use Rattle.st_effects.specs.Changes.{memory_after, next_process_after, next_space_after, owner_after, process_after}
use Rattle.st_trace.specs.declared.entry.Change.{Change}
use Rattle.st_trace.specs.declared.entry.Change.TheVariants.{Dying, Forked, SetIds}

-- processes whose threads can only end, and no other change
abbrev pub AreEndings : List Change → Type 0
AreEndings [] = Unit {0}
AreEndings (Dying pid ∷ changes) = AreEndings changes
AreEndings (change ∷ changes) = ⊥

-- changes of ids, and no other change
abbrev pub AreSetIdsOnly : List Change → Type 0
AreSetIdsOnly [] = Unit {0}
AreSetIdsOnly (SetIds ids ∷ changes) = AreSetIdsOnly changes
AreSetIdsOnly (change ∷ changes) = ⊥

-- ---- processes

-- thread t after a change: a thread that is started runs in the new process
abbrev pub thread_after_change : ℕ → Option StartedThread → Change → Option StartedThread
thread_after_change t before (Forked pid space tid) = if t == tid then Some (record { pid = pid; ended = false }) else before
thread_after_change t before _ = before

-- thread t after changes
abbrev pub thread_after_changes : ℕ → Option StartedThread → List Change → Option StartedThread
thread_after_changes t before changes = fold (thread_after_change t) before changes

-- the processes are as the changes that one of them makes leave them, and so are the threads
pub record AreProcessesAndThreadsAfter (old : Processes) (pid : ℕ) (changes : List Change) (new : Processes) : Type 0 where
  pub processes : (p : ℕ) → process_at new p ≡ process_after (process_at old) pid p changes
  pub next : next_pid new ≡ next_process_after (next_pid old) changes
  pub threads : (t : ℕ) → thread_at new t ≡ thread_after_changes t (thread_at old t) changes
  pub owners : (t : ℕ) → owner_of new t ≡ owner_after t (owner_of old t) changes

-- ---- memories

-- whether space s exists after a change
abbrev pub is_live_after_change : ℕ → Bool → Change → Bool
is_live_after_change s before (Forked pid space tid) = if s == space then true else before
is_live_after_change s before _ = before

-- whether space s exists after changes
abbrev pub is_live_after : ℕ → Bool → List Change → Bool
is_live_after s before changes = fold (is_live_after_change s) before changes

-- the memories are as the changes that a process with this space makes leave them
pub record AreMemoriesAfter (old : Memories) (own : ℕ) (changes : List Change) (new : Memories) : Type 0 where
  pub bytes : (s b : ℕ) → byte_in new s b ≡ memory_after own (byte_in old) changes s b
  pub next : next_space new ≡ next_space_after (next_space old) changes
  pub live : (s : ℕ) → is_space_live new s ≡ is_live_after s (is_space_live old s) changes

-- ---- tables of descriptors

-- whether process p has a table after a change
abbrev pub has_table_after_change : ℕ → Bool → Change → Bool
has_table_after_change p before (Forked pid space tid) = if p == pid then true else before
has_table_after_change p before _ = before

-- whether process p has a table after changes
abbrev pub has_table_after : ℕ → Bool → List Change → Bool
has_table_after p before changes = fold (has_table_after_change p) before changes
