-- What the changes of a call leave alone: threads that end leave everything, and ids that are set leave everything but the ids.
use Rattle.std.proofs.Common.{◌≡◌, ◌∙◌, refl, sym, ap, ℕ, Bool, true, false, cond, ◌==◌, List, [], ◌∷◌, Option}
use Rattle.std.specs.List.{fold}
use Rattle.st_base.specs.declared.ids.Ids.{Ids}
use Rattle.st_fds.specs.Table.{KeepsTables}
use Rattle.st_memory.specs.Memory.{Memories, byte_in, is_space_live, next_space}
use Rattle.st_model.specs.Descriptors.{Table, has_table}
use Rattle.st_model.specs.Process.{Process}
use Rattle.st_model.specs.Processes.{Processes, StartedThread, next_pid, process_at, thread_at, owner_of}
use Rattle.st_effects.specs.Changes.{memory_after, next_process_after, next_space_after, owner_after, process_after, process_after_change}
use Rattle.st_trace.specs.declared.entry.Change.{Change}
use Rattle.st_trace.specs.declared.entry.Change.TheVariants.{Dying, SetIds}
use Rattle.st_exec_sys.specs.Changes.{has_table_after, is_live_after, thread_after_changes, AreEndings, AreMemoriesAfter, AreSetIdsOnly, AreProcessesAndThreadsAfter}

-- changes leave everything but the rows of processes
pub record LeaveRest (changes : List Change) : Type 0 where
  pub next : (n : ℕ) → next_process_after n changes ≡ n
  pub threads : (t : ℕ) (before : Option StartedThread) → thread_after_changes t before changes ≡ before
  pub owners : (t before : ℕ) → owner_after t before changes ≡ before
  pub bytes : (own : ℕ) (before : ℕ → ℕ → ℕ) → memory_after own before changes ≡ before
  pub spaces : (n : ℕ) → next_space_after n changes ≡ n
  pub live : (s : ℕ) (before : Bool) → is_live_after s before changes ≡ before
  pub tables : (p : ℕ) (before : Bool) → has_table_after p before changes ≡ before

leave_none : LeaveRest []
leave_none = record {
  next = λ n. refl;
  threads = λ t before. refl;
  owners = λ t before. refl;
  bytes = λ own before. refl;
  spaces = λ n. refl;
  live = λ s before. refl;
  tables = λ p before. refl;
}

pub endings_leave : (changes : List Change) → AreEndings changes → LeaveRest changes
endings_leave [] e = leave_none
endings_leave (Dying pid ∷ changes) e = let more : LeaveRest changes = endings_leave changes e in record {
  next = more.next;
  threads = more.threads;
  owners = more.owners;
  bytes = more.bytes;
  spaces = more.spaces;
  live = more.live;
  tables = more.tables;
}
endings_leave (change ∷ changes) e = absurd e

pub ids_leave : (changes : List Change) → AreSetIdsOnly changes → LeaveRest changes
ids_leave [] e = leave_none
ids_leave (SetIds ids ∷ changes) e = let more : LeaveRest changes = ids_leave changes e in record {
  next = more.next;
  threads = more.threads;
  owners = more.owners;
  bytes = more.bytes;
  spaces = more.spaces;
  live = more.live;
  tables = more.tables;
}
ids_leave (change ∷ changes) e = absurd e

-- threads that end leave the rows too
rows_left : (all : ℕ → Process) (m p : ℕ) (before : Process) (changes : List Change) → AreEndings changes → fold (process_after_change all m p) before changes ≡ before
rows_left all m p before [] e = refl
rows_left all m p before (Dying pid ∷ changes) e = rows_left all m p before changes e
rows_left all m p before (change ∷ changes) e = absurd e

same_space : (ids : Ids) (before : Process) (b : Bool) → (cond b (record before { ids = ids }) before).space ≡ before.space
same_space ids before true = refl
same_space ids before false = refl

-- ids that are set leave the memory of each process
space_left_from : (all : ℕ → Process) (m p : ℕ) (before : Process) (changes : List Change) → AreSetIdsOnly changes → (fold (process_after_change all m p) before changes).space ≡ before.space
space_left_from all m p before [] e = refl
space_left_from all m p before (SetIds ids ∷ changes) e =
    space_left_from all m p (cond (m == p) (record before { ids = ids }) before) changes e ∙ same_space ids before (m == p)
space_left_from all m p before (change ∷ changes) e = absurd e

pub space_left : (all : ℕ → Process) (m p : ℕ) (changes : List Change) → AreSetIdsOnly changes → (process_after all m p changes).space ≡ (all p).space
space_left all m p changes e = space_left_from all m p (all p) changes e

-- ---- the parts that stay

module _ (changes : List Change) where
  -- the processes, after changes that only end threads
  pub processes_stay : (processes : Processes) (pid : ℕ) → AreEndings changes → AreProcessesAndThreadsAfter processes pid changes processes
  processes_stay processes pid e = let rest : LeaveRest changes = endings_leave changes e in record {
    processes = λ p. sym (rows_left (process_at processes) pid p (process_at processes p) changes e);
    next = sym (rest.next (next_pid processes));
    threads = λ t. sym (rest.threads t (thread_at processes t));
    owners = λ t. sym (rest.owners t (owner_of processes t));
  }

  -- the memories, after changes that leave them alone
  pub memories_stay : (memories : Memories) (own : ℕ) → LeaveRest changes → AreMemoriesAfter memories own changes memories
  memories_stay memories own rest = record {
    bytes = λ s b. sym (ap (λ (m : ℕ → ℕ → ℕ). m s b) (rest.bytes own (byte_in memories)));
    next = sym (rest.spaces (next_space memories));
    live = λ s. sym (rest.live s (is_space_live memories s));
  }

  -- the tables, after changes that leave them alone
  pub tables_stay : (old new : Table) → LeaveRest changes → KeepsTables old new → (p : ℕ) → has_table new p ≡ has_table_after p (has_table old p) changes
  tables_stay old new rest keeps p = keeps p ∙ sym (rest.tables p (has_table old p))
