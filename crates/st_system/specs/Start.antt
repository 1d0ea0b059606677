-- The system that a run starts with: its parts, as the rows of a script build them one after the other.
use Rattle.std.specs.Prelude.{◌≡◌, ◌≤◌, ℕ, suc, true, false, if◌then◌else◌, ◌==◌, ◌&&◌, nat_le, [], Option, Some, None}
use Rattle.std.specs.List.{fold, range_with_len}
use Rattle.st_memory.specs.Memory.{Memories, byte_in, is_space_live, next_space}
use Rattle.st_model.specs.DescriptorCalls.{table_after_start}
use Rattle.st_model.specs.Descriptors.{Table, has_table}
use Rattle.st_model.specs.Process.{Process}
use Rattle.st_model.specs.Processes.{Processes, StartedThread, next_pid, process_at, thread_at}
use Rattle.st_model.specs.Tree.{Tree}
use Rattle.st_procs.specs.Laws.{AreOrdered}
use Rattle.st_request.specs.Ready.{AreValidOpenFiles}
use Rattle.st_trace.specs.declared.start.ProcessRow.{ProcessRow}
use Rattle.st_law.specs.declared.input.Input.{Input}
use Rattle.st_law.specs.Processes.{first_ids, first_process, no_descriptors}
use Rattle.st_law.specs.Threads.{first_owner}

-- a process of a row, with a memory of this number
abbrev pub process_at_start : Option (ℕ × ℕ) → ℕ → ProcessRow → Process
process_at_start given space row = record { traced = row.traced; policy = row.binary; ids = first_ids given row.traced row.uid row.gid; cwd = row.cwd; space = space }

-- the first so many processes have started, with descriptors and memories, and no thread has started
pub record AreFirst (i : Input) (count : ℕ) (table : Table) (processes : Processes) (memories : Memories) : Type 0 where
  pub table_is : table ≡ fold table_after_start no_descriptors (range_with_len 1 count)
  pub has : (p : ℕ) → has_table table p ≡ (nat_le 1 p && nat_le p count)
  pub real : (tree : Tree) → AreValidOpenFiles tree table
  pub next : next_pid processes ≡ suc count
  pub rows : (p : ℕ) → 1 ≤ p → p ≤ count → process_at processes p ≡ first_process i p
  pub threads : processes.threads ≡ []
  pub next_space_is : next_space memories ≡ suc count
  pub live : (s : ℕ) → 1 ≤ s → s ≤ count → is_space_live memories s ≡ true
  pub zeros : (s b : ℕ) → byte_in memories s b ≡ 0

-- a thread that has started by its row, if its row names a process
abbrev pub first_thread_of : ℕ → Option StartedThread
first_thread_of owner = if owner == 0 then None else Some (record { pid = owner; ended = false })

-- of the threads up to this number, exactly those have started whose rows name a process; no later thread has
pub record HaveStarted (i : Input) (count : ℕ) (before after : Processes) : Type 0 where
  pub rows : after.rows ≡ before.rows
  pub ordered : AreOrdered after
  pub threads : (t : ℕ) → thread_at after t ≡ (if nat_le t count then first_thread_of (first_owner i t) else None)
