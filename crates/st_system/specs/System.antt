-- The parts of the modelled system, and how they represent the state of the law's machine.
use Rattle.std.specs.Prelude.{◌≡◌, ◌≤◌, ℕ, Bool, true, false, ◌&&◌, not, nat_lt, length, Option, Some, None}
use Rattle.st_names.specs.Name.{printed_name}
use Rattle.st_names.specs.declared.limits.TheConstants.{LONGEST_NAME}
use Rattle.st_request.specs.Ready.{IsReady}
use Rattle.st_memory.specs.Memory.{Memories, byte_in, is_space_live, next_space}
use Rattle.st_model.specs.Descriptors.{Table, has_table}
use Rattle.st_model.specs.Processes.{Processes, StartedThread, IsPid, next_pid, process_at, thread_at}
use Rattle.st_model.specs.Tree.{Tree}
use Rattle.st_procs.specs.Laws.{AreOrdered}
use Rattle.st_law.specs.declared.input.Input.{Input}
use Rattle.st_law.specs.State.{State, ThreadState, thread_count}

-- the parts of the system that calls are made over
pub record Parts : Type 0 where
  pub tree : Tree
  pub descriptors : Table
  pub processes : Processes
  pub memories : Memories

-- ---- invariants of the parts

-- the process of a thread that has started exists
abbrev pub HasOwner : Processes → Option StartedThread → Type 0
HasOwner processes None = Unit {0}
HasOwner processes (Some thread) = IsPid processes thread.pid

-- the invariants of the parts: every process can make calls and has a memory of its own, the name of its directory isn't too long, and
-- nothing else has descriptors or threads
pub record IsValidSystem (parts : Parts) : Type 0 where
  pub ordered : AreOrdered parts.processes
  pub owners : (t : ℕ) → HasOwner parts.processes (thread_at parts.processes t)
  pub ready : (p : ℕ) → IsPid parts.processes p → IsReady parts.tree parts.descriptors parts.processes parts.memories p
  pub tables : (p : ℕ) → has_table parts.descriptors p ≡ true → IsPid parts.processes p
  pub apart : (p q : ℕ) → IsPid parts.processes p → IsPid parts.processes q → (process_at parts.processes p).space ≡ (process_at parts.processes q).space → p ≡ q
  pub short : (p : ℕ) → length (printed_name (process_at parts.processes p).cwd) ≤ LONGEST_NAME

-- ---- the parts and the state

-- a thread that has started, and whether it has ended; or a thread that hasn't started
abbrev pub IsThreadState : Option StartedThread → ThreadState → Type 0
IsThreadState None row = (row.owner ≡ 0) × (row.ended ≡ false)
IsThreadState (Some thread) row = (row.owner ≡ thread.pid) × (row.ended ≡ thread.ended)

-- a thread that has started has a number up to this count
abbrev pub IsAmong : ℕ → ℕ → Option StartedThread → Type 0
IsAmong count t None = Unit {0}
IsAmong count t (Some thread) = (1 ≤ t) × (t ≤ count)

-- whether a memory was given up: its number was given, and it no longer exists
abbrev pub is_given_up : Memories → ℕ → Bool
is_given_up memories s = nat_lt s (next_space memories) && not (is_space_live memories s)

-- the parts represent the state, except for the content of memories that were given up
pub record IsSystem (i : Input) (st : State) (parts : Parts) : Type 0 where
  pub tree : st.tree ≡ parts.tree
  pub descriptors : st.descriptors ≡ parts.descriptors
  pub processes : (p : ℕ) → st.processes p ≡ process_at parts.processes p
  pub next_process : st.next_process ≡ next_pid parts.processes
  pub memory : (s b : ℕ) → is_given_up parts.memories s ≡ false → st.memory s b ≡ byte_in parts.memories s b
  pub next_space : st.next_space ≡ next_space parts.memories
  pub threads : (t : ℕ) → IsThreadState (thread_at parts.processes t) (st.threads t)
  pub among : (t : ℕ) → IsAmong (thread_count i) t (thread_at parts.processes t)
