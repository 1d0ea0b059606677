-- The rows of processes and threads, and how calls change them.
use Rattle.st_base.specs.Numbered.{item_at_number_or, with_item_at_number}
use Rattle.std.specs.Prelude.{ℕ, zero, suc, ◌<◌, ◌==◌, ◌&&◌, ◌||◌, not, nat_lt, if◌then◌else◌, Bool, true, false, List, [], ◌∷◌, ◌++◌, length, slice_index_or, slice_set, Option, Some, None, unwrap_or}
use Rattle.std.specs.Option.{option_map}
use Rattle.std.specs.Ordering.{nat_cmp}
use Rattle.std.specs.List.{list_any}
use Rattle.std.specs.Map.{lookup, values_of}
use Rattle.std.specs.BTreeMap.{insert_entry, is_at}
use Rattle.st_base.specs.Ids.{identity}
use Rattle.st_base.specs.declared.ids.Ids.{Ids}
use Rattle.st_names.specs.Name.{Components}
use Rattle.st_model.specs.Process.{Process}

-- a thread that has started
pub record StartedThread : Type 0 where
  pub pid : ℕ
  pub ended : Bool

-- Processes are numbered from 1, in the order of their rows. Threads are sorted by number; only threads that have started
-- have an entry.
pub record Processes : Type 0 where
  pub rows : List Process
  pub threads : List (ℕ × StartedThread)

-- the default row for a number that no process has
abbrev pub no_process : Process
no_process = record { traced = false; policy = []; ids = identity 0 0; cwd = []; space = 0 }

-- the process with this number
abbrev pub process_at : Processes → ℕ → Process
process_at processes pid = item_at_number_or no_process processes.rows pid

-- the number of the next process to be made
abbrev pub next_pid : Processes → ℕ
next_pid processes = suc (length processes.rows)

-- some process has this number
abbrev pub IsPid : Processes → ℕ → Type 0
IsPid processes pid = (0 < pid) × (pid < next_pid processes)

-- the thread with this number; none if it hasn't started
abbrev pub thread_at : Processes → ℕ → Option StartedThread
thread_at processes tid = lookup (is_at (nat_cmp tid)) processes.threads

-- the process of a thread; none if the thread hasn't started
abbrev pub pid_of : Processes → ℕ → Option ℕ
pid_of processes tid = option_map (λ thread. thread.pid) (thread_at processes tid)

-- the process of a thread; 0 before it starts
abbrev pub owner_of : Processes → ℕ → ℕ
owner_of processes tid = unwrap_or (pid_of processes tid) 0

-- whether there is a thread and it hasn't ended
abbrev pub has_not_ended : Option StartedThread → Bool
has_not_ended None = false
has_not_ended (Some thread) = not thread.ended

-- whether a thread has started and hasn't ended
abbrev pub is_running : Processes → ℕ → Bool
is_running processes tid = has_not_ended (thread_at processes tid)

-- whether a thread belongs to this process
abbrev pub is_thread_of : ℕ → StartedThread → Bool
is_thread_of pid thread = thread.pid == pid

-- whether a thread belongs to this process and hasn't ended
abbrev pub is_running_in : ℕ → StartedThread → Bool
is_running_in pid thread = thread.pid == pid && not thread.ended

-- whether some process has this number
abbrev pub is_pid : Processes → ℕ → Bool
is_pid processes pid = nat_lt 0 pid && nat_lt pid (next_pid processes)

-- whether a process exists and hasn't ended: it never had a thread, or has a thread that hasn't ended
abbrev pub is_process_live : Processes → ℕ → Bool
is_process_live processes pid =
    is_pid processes pid && (not (list_any (is_thread_of pid) (values_of processes.threads)) || list_any (is_running_in pid) (values_of processes.threads))

-- the rows after one more process, without threads, is added
abbrev pub processes_after_start : Processes → Process → Processes
processes_after_start processes process = record { rows = processes.rows ++ process ∷ []; threads = processes.threads }

-- the rows with this thread, and nothing else changed
abbrev pub with_thread : Processes → ℕ → StartedThread → Processes
with_thread processes tid thread = record { rows = processes.rows; threads = insert_entry nat_cmp processes.threads tid thread }

-- the rows after a thread of a process starts
abbrev pub processes_after_begin : Processes → ℕ → ℕ → Processes
processes_after_begin processes tid pid = with_thread processes tid (record { pid = pid; ended = false })

-- the rows after fork(2): one more process, with the parent's row except for its memory, and with one thread
abbrev pub processes_after_fork : Processes → ℕ → ℕ → ℕ → Processes
processes_after_fork processes pid tid space =
    processes_after_begin (processes_after_start processes (record (process_at processes pid) { space = space })) tid (next_pid processes)

-- the rows with the row of one process replaced, and nothing else changed
abbrev pub with_process : Processes → ℕ → Process → Processes
with_process processes pid process = record { rows = with_item_at_number processes.rows pid process; threads = processes.threads }

-- the policy that applies after a process executes a binary
abbrev pub policy_after_exec : Bool → List ℕ → List ℕ → List ℕ
policy_after_exec inherit before binary = if inherit then before else binary

-- a process's row after it executes a binary
abbrev pub process_after_exec : Process → List ℕ → ℕ → Bool → Process
process_after_exec process binary space inherit = record process { policy = policy_after_exec inherit process.policy binary; space = space }

-- the rows after execve(2): the process has another memory, and the binary's policy unless it inherits the policy from before
abbrev pub processes_after_exec : Processes → ℕ → List ℕ → ℕ → Bool → Processes
processes_after_exec processes pid binary space inherit =
    with_process processes pid (process_after_exec (process_at processes pid) binary space inherit)

-- the rows with these ids for a process
abbrev pub with_ids : Processes → ℕ → Ids → Processes
with_ids processes pid ids = with_process processes pid (record (process_at processes pid) { ids = ids })

-- the rows with this working directory for a process
abbrev pub with_cwd : Processes → ℕ → Components → Processes
with_cwd processes pid cwd = with_process processes pid (record (process_at processes pid) { cwd = cwd })

-- the rows after the thread with this number, if it has started, ends
abbrev pub processes_after_end_at : Processes → ℕ → Option StartedThread → Processes
processes_after_end_at processes tid None = processes
processes_after_end_at processes tid (Some thread) = with_thread processes tid (record thread { ended = true })

-- the rows after a thread ends
abbrev pub processes_after_end : Processes → ℕ → Processes
processes_after_end processes tid = processes_after_end_at processes tid (thread_at processes tid)
