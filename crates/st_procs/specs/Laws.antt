-- What the laws of processes say: which rows and threads a call changes, and when a process ends.
use Rattle.std.specs.Prelude.{◌≡◌, ◌≢◌, ℕ, Bool, true, false, if◌then◌else◌, ◌==◌, List, Some}
use Rattle.std.specs.Option.{option_map}
use Rattle.std.specs.List.Sorted.{IsStrictlySortedBy}
use Rattle.std.specs.Map.{keys_of}
use Rattle.std.specs.Ordering.{nat_cmp}
use Rattle.st_base.specs.declared.ids.Ids.{Ids}
use Rattle.st_names.specs.Name.{Components}
use Rattle.st_model.specs.Process.{Process}
use Rattle.st_model.specs.Processes.{Processes, StartedThread, IsPid, process_at, next_pid, pid_of, is_running, is_process_live, thread_at, processes_after_start, processes_after_fork, process_after_exec, processes_after_exec, with_ids, with_cwd, processes_after_end}

-- each thread has one entry, in the order of the numbers
abbrev pub AreOrdered : Processes → Type 0
AreOrdered processes = IsStrictlySortedBy nat_cmp (keys_of processes.threads)

-- a process never had a thread
abbrev pub HasNoThread : Processes → ℕ → Type 0
HasNoThread processes pid = (tid : ℕ) → pid_of processes tid ≢ Some pid

-- a process had a thread, and each that it had has ended
abbrev pub HasEnded : Processes → ℕ → Type 0
HasEnded processes pid =
    ((tid : ℕ) × (pid_of processes tid ≡ Some pid)) × ((tid : ℕ) → pid_of processes tid ≡ Some pid → is_running processes tid ≡ false)

-- each other thread of this thread's process has ended
abbrev pub IsLast : Processes → ℕ → Type 0
IsLast processes tid = (other : ℕ) → other ≢ tid → pid_of processes other ≡ pid_of processes tid → is_running processes other ≡ false

-- this thread of a process runs now, and the other threads are as they were
abbrev pub ThreadStarts : Processes → ℕ → ℕ → Processes → Type 0
ThreadStarts old tid pid new = (other : ℕ) → thread_at new other ≡ (if other == tid then Some (record { pid = pid; ended = false }) else thread_at old other)

-- this thread has ended now, and the other threads are as they were
abbrev pub ThreadEnds : Processes → ℕ → Processes → Type 0
ThreadEnds old tid new = (other : ℕ) → thread_at new other ≡ (if other == tid then option_map (λ (thread : StartedThread). record thread { ended = true }) (thread_at old tid) else thread_at old other)

-- the row of a process is this row now, and the other rows are as they were
abbrev pub ChangesRow : Processes → ℕ → Process → Processes → Type 0
ChangesRow old pid process new = (other : ℕ) → process_at new other ≡ (if other == pid then process else process_at old other)

-- a process that starts has its row, and no other row changes
abbrev pub StartsAdd : Type 0
StartsAdd = (p : Processes) (process : Process) → ChangesRow p (next_pid p) process (processes_after_start p process)

-- a child has its parent's row but for its memory, and no other row changes
abbrev pub ChildrenAreLikeParents : Type 0
ChildrenAreLikeParents = (p : Processes) (pid tid space : ℕ) → ChangesRow p (next_pid p) (record (process_at p pid) { space = space }) (processes_after_fork p pid tid space)

-- execve(2) changes the policy and the memory of one process, and no other row changes
abbrev pub BinariesAreOwn : Type 0
BinariesAreOwn = (p : Processes) (pid : ℕ) (binary : List ℕ) (space : ℕ) (inherit : Bool) → IsPid p pid →
    ChangesRow p pid (process_after_exec (process_at p pid) binary space inherit) (processes_after_exec p pid binary space inherit)

-- a call that sets ids sets those of one process, and no other row changes
abbrev pub IdsAreOwn : Type 0
IdsAreOwn = (p : Processes) (pid : ℕ) (ids : Ids) → IsPid p pid → ChangesRow p pid (record (process_at p pid) { ids = ids }) (with_ids p pid ids)

-- a call that sets the directory sets that of one process, and no other row changes
abbrev pub DirectoriesAreOwn : Type 0
DirectoriesAreOwn = (p : Processes) (pid : ℕ) (cwd : Components) → IsPid p pid → ChangesRow p pid (record (process_at p pid) { cwd = cwd }) (with_cwd p pid cwd)

-- a process that never had a thread hasn't ended
abbrev pub NewProcessesAreLive : Type 0
NewProcessesAreLive = (p : Processes) (pid : ℕ) → AreOrdered p → IsPid p pid → HasNoThread p pid → is_process_live p pid ≡ true

-- a process ends with its last thread
abbrev pub ProcessesEndWithLastThread : Type 0
ProcessesEndWithLastThread = (p : Processes) (tid pid : ℕ) → AreOrdered p → pid_of p tid ≡ Some pid → IsLast p tid → is_process_live (processes_after_end p tid) pid ≡ false
