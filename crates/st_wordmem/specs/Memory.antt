-- What contracts see of a memory without a lock, its root and its seats.
use Rattle.std.specs.Prelude.{◌≤◌, ℕ, [], length}
use Rattle.atomic_table.specs.Seated.{TableId}
use Rattle.st_trace.specs.declared.start.Start.{Start}
use Rattle.st_wordmem.specs.declared.seat_state.SeatState.{SeatState}
use Rattle.st_wordmem.specs.declared.seat_state.SeatState.TheVariants.{Root, Thread, Spent}

-- a memory: which table of words it has, the script that its threads run, and its process
pub record MemoryOf : Type 0 where
  pub table : TableId
  pub start : Start
  pub pid : ℕ

-- a root: which memory it is of, and the thread of the process that is given a seat next
pub record RootOf : Type 0 where
  pub memory : MemoryOf
  pub next : ℕ

-- a seat: which memory it is of, its thread, and how many stores of its body the thread made
pub record SeatOf : Type 0 where
  pub memory : MemoryOf
  pub thread : ℕ
  pub made : ℕ

-- the memory with this table of words
abbrev pub memory_of : TableId → Start → ℕ → MemoryOf
memory_of table start pid = record { table = table; start = start; pid = pid }

-- a script without rows: a spent seat tells no more whose it was
abbrev pub no_start : Start
no_start = record { users = []; groups = []; tree = []; processes = []; threads = [] }

-- the memory that a state of a seat at a table is of
abbrev pub memory_in : TableId → SeatState → MemoryOf
memory_in table (Root start pid next) = memory_of table start pid
memory_in table (Thread start pid thread made) = memory_of table start pid
memory_in table Spent = memory_of table no_start 0

-- the thread of a thread's state, 0 of any other
abbrev pub thread_in : SeatState → ℕ
thread_in (Thread start pid thread made) = thread
thread_in state = 0

-- how many stores it made, by its state
abbrev pub made_in : SeatState → ℕ
made_in (Thread start pid thread made) = made
made_in state = 0

-- the thread that a root gives a seat next; 0 of any other
abbrev pub next_in : SeatState → ℕ
next_in (Root start pid next) = next
next_in state = 0

-- the state of a root
abbrev pub IsRoot : SeatState → Type 0
IsRoot (Root start pid next) = Unit {0}
IsRoot state = ⊥

-- the state of a thread's seat
abbrev pub IsThreadSeat : SeatState → Type 0
IsThreadSeat (Thread start pid thread made) = Unit {0}
IsThreadSeat state = ⊥

-- a number is that of a process of a script
abbrev pub IsProcessOf : Start → ℕ → Type 0
IsProcessOf start pid = (1 ≤ pid) × (pid ≤ length start.processes)
