-- What is required of a script beyond a startable input: its stores are inside memory, each thread starts in at most one way, and the
-- script isn't too long.
use Rattle.std.specs.Prelude.{◌≤◌, ◌<◌, ℕ, ◌+◌, Bool, false, ◌==◌, if◌then◌else◌, length, sum_by, count_by, Option, Some, None, is_some}
use Rattle.std.specs.List.{All}
use Rattle.st_base.specs.Numbered.{item_at_number}
use Rattle.st_model.specs.declared.limits.TheConstants.{SPACE_WORDS}
use Rattle.st_trace.specs.declared.start.Instr.{Instr}
use Rattle.st_trace.specs.declared.start.Instr.TheVariants.{Store, Call, Fork, Reload}
use Rattle.st_trace.specs.declared.start.Start.{Start}
use Rattle.st_trace.specs.declared.start.ThreadRow.{ThreadRow}

-- ---- stores

-- a store is inside memory
abbrev pub IsInMemory : Instr → Type 0
IsInMemory (Store place word) = place < SPACE_WORDS
IsInMemory (Call call regs) = Unit {0}
IsInMemory (Fork child) = Unit {0}
IsInMemory (Reload n) = Unit {0}

-- each store of a script is inside memory
abbrev pub StoresInMemory : Start → Type 0
StoresInMemory start = All (λ row. All IsInMemory row.body) start.threads

-- ---- how threads start

-- 1 if the row of a thread starts it in a process, 0 if it waits for a fork
abbrev pub starts_by_row : Option ThreadRow → ℕ
starts_by_row None = 0
starts_by_row (Some row) = if is_some row.process then 1 else 0

-- whether an instruction starts this thread
abbrev pub is_start_of : ℕ → Instr → Bool
is_start_of t (Store place word) = false
is_start_of t (Call call regs) = false
is_start_of t (Fork child) = child == t
is_start_of t (Reload n) = false

-- in how many ways a thread can start: by its row, and by each instruction of any body that forks it
abbrev pub starts_of : Start → ℕ → ℕ
starts_of start t = starts_by_row (item_at_number start.threads t) + sum_by (λ row. count_by (is_start_of t) row.body) start.threads

-- each thread can start in at most one way
abbrev pub StartOnce : Start → Type 0
StartOnce start = (t : ℕ) → starts_of start t ≤ 1

-- ---- all requirements

-- a script that isn't too long, and meets these requirements
pub record IsBounded (start : Start) : Type 0 where
  pub few_instructions : sum_by (λ row. length row.body) start.threads ≤ 4096
  pub few_processes : length start.processes ≤ 64
  pub stores : StoresInMemory start
  pub starts : StartOnce start
