-- What an audit needs of a process, and of a call that was entered.
use Rattle.std.specs.Prelude.{ℕ, Bool, true, false, ◌==◌, if◌then◌else◌, List, Option, option_map}
use Rattle.std.specs.List.{fold}
use Rattle.st_law.specs.declared.input.Input.{Input}
use Rattle.st_law.specs.Processes.{process_at}
use Rattle.st_law.specs.Threads.{History, PendingCall, pending_at}
use Rattle.st_model.specs.Process.{Process}
use Rattle.st_audit.specs.declared.entered.EnteredCall.{EnteredCall}
use Rattle.st_trace.specs.declared.entry.Change.{Change}
use Rattle.st_trace.specs.declared.entry.Change.TheVariants.{Forked, Policy}

-- whether a process is traced, and its policy
pub record Row : Type 0 where
  pub traced : Bool
  pub policy : List ℕ

-- a row, from its parts
abbrev pub row_with : Bool → List ℕ → Row
row_with traced policy = record { traced = traced; policy = policy }

-- the row of a process
abbrev pub printed_row : Process → Row
printed_row process = row_with process.traced process.policy

-- the row of the process with a number
abbrev pub row_at : Input → History → ℕ → Row
row_at i h p = printed_row (process_at i h p)

-- whether a change gives a process another row
abbrev pub changes_row : Change → Bool
changes_row (Forked pid space tid) = true
changes_row (Policy binary) = true
changes_row _ = false

-- the row of process p after a change that process m makes, whose row was `parent`: a child has its parent's
abbrev pub row_after_change : Row → ℕ → ℕ → Row → Change → Row
row_after_change parent m p before (Forked pid space tid) = if pid == p then parent else before
row_after_change parent m p before (Policy binary) = if m == p then row_with before.traced binary else before
row_after_change parent m p before _ = before

-- the row of process p after changes that process m makes, whose row was `parent`
abbrev pub row_after : Row → ℕ → ℕ → Row → List Change → Row
row_after parent m p before changes = fold (row_after_change parent m p) before changes

-- a call that was entered, without its way
abbrev pub entered_call : PendingCall → EnteredCall
entered_call pending = record { call = pending.call; regs = pending.regs }

-- the call that a thread has entered, and that is neither made nor denied yet
abbrev pub entered_at : Input → History → ℕ → Option EnteredCall
entered_at i h t = option_map entered_call (pending_at i h t)
