-- The state of a thread except its process, which the system keeps.
use Rattle.std.specs.Prelude.{◌≡◌, ℕ, Bool, false, if◌then◌else◌, List, drop, Option, Some, None}
use Rattle.st_trace.specs.declared.entry.Way.{Way}
use Rattle.st_trace.specs.declared.entry.Way.TheVariants.{Fast, Barred, Held, Untraced}
use Rattle.st_calls.specs.declared.call.SysCall.{SysCall}
use Rattle.st_calls.specs.declared.rule.FastAnswer.{FastAnswer}
use Rattle.st_calls.specs.declared.rule.FastAnswer.TheVariants as answers
use Rattle.st_trace.specs.declared.start.Instr.{Instr}
use Rattle.st_law.specs.State.{ThreadState}
use Rattle.st_law.specs.Threads.{PendingCall, child_of_next}

-- how far a thread has come
pub record ThreadRow : Type 0 where
  -- the instructions left
  pub left : List Instr
  pub pending : Option PendingCall
  -- the kernel's own answer to its barred call, as it was when the call was entered
  pub answer : FastAnswer
  -- the drawing of its held call
  pub number : ℕ
  pub dying : Bool
  pub ended : Bool

-- a thread before its first step
abbrev pub first_row : List Instr → ThreadRow
first_row body = record { left = body; pending = None; answer = answers.Permit; number = 0; dying = false; ended = false }

-- the drawing of a thread after it entered a call this way
abbrev pub drawing_of_way : Way → ℕ → ℕ
drawing_of_way (Held q) before = q
drawing_of_way Fast before = before
drawing_of_way (Barred n) before = before
drawing_of_way Untraced before = before

-- a thread after it entered its next instruction's call this way, with this answer of the kernel
abbrev pub row_entered : ThreadRow → SysCall → List ℕ → Way → FastAnswer → ThreadRow
row_entered row call regs way answer = record {
  left = drop 1 row.left;
  pending = Some (record { call = call; regs = regs; way = way; child = child_of_next row.left });
  answer = answer;
  number = drawing_of_way way row.number;
  dying = row.dying;
  ended = row.ended;
}

-- the drawing of a call that is held, by its way
abbrev pub drawing_by_way : ℕ → Way → Option ℕ
drawing_by_way number (Held first) = Some number
drawing_by_way number Fast = None
drawing_by_way number (Barred n) = None
drawing_by_way number Untraced = None

-- the drawing of a pending call, if it is held
abbrev pub drawing_pending : ℕ → Option PendingCall → Option ℕ
drawing_pending number None = None
drawing_pending number (Some entered) = drawing_by_way number entered.way

-- the drawing of the call that a thread holds; a dying thread holds none
abbrev pub drawing_held : ThreadRow → Option ℕ
drawing_held row = if row.dying then None else drawing_pending row.number row.pending

-- a row represents a thread's state in the law's machine; its drawing means something only while it holds a call, and its answer only while
-- its call is barred
pub record IsRow (row : ThreadRow) (thread : ThreadState) : Type 0 where
  pub left : thread.left ≡ row.left
  pub pending : thread.pending ≡ row.pending
  pub answer : (entered : PendingCall) (n : ℕ) → row.pending ≡ Some entered → entered.way ≡ Barred n → thread.answer ≡ row.answer
  pub number : (q : ℕ) → drawing_held row ≡ Some q → thread.number ≡ q
  pub dying : thread.dying ≡ row.dying
  pub ended : thread.ended ≡ row.ended

-- a row, if it exists, represents a thread's state
abbrev pub IsRowOf : Option ThreadRow → ThreadState → Type 0
IsRowOf None thread = Unit {0}
IsRowOf (Some row) thread = IsRow row thread

-- the way of a call that is held
abbrev pub IsWayHeld : Way → Type 0
IsWayHeld (Held q) = Unit {0}
IsWayHeld Fast = ⊥
IsWayHeld (Barred n) = ⊥
IsWayHeld Untraced = ⊥
