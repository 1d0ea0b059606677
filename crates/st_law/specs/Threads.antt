-- Threads: the state of each as a function of the history.
use Rattle.std.specs.Prelude.{ℕ, Bool, false, ◌||◌, ◌==◌, if◌then◌else◌, List, [], ◌∷◌, drop, Option, Some, None, unwrap_or}
use Rattle.st_base.specs.Numbered.{item_at_number}
use Rattle.st_calls.specs.declared.call.SysCall.{SysCall}
use Rattle.st_calls.specs.declared.rule.FastAnswer.{FastAnswer}
use Rattle.st_effects.specs.Changes.{owner_after, dying_after, seq_after}
use Rattle.st_trace.specs.declared.entry.Change.{Change}
use Rattle.st_trace.specs.declared.entry.Entry.{Entry}
use Rattle.st_trace.specs.declared.entry.Entry.TheVariants.{Stored, Entered, Used, Denied, Ended, Reloaded}
use Rattle.st_trace.specs.declared.entry.Way.{Way}
use Rattle.st_trace.specs.declared.entry.Way.TheVariants.{Held}
use Rattle.st_trace.specs.declared.start.Instr.{Instr}
use Rattle.st_trace.specs.declared.start.Instr.TheVariants.{Store, Call, Fork, Reload}
use Rattle.st_trace.specs.declared.start.ThreadRow.{ThreadRow}
use Rattle.st_law.specs.declared.input.Input.{Input}

-- the entries so far, the newest first
abbrev pub History : Type 0
History = List Entry

-- the changes of an entry: only a call that is made and a reload have some
abbrev pub changes_of : Entry → List Change
changes_of (Used t seq call regs args ids result changes) = changes
changes_of (Reloaded t n done changes) = changes
changes_of _ = []

-- the thread that makes an entry, 0 if a worker or the operator makes it
abbrev pub thread_of : Entry → ℕ
thread_of (Stored t place word) = t
thread_of (Entered t call regs way) = t
thread_of (Used t seq call regs args ids result changes) = t
thread_of (Denied t seq errno cause) = t
thread_of (Ended t) = t
thread_of (Reloaded t n done changes) = t
thread_of _ = 0

-- ---- what the rows of the script say

-- the process of a thread, by its row; 0 if it starts by a fork
abbrev pub owner_of_row : Option ThreadRow → ℕ
owner_of_row None = 0
owner_of_row (Some row) = unwrap_or row.process 0

-- the instructions of a thread, by its row
abbrev pub body_of_row : Option ThreadRow → List Instr
body_of_row None = []
body_of_row (Some row) = row.body

-- the process that a thread starts in, 0 if it starts by a fork
abbrev pub first_owner : Input → ℕ → ℕ
first_owner i t = owner_of_row (item_at_number i.start.threads t)

-- the instructions of a thread
abbrev pub body_of : Input → ℕ → List Instr
body_of i t = body_of_row (item_at_number i.start.threads t)

-- ---- what each entry does to a thread

-- a call that its thread has entered, and that is neither made nor denied yet
pub record PendingCall : Type 0 where
  pub call : SysCall
  pub regs : List ℕ
  pub way : Way
  -- the thread that it starts, if it is a fork of the body
  pub child : ℕ

-- the thread that the next instruction starts, 0 if it isn't a fork
abbrev pub child_of_next : List Instr → ℕ
child_of_next [] = 0
child_of_next (Store place word ∷ later) = 0
child_of_next (Call call regs ∷ later) = 0
child_of_next (Fork child ∷ later) = child
child_of_next (Reload n ∷ later) = 0

-- the pending call of a thread after an entry, by the instructions that it had left before
abbrev pub pending_after : Entry → ℕ → List Instr → Option PendingCall → Option PendingCall
pending_after (Entered u call regs way) t left before =
    if u == t then Some (record { call = call; regs = regs; way = way; child = child_of_next left }) else before
pending_after (Used u seq call regs args ids result changes) t left before = if u == t then None else before
pending_after (Denied u seq errno cause) t left before = if u == t then None else before
pending_after _ t left before = before

-- the instructions that a thread has left after an entry
abbrev pub left_after : Entry → ℕ → List Instr → List Instr
left_after (Stored u place word) t before = if u == t then drop 1 before else before
left_after (Entered u call regs way) t before = if u == t then drop 1 before else before
left_after (Reloaded u n done changes) t before = if u == t then drop 1 before else before
left_after _ t before = before

-- whether a thread has ended after an entry
abbrev pub ended_after : Entry → ℕ → Bool → Bool
ended_after (Ended u) t before = u == t || before
ended_after _ t before = before

-- the kernel's own answer to the call that a thread entered last, after an entry, by its answer to each call when the entry is made
abbrev pub answer_after : (SysCall → List ℕ → FastAnswer) → Entry → ℕ → FastAnswer → FastAnswer
answer_after given (Entered u call regs way) t before = if u == t then given call regs else before
answer_after given _ t before = before

-- the number of a thread's held call after an entry; a renewal gives another
abbrev pub number_after : Entry → ℕ → ℕ → ℕ
number_after (Entered u call regs (Held q)) t before = if u == t then q else before
number_after (Used u seq call regs args ids result changes) t before = seq_after before changes
number_after (Reloaded u n done changes) t before = seq_after before changes
number_after _ t before = before

-- ---- looking back

-- the process of a thread, 0 before it starts
abbrev pub owner_at : Input → History → ℕ → ℕ
owner_at i [] t = first_owner i t
owner_at i (e ∷ h) t = owner_after t (owner_at i h t) (changes_of e)

-- the instructions that a thread has left
abbrev pub left_at : Input → History → ℕ → List Instr
left_at i [] t = body_of i t
left_at i (e ∷ h) t = left_after e t (left_at i h t)

-- the pending call of a thread
abbrev pub pending_at : Input → History → ℕ → Option PendingCall
pending_at i [] t = None
pending_at i (e ∷ h) t = pending_after e t (left_at i h t) (pending_at i h t)

-- the number of the call that a thread holds; it means nothing if the thread holds none
abbrev pub number_at : History → ℕ → ℕ
number_at [] t = 0
number_at (e ∷ h) t = number_after e t (number_at h t)

-- whether a thread is dying
abbrev pub is_dying_at : Input → History → ℕ → Bool
is_dying_at i [] t = false
is_dying_at i (e ∷ h) t = dying_after t (owner_at i h t) (thread_of e) (owner_at i h (thread_of e)) (is_dying_at i h t) (changes_of e)

-- whether a thread has ended
abbrev pub has_ended_at : History → ℕ → Bool
has_ended_at [] t = false
has_ended_at (e ∷ h) t = ended_after e t (has_ended_at h t)
