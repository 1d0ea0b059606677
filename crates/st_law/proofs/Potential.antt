-- The steps that a run has left, as a number that each entry lowers: for each thread its instructions, its pending call and its end; for
-- each posted number the steps of workers for it, and the one by which it may be learnt; and the replies that are left.
use native.Mathlib.Omega.{arith}
use Rattle.std.proofs.Common.{◌≡◌, ◌≤◌, ℕ, ◌+◌, ◌-◌, Bool, true, false, cond, not, List, [], ◌∷◌, length, Option, Some, None, refl}
use Rattle.std.specs.Prelude.{is_some}
use Rattle.st_calls.specs.declared.judged.Snapshot.{Snapshot}
use Rattle.st_model.specs.Tree.{is_number}
use Rattle.st_trace.specs.declared.start.Instr.{Instr}
use Rattle.st_law.specs.declared.input.Input.{Input}
use Rattle.st_law.specs.declared.input.Mode.{Mode}
use Rattle.st_law.specs.declared.input.Mode.TheVariants.{Enforce, Learn, AskText}
use Rattle.st_law.specs.Schedules.{is_renewing_instruction}
use Rattle.st_calls.specs.Call.{sets_ids}
use Rattle.st_law.specs.Sessions.{least_from}
use Rattle.st_law.specs.State.{ThreadState, Message, State, thread_count, snapshot_in, decision_in, is_undecided}
use Rattle.st_law.specs.Threads.{PendingCall}
use Rattle.st_law.proofs.Sums.{total}

-- ---- threads

-- the cost of an instruction, with the message that its call may post; a call that sets ids and a reload renew up to 64 numbers
abbrev pub weight : Instr → ℕ
weight instruction = cond (is_renewing_instruction instruction) 650000 10000

abbrev pub cost : List Instr → ℕ
cost [] = 0
cost (instruction ∷ later) = weight instruction + cost later

-- the cost of a pending call, by whether it sets ids
abbrev pub call_cost : Bool → ℕ
call_cost true = 640000
call_cost false = 1

abbrev pub pending_cost : Option PendingCall → ℕ
pending_cost None = 0
pending_cost (Some entered) = call_cost (sets_ids entered.call)

-- one step, unless it is done
abbrev pub step_unless : Bool → ℕ
step_unless true = 0
step_unless false = 1

abbrev pub thread_cost : ThreadState → ℕ
thread_cost thread = cost thread.left + pending_cost thread.pending + step_unless thread.ended

-- ---- messages

-- the words and lookups' answers taken for the two parts that may be in memory
abbrev pub taken : Message → ℕ
taken message = length (message.words 0) + length (message.words 1) + length (message.lookups 0) + length (message.lookups 1)

-- whether a number is some worker's turn
abbrev pub is_turn : Input → State → ℕ → Bool
is_turn i st q = is_some (least_from (λ w. is_number q (st.turns w)) 1 i.options.workers)

-- 1 if the operator learns and copies are undecided, otherwise 0
abbrev pub learnable : Mode → Bool → ℕ
learnable Enforce undecided = 0
learnable Learn undecided = step_unless (not undecided)
learnable AskText undecided = 0

-- 1 if these copies may be learnt, since no filter decides on them, or if there are none, otherwise 0
abbrev pub may_be_learnt : Input → State → Option Snapshot → ℕ
may_be_learnt i st None = 1
may_be_learnt i st (Some s) = learnable i.options.mode (is_undecided (decision_in i st s))

-- a claim, the words and looks of two parts, an answer, and the step by which it is learnt: at most 9,605 steps
abbrev pub remaining : Bool → Bool → ℕ → ℕ → ℕ
remaining false turn copied learnt = 9605
remaining true true copied learnt = 9604 - copied
remaining true false copied learnt = learnt

abbrev pub message_cost : Input → State → ℕ → ℕ
message_cost i st q = remaining (st.messages q).claimed (is_turn i st q) (taken (st.messages q)) (may_be_learnt i st (snapshot_in st q))

-- ---- all of these

abbrev pub reply_cost : State → ℕ → ℕ
reply_cost st n = step_unless (st.replied n)

abbrev pub threads_cost : Input → State → ℕ
threads_cost i st = total (λ t. thread_cost (st.threads t)) 1 (thread_count i)

abbrev pub messages_cost : Input → State → ℕ
messages_cost i st = total (message_cost i st) 1 st.posted

abbrev pub replies_cost : Input → State → ℕ
replies_cost i st = total (reply_cost st) 1 (length i.replies)

-- the bound of the steps left
abbrev pub steps_left : Input → State → ℕ
steps_left i st = threads_cost i st + messages_cost i st + replies_cost i st

-- ---- bounds

pub learnable_most : (mode : Mode) (undecided : Bool) → learnable mode undecided ≤ 1
learnable_most Enforce undecided = omega arith
learnable_most Learn true = omega arith
learnable_most Learn false = omega arith
learnable_most AskText undecided = omega arith

pub learnt_most : (i : Input) (st : State) (o : Option Snapshot) → may_be_learnt i st o ≤ 1
learnt_most i st None = omega arith
learnt_most i st (Some s) = learnable_most i.options.mode (is_undecided (decision_in i st s))

remaining_most : (claimed turn : Bool) (copied learnt : ℕ) → learnt ≤ 1 → remaining claimed turn copied learnt ≤ 9605
remaining_most false turn copied learnt low = omega arith
remaining_most true true copied learnt low = omega arith
remaining_most true false copied learnt low = omega (arith, low)

-- no message has more steps left than a new one
pub message_most : (i : Input) (st : State) (q : ℕ) → message_cost i st q ≤ 9605
message_most i st q = remaining_most (st.messages q).claimed (is_turn i st q) (taken (st.messages q)) (may_be_learnt i st (snapshot_in st q)) (learnt_most i st (snapshot_in st q))

-- a message has no more steps left than before if nothing is added to it, its turn isn't new, and no more may be learnt
pub remaining_low : (claimed turn turn_then : Bool) (copied learnt learnt_then : ℕ) → (turn_then ≡ true → turn ≡ true) → learnt_then ≤ learnt → learnt ≤ 1 → copied ≤ 9602 → remaining claimed turn_then copied learnt_then ≤ remaining claimed turn copied learnt
remaining_low false turn turn_then copied learnt learnt_then known low most few = omega arith
remaining_low true true true copied learnt learnt_then known low most few = omega arith
remaining_low true false true copied learnt learnt_then known low most few = let e : false ≡ true = known refl in cc
remaining_low true true false copied learnt learnt_then known low most few = omega (arith, low, most, few)
remaining_low true false false copied learnt learnt_then known low most few = omega (arith, low)
