-- The invariant of the state of every lawful run: a barred call was refused when it was entered, and the message of a held call is its own,
-- open, and of the version in force.
use Rattle.std.proofs.Common.{◌≡◌, ◌≢◌, ◌≤◌, ◌<◌, ℕ, false, List, Option, Some, None}
use Rattle.st_base.specs.declared.errno.Errno.{Errno}
use Rattle.std.specs.List.{All}
use Rattle.st_calls.specs.declared.call.SysCall.{SysCall}
use Rattle.st_calls.specs.declared.call.SysCall.TheVariants.{Fork}
use Rattle.st_calls.specs.declared.rule.FastAnswer.TheVariants as answer
use Rattle.st_trace.specs.declared.entry.Way.{Way}
use Rattle.st_trace.specs.declared.entry.Way.TheVariants.{Fast, Barred, Held, Untraced}
use Rattle.st_law.specs.declared.input.Input.{Input}
use Rattle.st_law.specs.Inputs.{IsThread, IsInstruction}
use Rattle.st_law.specs.Messages.{Head}
use Rattle.st_law.specs.State.{State, process_in}
use Rattle.st_law.specs.Threads.{PendingCall}

-- a head is that of a thread's pending call, and has the ids and the policy of its process, and the version of that policy that is in force
pub record IsOwn (st : State) (t : ℕ) (call : SysCall) (regs : List ℕ) (head : Head) : Type 0 where
  pub tid_is : head.tid ≡ t
  pub pid_is : head.pid ≡ (st.threads t).owner
  pub ids_are : head.ids ≡ (process_in st t).ids
  pub policy_is : head.policy ≡ (process_in st t).policy
  pub version_is : head.version ≡ st.versions head.policy
  pub call_is : head.call ≡ call
  pub regs_are : head.regs ≡ regs

-- the number of a thread's held call has its own head, and is open
pub record IsOpen (st : State) (t : ℕ) (call : SysCall) (regs : List ℕ) : Type 0 where
  pub head : Head
  pub posted : (st.messages (st.threads t).number).head ≡ Some head
  pub own : IsOwn st t call regs head
  pub unclosed : (st.messages (st.threads t).number).closed ≡ false
  pub low : (st.threads t).number ≤ st.posted

-- the kernel's own answer refused a barred call when it was entered
pub record IsRefused (st : State) (t n : ℕ) : Type 0 where
  pub first : n ≡ 1
  pub errno : Errno
  pub refused : (st.threads t).answer ≡ answer.Refuse errno

abbrev pub IsFine : State → ℕ → SysCall → List ℕ → Way → Type 0
IsFine st t call regs Fast = Unit {0}
IsFine st t call regs Untraced = Unit {0}
IsFine st t call regs (Barred n) = IsRefused st t n
IsFine st t call regs (Held first) = IsOpen st t call regs

-- a pending call of a thread that has started; nothing more is known if the thread is dying
pub record Fine (st : State) (t : ℕ) (entered : PendingCall) : Type 0 where
  pub started : (st.threads t).owner ≢ 0
  pub fine : (st.threads t).dying ≡ false → IsFine st t entered.call entered.regs entered.way

abbrev pub IfPending : (PendingCall → Type 0) → Option PendingCall → Type 0
IfPending P None = Unit {0}
IfPending P (Some entered) = P entered

-- a pending fork starts a thread of the script
pub record HasChild (i : Input) (entered : PendingCall) : Type 0 where
  pub child : entered.call ≡ Fork → IsThread i entered.child

-- the invariant of the state
pub record Invariant (i : Input) (st : State) : Type 0 where
  pub started : (t : ℕ) → (st.threads t).owner ≢ 0 → IsThread i t
  pub bodies : (t : ℕ) → All (IsInstruction i) (st.threads t).left
  pub children : (t : ℕ) → IfPending (HasChild i) (st.threads t).pending
  pub owners : (t : ℕ) → (st.threads t).owner < st.next_process
  pub heads : (q : ℕ) → st.posted < q → (st.messages q).head ≡ None
  pub closed : (q : ℕ) → st.posted < q → (st.messages q).closed ≡ false
  pub fine : (t : ℕ) → IfPending (Fine st t) (st.threads t).pending
