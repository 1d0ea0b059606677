-- Laws of all messages and workers.
use Rattle.std.specs.Prelude.{◌≡◌, ◌≢◌, ℕ, Bool, true, Some, Option}
use Rattle.st_base.specs.declared.errno.Errno.{Errno}
use Rattle.st_calls.specs.declared.judged.Snapshot.{Snapshot}
use Rattle.st_calls.specs.declared.judged.Verdict.{Verdict}
use Rattle.st_messages.specs.Messages.{HasNoDrawing}
use Rattle.st_names.specs.Name.{Components}
use Rattle.st_names.specs.declared.seen.SeenText.{SeenText}
use Rattle.st_trace.specs.declared.entry.Entry.{Entry}
use Rattle.st_trace.specs.declared.entry.Entry.TheVariants.{Claimed, Copied, Looked, Faulted, Answered}
use Rattle.st_law.specs.declared.input.Input.{Input}
use Rattle.st_law.specs.Machine.{state_after}
use Rattle.st_law.specs.Messages.{Head}
use Rattle.st_law.specs.State.{Message, State, is_live}
use Rattle.st_workers.specs.Refinement.{RepresentsMachineMessages}
use Rattle.st_workers.specs.UnderWay.{UnderWay}

-- whether a message is closed is kept only as whether its drawing is live
abbrev pub ClosingIsNotKept : Type 0
ClosingIsNotKept = (i : Input) (messages after : ℕ → Message) (turns : ℕ → Option ℕ) (alive : ℕ → Bool) (posted : ℕ) (kept : UnderWay) → RepresentsMachineMessages i messages turns alive posted kept
    → ((q : ℕ) → after q ≡ record (messages q) { closed = (after q).closed }) → RepresentsMachineMessages i after turns alive posted kept

-- a thread that no live message is of has no drawing
abbrev pub OthersHaveNoDrawing : Type 0
OthersHaveNoDrawing = (i : Input) (messages : ℕ → Message) (turns : ℕ → Option ℕ) (alive : ℕ → Bool) (posted : ℕ) (kept : UnderWay) (tid : ℕ) → RepresentsMachineMessages i messages turns alive posted kept
    → ((q : ℕ) (head : Head) → alive q ≡ true → (messages q).head ≡ Some head → head.tid ≢ tid) → HasNoDrawing kept.calls tid

-- an entry changes for no drawing whether it is live
abbrev pub LeavesLife : Entry → Type 0
LeavesLife e = (i : Input) (st : State) (q : ℕ) → is_live (state_after i st e) q ≡ is_live st q

-- no entry of a worker changes for any drawing whether it is live
pub record WorkersLeaveLife : Type 0 where
  pub claimed : (w p : ℕ) → LeavesLife (Claimed w p)
  pub copied : (p part place word : ℕ) → LeavesLife (Copied p part place word)
  pub looked : (p part : ℕ) (name : Components) (seen : SeenText) → LeavesLife (Looked p part name seen)
  pub faulted : (p : ℕ) (errno : Errno) → LeavesLife (Faulted p errno)
  pub answered : (w : ℕ) (s : Snapshot) (v : Verdict) (applied : Bool) → LeavesLife (Answered w s v applied)
