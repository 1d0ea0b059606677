-- How calls are entered.
use Rattle.std.specs.Prelude.{◌≡◌, ℕ, suc, if◌then◌else◌, List}
use Rattle.st_calls.specs.declared.call.SysCall.{SysCall}
use Rattle.st_calls.specs.declared.rule.FastAnswer.{FastAnswer}
use Rattle.st_lookaside.specs.Need.{IsShort}
use Rattle.st_lookaside.specs.declared.head.Head as kept
use Rattle.st_messages.specs.Messages.{next_seq}
use Rattle.st_trace.specs.declared.entry.Way.{Way}
use Rattle.st_trace.specs.declared.entry.Way.TheVariants.{Fast, Barred, Held, Untraced}
use Rattle.st_law.specs.declared.input.Input.{Input}
use Rattle.st_law.specs.Machine.{way_of_answer}
use Rattle.st_law.specs.Messages.{new_head}
use Rattle.st_law.specs.State.{State, answer_in, process_in}
use Rattle.st_workers.specs.Refinement.{head_of}
use Rattle.st_decide.specs.Machine.{Refines, Running}
use Rattle.st_decide.specs.declared.step.NewCall.{NewCall}

-- how a thread's call goes on by the law
abbrev pub way_in : Input → State → ℕ → SysCall → List ℕ → Way
way_in i st t call regs = if (process_in st t).traced then way_of_answer (suc st.posted) (answer_in i st (process_in st t) call regs) else Untraced

-- a thread's call goes on this way, in each state that the machine represents
abbrev pub IsWayOf : Running → ℕ → NewCall → Way → Type 0
IsWayOf m t new way = (st : State) → Refines m st → way_in m.input st t new.call new.regs ≡ way

-- a call that goes on this way keeps the kernel's own answer to it, if it is barred
abbrev pub IsKeptAnswer : Running → ℕ → NewCall → Way → FastAnswer → Type 0
IsKeptAnswer m t new way answer =
    (n : ℕ) → way ≡ Barred n → (st : State) → Refines m st → answer_in m.input st (process_in st t) new.call new.regs ≡ answer

-- a way on which no message is posted
abbrev pub IsUnposted : Way → Type 0
IsUnposted Fast = Unit {0}
IsUnposted (Barred n) = Unit {0}
IsUnposted Untraced = Unit {0}
IsUnposted (Held q) = ⊥

-- the head of the message of a call that is held under the next drawing
pub record IsHeadOf (m : Running) (new : NewCall) (head : kept.Head) : Type 0 where
  pub drawing_is : head.drawing ≡ m.workers.calls.next
  pub seq_is : head.seq ≡ next_seq m.workers.calls
  pub short : IsShort head.cwd
  pub law : (st : State) (t : ℕ) → Refines m st → head_of t head ≡ new_head m.input t new.pid (st.processes new.pid) (st.versions (st.processes new.pid).policy) new.call new.regs
