-- What a thread does next, case by case: the entry of each step is that of the law's machine.
use Rattle.std.specs.Prelude.{◌≡◌, ℕ, true, false, List, Option, Some, None}
use Rattle.st_base.specs.Numbered.{item_at_number}
use Rattle.st_base.specs.declared.ids.Ids.{Ids}
use Rattle.st_calls.specs.Call.{follows}
use Rattle.st_calls.specs.declared.call.SysCall.{SysCall}
use Rattle.st_calls.specs.declared.judged.Snapshot.{Snapshot}
use Rattle.st_calls.specs.declared.judged.Verdict.{Verdict}
use Rattle.st_calls.specs.declared.judged.Verdict.TheVariants.{Unmatched}
use Rattle.st_calls.specs.declared.rule.FastAnswer.{FastAnswer}
use Rattle.st_exec_fs.specs.Open.{IsNoLink}
use Rattle.st_filter.specs.Judging.{verdict}
use Rattle.st_model.specs.Processes.{pid_of, IsPid}
use Rattle.st_messages.specs.declared.message.MsgState.{MsgState}
use Rattle.st_messages.specs.declared.message.MsgState.TheVariants.{Waiting, Claimed, Answered, Faulted}
use Rattle.st_trace.specs.declared.entry.Cause.TheVariants.{Fault}
use Rattle.st_trace.specs.declared.entry.Entry.TheVariants.{Denied}
use Rattle.st_trace.specs.declared.start.Instr.{Instr}
use Rattle.st_law.specs.Machine.{decided_entry, held_entry, next_instruction_entry, pending_entry, permitted_entry, reloaded_entry, unheld_entry}
use Rattle.st_law.specs.State.{State, answer_in, arguments_now, decision_in, is_question, link_now, may_reload, process_in, read_at, snapshot_in}
use Rattle.st_law.specs.Threads.{PendingCall}
use Rattle.st_system.specs.Fit.{AreFit, first_name}
use Rattle.st_system.specs.System.{Parts}
use Rattle.st_decide.specs.Machine.{IsNextStep, Refines, Running}
use Rattle.st_decide.specs.Step.{step_entry}
use Rattle.st_threads.specs.Thread.{IsWayHeld, ThreadRow}
use Rattle.st_decide.specs.declared.step.Step.{Step}
use Rattle.st_decide.specs.declared.step.Step.TheVariants.{Wait, End, Store, Enter, Make, Fail, Deny, Reload, RefuseReload}
use Rattle.st_decide.specs.declared.step.ReadyCall.{ReadyCall}

-- a thread is of this process, which exists
pub record IsInProcess (parts : Parts) (t pid : ℕ) : Type 0 where
  pub process : pid_of parts.processes t ≡ Some pid
  pub there : IsPid parts.processes pid

-- a thread of a process has entered a call, hasn't ended and isn't dying
pub record HasEntered (m : Running) (t pid : ℕ) (entered : PendingCall) : Type 0 where
  pub row : ThreadRow
  pub row_is : item_at_number m.threads t ≡ Some row
  pub pending : row.pending ≡ Some entered
  pub undying : row.dying ≡ false
  pub unended : row.ended ≡ false
  pub caller : IsInProcess m.system t pid

-- the same, and if the call is held, it has this drawing
pub record HasPending (m : Running) (t pid : ℕ) (entered : PendingCall) (drawing : ℕ) : Type 0 where
  pub has : HasEntered m t pid entered
  pub number : has.row.number ≡ drawing

-- the same, by how far the thread has come
pub record IsPendingOf (m : Running) (t pid : ℕ) (entered : PendingCall) (row : ThreadRow) : Type 0 where
  pub pending : HasPending m t pid entered row.number
  pub row_is : pending.has.row ≡ row

-- a thread of a process holds a call under this drawing
pub record HoldsDrawing (m : Running) (t pid drawing : ℕ) : Type 0 where
  pub entered : PendingCall
  pub pending : HasPending m t pid entered drawing
  pub held : IsWayHeld entered.way

-- the step of a thread without a pending call, by its instructions left
abbrev pub IsInstructionStep : Running → ℕ → List Instr → Step → Type 0
IsInstructionStep m t left step = (st : State) → Refines m st → next_instruction_entry m.input st t left ≡ step_entry m.input st t step

-- the step of a thread that reloads the script's policy with this number: whether that is done depends on its process
abbrev pub IsReloadStep : Running → ℕ → ℕ → Step → Type 0
IsReloadStep m t n step =
    (st : State) → Refines m st → Some (reloaded_entry m.input st t n (may_reload (process_in st t))) ≡ step_entry m.input st t step

-- the step of a thread that has entered a call
abbrev pub IsPendingStep : Running → ℕ → PendingCall → Step → Type 0
IsPendingStep m t entered step =
    (st : State) → Refines m st → pending_entry m.input st t entered.call entered.regs entered.way ≡ step_entry m.input st t step

-- the kernel's own answer for a call of a process
abbrev pub IsAnswerOf : Running → ℕ → SysCall → List ℕ → FastAnswer → Type 0
IsAnswerOf m pid call regs given = (st : State) → Refines m st → answer_in m.input st (st.processes pid) call regs ≡ given

-- the step of a call that isn't held
abbrev pub IsUnheldStep : Running → ℕ → PendingCall → Step → Type 0
IsUnheldStep m t entered step =
    (st : State) → Refines m st → unheld_entry m.input st t entered.call entered.regs (process_in st t).ids (arguments_now m.input st t entered.call entered.regs) ≡ step_entry m.input st t step

-- the step of a call that is held under this drawing
abbrev pub IsHeldStep : Running → ℕ → ℕ → Step → Type 0
IsHeldStep m t drawing step = (st : State) → Refines m st → held_entry m.input st t drawing (st.messages drawing).fault ≡ step_entry m.input st t step

-- the decision on an answered call on whose copies the filters in force have this verdict; none if the call is a question
abbrev pub IsDecision : Running → ℕ → Verdict → Option Verdict → Type 0
IsDecision m drawing read None =
    (st : State) → Refines m st → (s : Snapshot) → snapshot_in st drawing ≡ Some s → verdict (read_at m.input st s.policy s.rule) s ≡ read → (decision_in m.input st s ≡ Unmatched) × (is_question m.input st drawing ≡ true)
IsDecision m drawing read (Some given) =
    (st : State) → Refines m st → (s : Snapshot) → snapshot_in st drawing ≡ Some s → verdict (read_at m.input st s.policy s.rule) s ≡ read → (decision_in m.input st s ≡ given) × (given ≡ Unmatched → is_question m.input st drawing ≡ false)

-- the step of a held call on whose copies the filters in force have this verdict
abbrev pub IsDecidedStep : Running → ℕ → ℕ → Verdict → Step → Type 0
IsDecidedStep m t drawing read step =
    (st : State) → Refines m st → (s : Snapshot) → snapshot_in st drawing ≡ Some s → verdict (read_at m.input st s.policy s.rule) s ≡ read → decided_entry m.input st t drawing s (decision_in m.input st s) ≡ step_entry m.input st t step

-- the step of a held call that is permitted under these ids
abbrev pub IsPermittedStep : Running → ℕ → ℕ → Ids → Step → Type 0
IsPermittedStep m t drawing ids step =
    (st : State) → Refines m st → (s : Snapshot) → snapshot_in st drawing ≡ Some s
    → Some (permitted_entry m.input st t drawing s ids (link_now m.input st s.call s.regs s.parts)) ≡ step_entry m.input st t step

-- the step of a held call by the state of its message, which has to be live
abbrev pub IsStepOf : Running → State → ℕ → ℕ → Option MsgState → Step → Type 0
IsStepOf m st t drawing None step = ⊥
IsStepOf m st t drawing (Some Waiting) step = step_entry m.input st t step ≡ None
IsStepOf m st t drawing (Some (Claimed worker)) step = step_entry m.input st t step ≡ None
IsStepOf m st t drawing (Some (Faulted errno)) step = step_entry m.input st t step ≡ Some (Denied t (Some drawing) errno Fault)
IsStepOf m st t drawing (Some (Answered read)) step =
    (s : Snapshot) → snapshot_in st drawing ≡ Some s → verdict (read_at m.input st s.policy s.rule) s ≡ read → decided_entry m.input st t drawing s (decision_in m.input st s) ≡ step_entry m.input st t step

-- ---- whether the call of a step can be entered or made

-- the call is of its thread's process, the arguments are fit for it, and if it follows a link at the end of its first name, that name
-- isn't a link's
pub record IsFit (parts : Parts) (t : ℕ) (ready : ReadyCall) : Type 0 where
  pub caller : IsInProcess parts t ready.pid
  pub fit : AreFit ready.call ready.args
  pub unlinked : follows ready.call ready.regs 0 ≡ true → IsNoLink parts.tree (first_name ready.args)

-- the call that a step of a thread enters or makes is of its process, and can be made
abbrev pub CanBeDone : Parts → ℕ → Step → Type 0
CanBeDone parts t (Make ready) = IsFit parts t ready
CanBeDone parts t (Enter new) = IsInProcess parts t new.pid
CanBeDone parts t Wait = Unit {0}
CanBeDone parts t End = Unit {0}
CanBeDone parts t (Store stored) = Unit {0}
CanBeDone parts t (Fail failed) = Unit {0}
CanBeDone parts t (Deny denied) = Unit {0}
CanBeDone parts t (Reload policy) = Unit {0}
CanBeDone parts t (RefuseReload policy) = Unit {0}

-- a thread does this step next, and can
pub record CanStep (m : Running) (t : ℕ) (step : Step) : Type 0 where
  pub next : IsNextStep m t step
  pub can : CanBeDone m.system t step
