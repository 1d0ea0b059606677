-- What a worker does next, in the machine that runs and in the law's machine.
use Rattle.std.specs.Prelude.{◌≡◌, ◌<◌, ℕ, true, Option, Some, None, option_map}
use Rattle.st_calls.specs.declared.judged.Snapshot.{Snapshot}
use Rattle.st_effects.specs.Progress.{Progress, Word, Look, Stuck, Ready}
use Rattle.st_filter.specs.Judged.{verdict_under}
use Rattle.st_lookaside.specs.Slot.{Slot, slot_progress}
use Rattle.st_lookaside.specs.Slots.{slot_at}
use Rattle.st_messages.specs.Messages.{HeldCalls, first_waiting, is_live_drawing as is_live_here}
use Rattle.st_model.specs.declared.limits.TheConstants.{SPACE_WORDS}
use Rattle.st_model.specs.Tree.{look}
use Rattle.st_names.specs.Name.{Components}
use Rattle.st_trace.specs.declared.entry.Entry.TheVariants as entry
use Rattle.st_law.specs.declared.input.Input.{Input}
use Rattle.st_law.specs.Machine.{worker_entry}
use Rattle.st_law.specs.Messages.{Head}
use Rattle.st_law.specs.State.{State, is_live, word_for}
use Rattle.st_workers.specs.Refinement.{drawn_copies}
use Rattle.st_workers.specs.UnderWay.{UnderWay, turn_of_worker}
use Rattle.st_workers.specs.declared.task.Task.{Task}
use Rattle.st_workers.specs.declared.task.Task.TheVariants.{Rest, Claim, Copy, Look as LookAt, Fault, Answer}
use Rattle.st_workers.specs.declared.turn.Turn.{Turn}
use Rattle.st_workers.specs.declared.turn.Turn.TheVariants as turn

-- what an idle worker does, by the first waiting drawing
abbrev pub idle_task : Option ℕ → Task
idle_task None = Rest
idle_task (Some drawing) = Claim

-- what a worker does at a drawing of this process, by the progress of its message
abbrev pub task_at : ℕ → ℕ → Progress → Task
task_at drawing pid (Word part place) = Copy drawing pid part place
task_at drawing pid (Look part name) = LookAt drawing part
task_at drawing pid (Stuck errno) = Fault drawing errno
task_at drawing pid (Ready args) = Answer

-- the same by the slot of the drawing
abbrev pub task_of_slot : ℕ → Option Slot → Task
task_of_slot drawing None = Rest
task_of_slot drawing (Some slot) = task_at drawing slot.head.pid (slot_progress slot)

-- what a worker does, by its turn
abbrev pub task_of_turn : UnderWay → Option Turn → Task
task_of_turn kept None = Rest
task_of_turn kept (Some turn.Idle) = idle_task (first_waiting kept.calls)
task_of_turn kept (Some (turn.Working drawing)) = task_of_slot drawing (slot_at kept.slots drawing)
task_of_turn kept (Some (turn.Ready q s)) = Answer

-- what a worker does
abbrev pub task_of : UnderWay → ℕ → Task
task_of kept worker = task_of_turn kept (turn_of_worker kept worker)

-- the task is to copy a word, to look at a name, or to mark a message as faulted
abbrev pub IsBusy : Task → Type 0
IsBusy Rest = ⊥
IsBusy Claim = ⊥
IsBusy (Copy drawing pid part place) = Unit {0}
IsBusy (LookAt drawing part) = Unit {0}
IsBusy (Fault drawing errno) = Unit {0}
IsBusy Answer = ⊥

-- the task is to copy a word
abbrev pub IsCopy : Task → Type 0
IsCopy Rest = ⊥
IsCopy Claim = ⊥
IsCopy (Copy drawing pid part place) = Unit {0}
IsCopy (LookAt drawing part) = ⊥
IsCopy (Fault drawing errno) = ⊥
IsCopy Answer = ⊥

-- the task is to look at a name
abbrev pub IsLook : Task → Type 0
IsLook Rest = ⊥
IsLook Claim = ⊥
IsLook (Copy drawing pid part place) = ⊥
IsLook (LookAt drawing part) = Unit {0}
IsLook (Fault drawing errno) = ⊥
IsLook Answer = ⊥

-- the task is to mark a message as faulted
abbrev pub IsFault : Task → Type 0
IsFault Rest = ⊥
IsFault Claim = ⊥
IsFault (Copy drawing pid part place) = ⊥
IsFault (LookAt drawing part) = ⊥
IsFault (Fault drawing errno) = Unit {0}
IsFault Answer = ⊥

-- the drawing that a task names is live, and the index of a word that it copies is inside memory
abbrev pub CanServe : HeldCalls → Task → Type 0
CanServe calls Rest = Unit {0}
CanServe calls Claim = Unit {0}
CanServe calls (Copy drawing pid part place) = (is_live_here calls drawing ≡ true) × (place < SPACE_WORDS)
CanServe calls (LookAt drawing part) = is_live_here calls drawing ≡ true
CanServe calls (Fault drawing errno) = is_live_here calls drawing ≡ true
CanServe calls Answer = Unit {0}

-- a message is of this process
abbrev pub IsOfProcess : State → ℕ → ℕ → Type 0
IsOfProcess st q pid = option_map (λ (head : Head). head.pid) (st.messages q).head ≡ Some pid

-- the worker's next entry in the law's machine is that of the task
abbrev pub IsTask : Input → State → UnderWay → ℕ → Task → Type 0
IsTask i st kept worker Rest = worker_entry i st worker ≡ None
IsTask i st kept worker Claim = (q : ℕ) × (worker_entry i st worker ≡ Some (entry.Claimed worker q))
IsTask i st kept worker (Copy drawing pid part place) = (worker_entry i st worker ≡ Some (entry.Copied drawing part place (word_for st drawing place))) × IsOfProcess st drawing pid
IsTask i st kept worker (LookAt drawing part) = (name : Components) × (worker_entry i st worker ≡ Some (entry.Looked drawing part name (look st.tree name)))
IsTask i st kept worker (Fault drawing errno) = worker_entry i st worker ≡ Some (entry.Faulted drawing errno)
IsTask i st kept worker Answer =
    (q : ℕ) × (s : Snapshot) × (turn_of_worker kept worker ≡ Some (turn.Ready q s)) × (worker_entry i st worker ≡ Some (entry.Answered worker (drawn_copies q s) (verdict_under i.policies s) (is_live st q)))
