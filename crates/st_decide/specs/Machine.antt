-- The parts of the machine that runs, and how it refines the law's machine.
use Rattle.std.specs.Prelude.{◌≡◌, ℕ, List, length, Option, Some, None}
use Rattle.st_base.specs.Numbered.{item_at_number}
use Rattle.st_trace.specs.declared.entry.Choice.{Choice}
use Rattle.st_trace.specs.declared.entry.Entry.{Entry}
use Rattle.st_law.specs.declared.input.Input.{Input}
use Rattle.st_law.specs.Inputs.{IsStartable}
use Rattle.st_law.specs.Machine.{entry_of, state_after, state_of_run, thread_entry}
use Rattle.st_law.specs.State.{State, is_live, thread_count}
use Rattle.st_learn.specs.Answers.{Answers, AreAnswersIn}
use Rattle.st_learn.specs.Operator.{Added, IsAdded}
use Rattle.st_reached.specs.Grants.{AllUngranted, RepliesUngranted}
use Rattle.st_reached.specs.Scripts.{IsBounded}
use Rattle.st_system.specs.System.{IsSystem, Parts}
use Rattle.st_workers.specs.Numbers.{CarriesEntry, IsNumbered}
use Rattle.st_workers.specs.Refinement.{RepresentsMessages}
use Rattle.st_workers.specs.Tasks.{task_of, IsTask, CanServe}
use Rattle.st_workers.specs.UnderWay.{UnderWay}
use Rattle.st_workers.specs.declared.task.Task.{Task}
use Rattle.st_decide.specs.Step.{step_entry}
use Rattle.st_threads.specs.Thread.{ThreadRow, IsRowOf}
use Rattle.st_decide.specs.declared.step.Step.{Step}

-- the machine that runs: the modelled system, the messages under way, how far each thread of the script has come, and what answers calls
pub record Running : Type 0 where
  pub input : Input
  pub system : Parts
  pub workers : UnderWay
  pub threads : List ThreadRow
  pub answers : Answers
  -- what the operator has added
  pub operator : Added

-- some choices lead from the first state of an input to this state
pub record IsReached (i : Input) (st : State) : Type 0 where
  pub startable : IsStartable i
  pub choices : List Choice
  pub state_is : st ≡ state_of_run i choices

-- the machine that runs represents this state of the law's machine
pub record Refines (m : Running) (st : State) : Type 0 where
  pub reached : IsReached m.input st
  pub bounded : IsBounded m.input.start
  pub ungranted : AllUngranted m.input.policies
  pub replies : RepliesUngranted m.input.replies
  pub system : IsSystem m.input st m.system
  pub workers : RepresentsMessages m.input st (is_live st) m.workers
  pub threads : (t : ℕ) → IsRowOf (item_at_number m.threads t) (st.threads t)
  pub count : length m.threads ≡ thread_count m.input
  pub answers : AreAnswersIn m.input st m.answers
  pub operator : IsAdded m.input st m.operator

-- the machine that runs represents some state of the law's machine
pub record RefinesSomeState (m : Running) : Type 0 where
  pub state : State
  pub is : Refines m state

-- this is what a thread does next in the law's machine, in each state that the machine that runs represents
abbrev pub IsNextStep : Running → ℕ → Step → Type 0
IsNextStep m t step = (st : State) → Refines m st → thread_entry m.input st t ≡ step_entry m.input st t step

-- the machine that runs still represents each state that it represented before, and its held calls are the same
abbrev pub SameState : Running → Running → Type 0
SameState old new = (st : State) → Refines old st → Refines new st × (new.workers.calls ≡ old.workers.calls)

-- a choice adds this entry of drawings, and the machine that runs goes on by it, with the law's numbers
abbrev pub IsDrawnStep : Running → Choice → Entry → Running → Type 0
IsDrawnStep old c e new = (st : State) → Refines old st → (entry_of old.input st c ≡ Some e) × Refines new (state_after old.input st e) × CarriesEntry e old.workers new.workers

-- a choice adds this entry of numbers, and the machine that runs goes on by the entry of their drawings; or it adds none, and the machine
-- still represents the same state
abbrev pub IsStep : Running → Choice → Option Entry → Running → Type 0
IsStep old c None new = (st : State) → Refines old st → (entry_of old.input st c ≡ None) × Refines new st × (new.workers.calls ≡ old.workers.calls)
IsStep old c (Some given) new = (e : Entry) × IsDrawnStep old c e new × IsNumbered e given old.workers

-- this is what a worker does next, here and in the law's machine; the drawing that the task names is live, and a word that it copies is
-- inside memory
pub record HasTask (m : Running) (worker : ℕ) (task : Task) : Type 0 where
  pub here : task_of m.workers worker ≡ task
  pub there : CanServe m.workers.calls task
  pub law : (i : Input) (st : State) → RepresentsMessages i st (is_live st) m.workers → IsTask i st m.workers worker task
