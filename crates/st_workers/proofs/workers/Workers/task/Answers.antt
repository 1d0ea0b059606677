use Rattle.std.proofs.Common.{◌≡◌, ◌≤◌, ◌-◌, ◌∙◌, ℕ, List, get_or, true, Some, IsSome, ap, refl, sym, subst}
use Rattle.std.proofs.lemmas.Option.{same_Some}
use Rattle.st_law.specs.State.{is_live, is_worker, State}
use Rattle.st_law.specs.declared.input.Input.{Input}
use Rattle.st_lookaside.specs.Slot.{next_need, slot_progress, Slot}
use Rattle.st_lookaside.specs.Slots.{slot_at}
use Rattle.st_lookaside.specs.declared.head.Head.{Head}
use Rattle.st_workers.specs.Refinement.{RepresentsMessages, AreValidWorkers}
use Rattle.st_workers.specs.Tasks.{idle_task, task_at, task_of, task_of_slot, task_of_turn, IsTask, CanServe}
use Rattle.st_workers.specs.UnderWay.{turn_of_worker, UnderWay}
use Rattle.st_workers.specs.declared.task.Task.{Task}
use Rattle.st_workers.specs.declared.task.Task.TheVariants as task
use Rattle.st_workers.specs.declared.turn.Turn.{Turn}
use Rattle.st_workers.specs.declared.turn.Turn.TheVariants.{Idle, Ready, Working}
use Rattle.st_messages.specs.declared.message.MsgState.TheVariants.{Claimed}
use Rattle.st_workers.proofs.Ended.{state_live, working_claimed}
use Rattle.st_workers.proofs.Tasks.{claim_entry, ready_is, rest_entry, working_is, working_slot, worker_there}
use Rattle.st_workers.proofs.Turns.{item_here}
use Rattle.st_messages.specs.Messages.{is_kept}
use Rattle.st_workers.proofs.workers.Workers.task.Goals as goal

-- what is kept of a worker whose turn was read
module _ (turns : List Turn) (now kept : UnderWay) (view : now ≡ kept) (whole : AreValidWorkers now) (same : turns ≡ now.turns) (worker : ℕ) (from : 1 ≤ worker) (to : worker ≤ kept.calls.workers) (turn read : Turn)
    (read_is : read ≡ get_or turns (worker - 1) read) (is : read ≡ turn) where
  here : turn_of_worker now worker ≡ Some turn
  here = item_here now.turns worker read from (subst (λ (n : ℕ). worker ≤ n) (ap (λ (k : UnderWay). k.calls.workers) (sym view) ∙ sym whole.count) to) ∙ ap Some (ap (λ (ts : List Turn). get_or ts (worker - 1) read) (sym same) ∙ sym read_is ∙ is)

  task_here : (task : Task) → task_of_turn now (Some turn) ≡ task → task ≡ task_of kept worker
  task_here task e = sym (sym (ap (λ (k : UnderWay). task_of k worker) view) ∙ ap (task_of_turn now) here ∙ e)

  law_here : (task : Task) → ((i : Input) (st : State) → RepresentsMessages i st (is_live st) now → is_worker i worker ≡ true → IsTask i st now worker task) → (i : Input) (st : State) → RepresentsMessages i st (is_live st) kept → IsTask i st kept worker task
  law_here task law i st is_kept =
      let inside : RepresentsMessages i st (is_live st) now = subst (λ (k : UnderWay). RepresentsMessages i st (is_live st) k) (sym view) is_kept in
      subst (λ (k : UnderWay). IsTask i st k worker task) view (law i st inside (worker_there i st (is_live st) now worker from (subst (λ (n : ℕ). worker ≤ n) (ap (λ (k : UnderWay). k.calls.workers) (sym view)) to) inside))

abbrev inside : goal.After-row_known-1 → UnderWay
inside c = record { calls = c.self.inside.messages; slots = c.self.inside.slots; turns = c.self.inside.turns.items }

working : (c : goal.After-row_known-1) → turn_of_worker (inside c) c.args.worker ≡ Some (Working c.in-Working.drawing)
working c = here (inside c).turns (inside c) c.args.self.now c.self.view_is c.self.invariant.0 refl c.args.worker c.requires.0 c.requires.1 (Working c.in-Working.drawing) c.index.result.now c.index.ensures c.in-Working.is

pub slot-slot-requires : goal.slot-slot-requires
slot-slot-requires c = subst IsSome (sym (working_slot (inside c) c.self.invariant.0 c.args.worker c.in-Working.drawing (working c)).1) refl

abbrev kept : goal.After-task_at → UnderWay
kept c = record { calls = c.self.inside.messages; slots = c.self.inside.slots; turns = c.self.inside.turns.items }

slot : (c : goal.After-task_at) → (slot : Slot) × (slot_at (kept c).slots c.in-Working.drawing ≡ Some slot)
slot c = working_slot (kept c) c.self.invariant.0 c.args.worker c.in-Working.drawing
    (here (kept c).turns (kept c) c.args.self.now c.self.view_is c.self.invariant.0 refl c.args.worker c.requires.0 c.requires.1 (Working c.in-Working.drawing) c.index.result.now c.index.ensures c.in-Working.is)

read : (c : goal.After-task_at) → c.slot-slot.result.now ≡ (slot c).0
read c = same_Some c.slot-slot.result.now (slot c).0 (sym c.slot-slot.ensures ∙ (slot c).1)

task_is : (c : goal.After-task_at) → c.task_at.result ≡ task_at c.in-Working.drawing (slot c).0.head.pid (slot_progress (slot c).0)
task_is c =
    c.task_at.ensures.task (slot_progress (slot c).0) (c.next.ensures.value ∙ ap (λ (s : Slot). next_need (slot_progress s)) (read c))
    ∙ ap (λ (h : Head). task_at c.in-Working.drawing h.pid (slot_progress (slot c).0)) (c.head.ensures ∙ ap (λ (s : Slot). s.head) (read c))

pub returns-in-Working-clause-task : goal.returns-in-Working-clause-task
returns-in-Working-clause-task c =
    task_here (kept c).turns (kept c) c.args.self.now c.self.view_is c.self.invariant.0 refl c.args.worker c.requires.0 c.requires.1 (Working c.in-Working.drawing) c.index.result.now c.index.ensures c.in-Working.is c.task_at.result
    (ap (task_of_slot c.in-Working.drawing) (slot c).1 ∙ sym (task_is c))

pub returns-in-Working-clause-law : goal.returns-in-Working-clause-law
returns-in-Working-clause-law c =
    law_here (kept c).turns (kept c) c.args.self.now c.self.view_is c.self.invariant.0 refl c.args.worker c.requires.0 c.requires.1 (Working c.in-Working.drawing) c.index.result.now c.index.ensures c.in-Working.is c.task_at.result
    (λ i st is there. subst (λ (t : Task). IsTask i st (kept c) c.args.worker t) (sym (task_is c))
    (working_is i st (kept c) c.args.worker is there c.in-Working.drawing (slot c).0 (here (kept c).turns (kept c) c.args.self.now c.self.view_is c.self.invariant.0 refl c.args.worker c.requires.0 c.requires.1 (Working c.in-Working.drawing) c.index.result.now c.index.ensures c.in-Working.is) (slot c).1))

abbrev waits : goal.In-Some → UnderWay
waits c = record { calls = c.self.inside.messages; slots = c.self.inside.slots; turns = c.self.inside.turns.items }

pub returns-in-Some-clause-task : goal.returns-in-Some-clause-task
returns-in-Some-clause-task c =
    task_here (waits c).turns (waits c) c.args.self.now c.self.view_is c.self.invariant.0 refl c.args.worker c.requires.0 c.requires.1 Idle c.index.result.now c.index.ensures c.in-Idle.is task.Claim
    (ap idle_task (sym c.in-Some.ensures.first))

pub returns-in-Some-clause-law : goal.returns-in-Some-clause-law
returns-in-Some-clause-law c =
    law_here (waits c).turns (waits c) c.args.self.now c.self.view_is c.self.invariant.0 refl c.args.worker c.requires.0 c.requires.1 Idle c.index.result.now c.index.ensures c.in-Idle.is task.Claim
    (λ i st is there. (
      c.in-Some.field-0,
      claim_entry i st (waits c) c.args.worker is there
          (here (waits c).turns (waits c) c.args.self.now c.self.view_is c.self.invariant.0 refl c.args.worker c.requires.0 c.requires.1 Idle c.index.result.now c.index.ensures c.in-Idle.is) c.in-Some.field-0 c.in-Some.ensures.least,
    ))

abbrev rests : goal.In-None → UnderWay
rests c = record { calls = c.self.inside.messages; slots = c.self.inside.slots; turns = c.self.inside.turns.items }

pub returns-in-None-clause-task : goal.returns-in-None-clause-task
returns-in-None-clause-task c =
    task_here (rests c).turns (rests c) c.args.self.now c.self.view_is c.self.invariant.0 refl c.args.worker c.requires.0 c.requires.1 Idle c.index.result.now c.index.ensures c.in-Idle.is task.Rest
    (ap idle_task (sym c.in-None.ensures.first))

pub returns-in-None-clause-law : goal.returns-in-None-clause-law
returns-in-None-clause-law c =
    law_here (rests c).turns (rests c) c.args.self.now c.self.view_is c.self.invariant.0 refl c.args.worker c.requires.0 c.requires.1 Idle c.index.result.now c.index.ensures c.in-Idle.is task.Rest
    (λ i st is there. rest_entry i st (rests c) c.args.worker is there
    (here (rests c).turns (rests c) c.args.self.now c.self.view_is c.self.invariant.0 refl c.args.worker c.requires.0 c.requires.1 Idle c.index.result.now c.index.ensures c.in-Idle.is) (c.in-None.ensures.none.0 refl))

abbrev answers : goal.In-Ready → UnderWay
answers c = record { calls = c.self.inside.messages; slots = c.self.inside.slots; turns = c.self.inside.turns.items }

pub returns-in-Ready-clause-task : goal.returns-in-Ready-clause-task
returns-in-Ready-clause-task c =
    task_here (answers c).turns (answers c) c.args.self.now c.self.view_is c.self.invariant.0 refl c.args.worker c.requires.0 c.requires.1 (Ready c.in-Ready.field-0 c.in-Ready.field-1) c.index.result.now c.index.ensures c.in-Ready.is task.Answer refl

pub returns-in-Ready-clause-law : goal.returns-in-Ready-clause-law
returns-in-Ready-clause-law c =
    law_here (answers c).turns (answers c) c.args.self.now c.self.view_is c.self.invariant.0 refl c.args.worker c.requires.0 c.requires.1 (Ready c.in-Ready.field-0 c.in-Ready.field-1) c.index.result.now c.index.ensures c.in-Ready.is task.Answer
    (λ i st is there.
    let ready : turn_of_worker (answers c) c.args.worker ≡ Some (Ready c.in-Ready.field-0 c.in-Ready.field-1) =
    here (answers c).turns (answers c) c.args.self.now c.self.view_is c.self.invariant.0 refl c.args.worker c.requires.0 c.requires.1 (Ready c.in-Ready.field-0 c.in-Ready.field-1) c.index.result.now c.index.ensures c.in-Ready.is in
    (c.in-Ready.field-0, c.in-Ready.field-1, ready, ready_is i st (answers c) c.args.worker is there c.in-Ready.field-0 c.in-Ready.field-1 ready))

pub returns-in-Working-clause-there : goal.returns-in-Working-clause-there
returns-in-Working-clause-there c =
    let claimed = working_claimed (kept c) c.self.invariant.0 c.args.worker c.in-Working.drawing
    (here (kept c).turns (kept c) c.args.self.now c.self.view_is c.self.invariant.0 refl c.args.worker c.requires.0 c.requires.1 (Working c.in-Working.drawing) c.index.result.now c.index.ensures c.in-Working.is) in
    subst (λ (k : UnderWay). CanServe k.calls c.task_at.result) c.self.view_is (
    c.task_at.ensures.there (kept c).calls (state_live (kept c).calls c.in-Working.drawing (Claimed claimed.0) claimed.1) c.next.ensures.inside
    )
