use Rattle.std.proofs.Common.{◌≡◌, ◌∙◌, Some, ap, sym, subst}
use Rattle.st_calls.specs.declared.judged.Snapshot.{Snapshot}
use Rattle.st_law.specs.State.{snapshot_in, State}
use Rattle.st_messages.specs.Messages.{seq_of}
use Rattle.st_trace.specs.declared.entry.Choice.TheVariants.{Operator}
use Rattle.st_workers.specs.Refinement.{drawn_copies}
use Rattle.st_decide.specs.Machine.{Refines, Running}
use Rattle.st_decide.specs.Questions.{IsLeastFound}
use Rattle.st_decide.proofs.Asked.{answers_here}
use Rattle.st_decide.proofs.Questions.{answers_drawn}
use Rattle.st_steps.proofs.Answered.{answered_numbers, answered_on, at_drawing, with_operator}
use Rattle.st_steps.proofs.Served.{left_as, running_step}
use Rattle.st_machine.proofs.Running.{running_of}
use Rattle.st_machine.proofs.machine.Machine.ask.Goals as goal

pub snapshot-requires : goal.snapshot-requires
snapshot-requires c = (subst (λ (k : Running). IsLeastFound k (Some c.in-Some.drawing)) (c.view.ensures ∙ sym c.self.view_is) c.in-Some.ensures).0

pub answer-requires : goal.answer-requires
answer-requires c =
    let m : Running = running_of c.self.inside in
    let st = c.self.invariant.state in
    let is = c.self.invariant.is in
    let question = (subst (λ (k : Running). IsLeastFound k (Some c.in-Some.drawing)) (c.view.ensures ∙ sym c.self.view_is) c.in-Some.ensures).1 st is in
    let sealed : snapshot_in st c.in-Some.drawing ≡ Some (drawn_copies c.in-Some.drawing c.get.result.now) =
    c.snapshot.ensures.law m.input st is.workers ∙ ap (λ (s : Snapshot). Some (drawn_copies c.in-Some.drawing s)) (sym (c.get.ensures ∙ c.in_ok-copies.ensures)) in
    sym (answers_drawn m.operator c.in-Some.drawing c.get.result.now m.input.options.mode) ∙ answers_here m st is c.in-Some.drawing (drawn_copies c.in-Some.drawing c.get.result.now) question.0 question.1 sealed

abbrev old : goal.After-drop-copies-inside-2 → Running
old c = running_of c.self.inside

found : (c : goal.After-drop-copies-inside-2) → IsLeastFound (old c) (Some c.in-Some.drawing)
found c = subst (λ (k : Running). IsLeastFound k (Some c.in-Some.drawing)) (c.view.ensures ∙ sym c.self.view_is) c.in-Some.ensures

same : (c : goal.After-drop-copies-inside-2) → c.get.result.now ≡ c.snapshot.result.now
same c = c.get.ensures ∙ c.in_ok-copies.ensures

sealed : (c : goal.After-drop-copies-inside-2) (st : State) → Refines (old c) st → snapshot_in st c.in-Some.drawing ≡ Some (drawn_copies c.in-Some.drawing c.get.result.now)
sealed c st is = c.snapshot.ensures.law (old c).input st is.workers ∙ ap (λ (s : Snapshot). Some (drawn_copies c.in-Some.drawing s)) (sym (same c))

has : (c : goal.After-drop-copies-inside-2) → seq_of (old c).workers.calls c.in-Some.drawing ≡ Some c.get.result.now.seq
has c = c.snapshot.ensures.seq ∙ ap (λ (s : Snapshot). Some s.seq) (sym (same c))

pub invariant_of-self-2 : goal.invariant_of-self-2
invariant_of-self-2 c =
    running_step (old c) (with_operator (old c) c.answer.new.self c.answer.new.answering) Operator (at_drawing c.in-Some.drawing c.in_ok-entry.entry) c.self.invariant
    (answered_on (old c) c.answer.new.self c.answer.new.answering c.in-Some.drawing c.get.result.now c.in_ok-entry.entry (found c) (sealed c) (has c) c.in_ok-entry.ensures.law)

pub returns-clause-step : goal.returns-clause-step
returns-clause-step c = left_as (old c) _ _ c.self.view_is Operator _ _ _ c.leave.ensures
    (answered_on (old c) c.answer.new.self c.answer.new.answering c.in-Some.drawing c.get.result.now c.in_ok-entry.entry (found c) (sealed c) (has c) c.in_ok-entry.ensures.law)
    (answered_numbers (old c) c.answer.new.self c.answer.new.answering c.in-Some.drawing c.get.result.now c.in_ok-entry.entry (found c) (sealed c) (has c) c.in_ok-entry.ensures.law c.self.invariant)
