use Rattle.std.proofs.Common.{ℕ, ◌≡◌, ◌∙◌, not, true, false, Option, Some, None, ap, sym, subst}
use Rattle.std.specs.Prelude.{is_some}
use Rattle.st_calls.specs.declared.judged.Snapshot.{Snapshot}
use Rattle.st_calls.specs.declared.judged.Verdict.{Verdict}
use Rattle.st_law.specs.State.{is_question, State}
use Rattle.st_messages.specs.Messages.{message_state}
use Rattle.st_workers.specs.Refinement.{drawn_copies, HasAnswer}
use Rattle.st_decide.specs.Machine.{Refines, Running}
use Rattle.st_decide.specs.Questions.{later_decision}
use Rattle.st_decide.proofs.Questions.{asked_by, later_drawn, no_question, unmatched_answered}
use Rattle.st_decide.proofs.Running.{running_of}
use Rattle.st_decide.proofs.view.View.is_question.Goals as goal

pub returns-then-not-is_unmatched-clause-question : goal.returns-then-not-is_unmatched-clause-question
returns-then-not-is_unmatched-clause-question c =
    let m : Running = running_of c.self.inside in
    let none : (st : State) → Refines m st → is_question m.input st c.args.drawing ≡ false = λ st is. no_question m st is c.args.drawing c.state.result (c.state.ensures.law m.input st is.workers) (sym c.is_unmatched.ensures ∙ c.if-not-is_unmatched.true) in
    subst (λ (k : Running). (st : State) → Refines k st → is_question k.input st c.args.drawing ≡ false) c.self.view_is none

-- what was decided on the number's copies
decided : (m seen : Running) → m ≡ seen → (q : ℕ) (copies shown : Snapshot) → shown ≡ copies → (given : Option Verdict) → given ≡ later_decision seen shown → (o : Option Verdict) → given ≡ o → later_decision m (drawn_copies q copies) ≡ o
decided m seen same q copies shown there given is o said = later_drawn m q copies ∙ (λ k. later_decision (same k) (sym there k)) ∙ sym is ∙ said

pub returns-in-None-clause-question : goal.returns-in-None-clause-question
returns-in-None-clause-question c =
    let m : Running = running_of c.self.inside in
    let copies : Snapshot = drawn_copies c.args.drawing c.snapshot-copies.result.now in
    let some : (st : State) → Refines m st → is_question m.input st c.args.drawing ≡ true = λ st is.
    asked_by m st is c.args.drawing copies c.state.result (c.state.ensures.law m.input st is.workers) (sym c.is_unmatched.ensures ∙ c.if-not-is_unmatched.false) (c.snapshot-copies.ensures.law m.input st is.workers)
    ∙ ap (λ (o : Option Verdict). not (is_some o)) (decided m c.args.self.now c.self.view_is c.args.drawing c.snapshot-copies.result.now c.get.result.now c.get.ensures c.later_decision.result c.later_decision.ensures None c.in-None.is) in
    subst (λ (k : Running). (st : State) → Refines k st → is_question k.input st c.args.drawing ≡ true) c.self.view_is some

pub returns-in-None-clause-answered : goal.returns-in-None-clause-answered
returns-in-None-clause-answered c = λ is_one.
    subst (λ (k : Running). HasAnswer (message_state k.workers.calls c.args.drawing)) c.self.view_is
    (subst HasAnswer c.state.ensures.state (unmatched_answered c.state.result (sym c.is_unmatched.ensures ∙ c.if-not-is_unmatched.false)))

pub returns-in-Some-clause-question : goal.returns-in-Some-clause-question
returns-in-Some-clause-question c =
    let m : Running = running_of c.self.inside in
    let copies : Snapshot = drawn_copies c.args.drawing c.snapshot-copies.result.now in
    let none : (st : State) → Refines m st → is_question m.input st c.args.drawing ≡ false = λ st is.
    asked_by m st is c.args.drawing copies c.state.result (c.state.ensures.law m.input st is.workers) (sym c.is_unmatched.ensures ∙ c.if-not-is_unmatched.false) (c.snapshot-copies.ensures.law m.input st is.workers)
    ∙ ap (λ (o : Option Verdict). not (is_some o)) (decided m c.args.self.now c.self.view_is c.args.drawing c.snapshot-copies.result.now c.get.result.now c.get.ensures c.later_decision.result c.later_decision.ensures (Some c.in-Some.field-0) c.in-Some.is) in
    subst (λ (k : Running). (st : State) → Refines k st → is_question k.input st c.args.drawing ≡ false) c.self.view_is none
