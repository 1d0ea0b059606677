use Rattle.std.proofs.Common.{◌∙◌, Some, ap, sym, subst}
use Rattle.st_calls.specs.declared.judged.Snapshot.{Snapshot}
use Rattle.st_calls.specs.declared.judged.Verdict.{Verdict}
use Rattle.st_calls.specs.declared.judged.Verdict.TheVariants.{Unmatched}
use Rattle.st_law.specs.State.{State}
use Rattle.st_messages.specs.declared.message.MsgState.TheVariants.{Answered}
use Rattle.st_workers.specs.Refinement.{drawn_copies, IsMessageStateOf}
use Rattle.st_decide.specs.Machine.{Refines, Running}
use Rattle.st_decide.specs.NextSteps.{IsDecision}
use Rattle.st_decide.specs.Questions.{later_decision}
use Rattle.st_decide.proofs.NextSteps.{shared_are}
use Rattle.st_decide.proofs.Questions.{later_decision_is, later_drawn}
use Rattle.st_decide.proofs.Running.{running_of}
use Rattle.st_decide.proofs.view.View.decision.Goals as goal

pub returns-in-Unmatched : goal.returns-in-Unmatched
returns-in-Unmatched c =
    let m : Running = running_of c.self.inside in
    let copies : Snapshot = c.get.result.now in
    let sealed = shared_are m c.args.drawing (drawn_copies c.args.drawing c.snapshot.result.now) (drawn_copies c.args.drawing copies) (ap (drawn_copies c.args.drawing) c.get.ensures) c.snapshot.ensures.law in
    let come : (st : State) → Refines m st → IsMessageStateOf m.input st c.args.drawing (Some (Answered Unmatched)) =
    subst (λ (k : Running). (st : State) → Refines k st → IsMessageStateOf k.input st c.args.drawing (Some (Answered Unmatched))) (sym c.self.view_is)
    (λ st is. subst (λ (v : Verdict). IsMessageStateOf c.args.self.now.input st c.args.drawing (Some (Answered v))) c.in-Unmatched.is (c.requires.come st is)) in
    subst (λ (v : Verdict). IsDecision c.args.self.now c.args.drawing v c.later_decision.result) (sym c.in-Unmatched.is)
    (subst (IsDecision c.args.self.now c.args.drawing Unmatched) (later_drawn c.args.self.now c.args.drawing copies ∙ sym c.later_decision.ensures)
    (subst (λ (k : Running). IsDecision k c.args.drawing Unmatched (later_decision k (drawn_copies c.args.drawing copies))) c.self.view_is (later_decision_is m c.args.drawing (drawn_copies c.args.drawing copies) sealed come)))
