use Rattle.std.proofs.Common.{◌≡◌, ◌∙◌, Some, ap, sym, subst}
use Rattle.st_calls.specs.declared.judged.Snapshot.{Snapshot}
use Rattle.st_decide.specs.Machine.{Running}
use Rattle.st_filter.specs.Judged.{verdict_under}
use Rattle.st_filter.specs.Policies.{PoliciesValue}
use Rattle.st_workers.specs.UnderWay.{turn_of_worker}
use Rattle.st_workers.specs.declared.turn.Turn.TheVariants.{Ready}
use Rattle.st_machine.proofs.Running.{running_of}
use Rattle.st_steps.proofs.Served.{same_copies}
use Rattle.st_machine.proofs.machine.Machine.answer_of.Goals as goal

-- the copies that were judged are those that the worker is ready with
pub answer-requires-clause-verdict : goal.answer-requires-clause-verdict
answer-requires-clause-verdict c q s ready =
    let m : Running = running_of c.self.inside in
    let copies : Snapshot = c.copies-copies.result.now in
    let here : turn_of_worker m.workers c.args.worker ≡ Some (Ready q s) = subst (λ (k : Running). turn_of_worker k.workers c.args.worker ≡ Some (Ready q s)) (sym c.self.view_is) ready in
    let same : copies ≡ s = same_copies m.workers c.args.worker c.copies-copies.ensures.0 q copies s c.copies-copies.ensures.1 here in
    subst (λ (k : Running). c.decide-verdict.result ≡ verdict_under k.input.policies s) c.self.view_is
    (c.decide-verdict.ensures
    ∙ ap (λ (policies : PoliciesValue). verdict_under policies copies) (c.compiled.ensures ∙ c.self.invariant.is.answers.policies)
    ∙ ap (verdict_under m.input.policies) same)
