use Rattle.std.proofs.Common.{◌≡◌, ◌∙◌, ap, sym, subst}
use Rattle.st_filter.specs.Fast.{fast}
use Rattle.st_learn.specs.Answers.{all_filters}
use Rattle.st_model.specs.Process.{Process}
use Rattle.st_decide.specs.Machine.{Running}
use Rattle.st_decide.specs.NextSteps.{IsAnswerOf}
use Rattle.st_decide.proofs.Running.{running_of}
use Rattle.st_decide.proofs.view.View.answer.Goals as goal

pub returns : goal.returns
returns c =
    let m : Running = running_of c.self.inside in
    let answer : IsAnswerOf m c.args.pid c.args.call c.args.regs.now c.own.result = λ st is.
    let policy : (st.processes c.args.pid).policy ≡ c.bytes-policy.result.now = ap (λ (p : Process). p.policy) (is.system.processes c.args.pid) ∙ sym (c.bytes-policy.ensures ∙ c.get.ensures ∙ c.policy.ensures) in
    (λ k. fast (all_filters m.input st (policy k) (sym c.of-rule.ensures k))) ∙ sym (c.own.ensures (all_filters m.input st) is.answers.own) in
    subst (λ (k : Running). IsAnswerOf k c.args.pid c.args.call c.args.regs.now c.own.result) c.self.view_is answer
