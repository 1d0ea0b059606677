use Rattle.std.proofs.Common.{◌∙◌, suc, length, ap}
use Rattle.st_filter.specs.Judging.{verdict_from}
use Rattle.st_filter.specs.Policies.{PoliciesValue, filters_in_force}
use Rattle.st_law.specs.Sessions.{session_filters}
use Rattle.st_learn.specs.Sessions.{version_of}
use Rattle.st_decide.specs.Machine.{Running}
use Rattle.st_decide.specs.Questions.{session_verdict}
use Rattle.st_decide.proofs.Running.{running_of}
use Rattle.st_decide.proofs.view.View.session_verdict.Goals as goal

pub returns : goal.returns
returns c =
    let m : Running = running_of c.self.inside in
    let s = c.args.copies.now in
    c.verdict.ensures
    ∙ ap (λ (policies : PoliciesValue). verdict_from (suc (length (filters_in_force policies s.policy (version_of m.operator.reloads s.policy) s.rule))) (session_filters m.operator.filters s.policy s.rule) s) (c.compiled.ensures ∙ c.self.invariant.is.answers.policies)
    ∙ ap (λ (k : Running). session_verdict k s) c.self.view_is
