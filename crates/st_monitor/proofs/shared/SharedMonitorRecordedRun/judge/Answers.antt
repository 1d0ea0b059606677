use Rattle.std.proofs.Common.{◌∙◌, ap, sym}
use Rattle.st_calls.specs.declared.judged.Snapshot.{Snapshot}
use Rattle.st_filter.specs.Judged.{JudgedCall, verdict_under}
use Rattle.st_filter.specs.Policies.{PoliciesValue}
use Rattle.st_law.specs.declared.input.Input.{Input}
use Rattle.st_monitor.proofs.shared.SharedMonitorRecordedRun.judge.Goals as goal

pub with-judged-requires : goal.with-judged-requires
with-judged-requires g c =
    c.decide-verdict.ensures ∙ ap (λ (s : Snapshot). verdict_under c.args.self.now.compiled s) c.get-2.ensures ∙ ap (λ (policies : PoliciesValue). verdict_under policies c.args.copies) (c.args.self.now.compiled_of ∙ sym (ap (λ (i : Input). i.policies) c.args.self.now.of_input))

pub answer-requires : goal.answer-requires
answer-requires g c = ap (λ (j : JudgedCall). j.policies) c.with-judged.ensures ∙ ap (λ (i : Input). i.policies) c.args.self.now.of_input
