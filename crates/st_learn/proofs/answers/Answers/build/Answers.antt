use Rattle.std.proofs.Common.{◌∙◌, ap, subst, sym}
use Rattle.st_compile.specs.Answers.{AreAnswersUnder}
use Rattle.st_filter.specs.Policies.{PoliciesValue, read_filters}
use Rattle.st_learn.proofs.InForce.{answers_begin}
use Rattle.st_learn.proofs.answers.Answers.build.Goals as goal

pub returns : goal.returns
returns c = λ input same.
    answers_begin input (record { policies = c.in_ok-compiled.compiled; own = c.in_ok-own.own }) (c.in_ok-compiled.ensures ∙ sym same)
    (subst (λ policies. AreAnswersUnder (read_filters policies) c.in_ok-own.own) (c.read.ensures ∙ ap (λ (policies : PoliciesValue). policies.read) (sym same)) c.in_ok-own.ensures)
