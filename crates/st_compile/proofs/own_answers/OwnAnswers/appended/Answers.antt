use Rattle.std.proofs.Common.{◌≡◌, ◌<◌, ◌∙◌, Some, length, set, ap, not, subst, sym, arith}
use Rattle.std.proofs.lemmas.List.{length-set}
use Rattle.std.specs.Prelude.{is_some}
use Rattle.st_calls.specs.Call.{every_rule, index_of_rule}
use Rattle.st_filter.specs.Fast.{fast_answer}
use Rattle.st_compile.specs.Answers.{AreAnswersBy, answer_at, with_filter_for}
use Rattle.st_compile.proofs.Answering.{answers_gained_by, answers_kept_by}
use Rattle.st_compile.proofs.own_answers.OwnAnswers.appended.Goals as goal

pub index_mut-requires : goal.index_mut-requires
index_mut-requires c =
    let whole : length c.self.inside.answers.items ≡ length every_rule = c.self.invariant in
    omega (arith, whole, c.index.ensures.within, c.self.inside.answers.ok.0)

pub invariant_of-self : goal.invariant_of-self
invariant_of-self c = length-set c.self.inside.answers.items c.index.result (Some c.args.answer) ∙ c.self.invariant

pub returns-then-is_none : goal.returns-then-is_none
returns-then-is_none c = λ filters f is by.
    let whole : length c.self.inside.answers.items ≡ length every_rule = c.self.invariant in
    let inside : index_of_rule c.args.rule < length c.self.inside.answers.items = omega (arith, whole, c.index.ensures.within, c.index.ensures.value) in
    let items = c.self.inside.answers.items in
    let gained : AreAnswersBy (with_filter_for filters c.args.rule f) (set items (index_of_rule c.args.rule) (Some (fast_answer f))) =
    answers_gained_by items filters c.args.rule f (subst (AreAnswersBy filters) (sym c.self.view_is) by) inside
    (ap (λ each. is_some (answer_at each c.args.rule)) (sym c.deref.ensures.value) ∙ ap is_some (sym c.answer_at.ensures) ∙ c.is_none.ensures ∙ ap not c.if-is_none.true) in
    subst (λ answer. AreAnswersBy (with_filter_for filters c.args.rule f) (set items c.index.result (Some answer))) is
    (subst (λ place. AreAnswersBy (with_filter_for filters c.args.rule f) (set items place (Some (fast_answer f)))) (sym c.index.ensures.value) gained)

pub returns-else-is_none : goal.returns-else-is_none
returns-else-is_none c = λ filters f is by.
    subst (AreAnswersBy (with_filter_for filters c.args.rule f)) c.self.view_is
    (answers_kept_by c.self.inside.answers.items filters c.args.rule f (subst (AreAnswersBy filters) (sym c.self.view_is) by)
    (ap (λ each. is_some (answer_at each c.args.rule)) (sym c.deref.ensures.value) ∙ ap is_some (sym c.answer_at.ensures) ∙ c.is_none.ensures ∙ ap not c.if-is_none.false))
