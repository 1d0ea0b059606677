use Rattle.std.proofs.Common.{◌∙◌, ◌++◌, [], ◌∷◌, ap, subst}
use Rattle.st_compile.specs.Answers.{AllFilters, AreAnswersUnder, with_appended}
use Rattle.st_filter.specs.Formula.{FilterValue}
use Rattle.st_law.specs.Sessions.{kept_for}
use Rattle.st_learn.proofs.Replies.{is_learnt}
use Rattle.st_learn.proofs.operator.Operator.learn.Goals as goal

pub returns-clause-law : goal.returns-clause-law
returns-clause-law c = λ input st is are copies.
    let s = c.args.copies.now in
    is_learnt input st c.args.self.now is s copies c.args.answering.now c.keep.new.answering are c.keep.ensures.policies c.keep.new.self c.in_ok-number.number c.in_ok-number.ensures.number c.in_ok-number.ensures.changed c.keep.ensures.reloads
    (c.in_ok-number.ensures.filters ∙ ap (λ (f : FilterValue). c.args.self.now.filters ++ kept_for f s ∷ []) c.in_ok-filter.ensures)
    c.keep.ensures.replies c.keep.ensures.left
    (subst (λ (f : FilterValue). (filters : AllFilters) → AreAnswersUnder filters c.args.answering.now.own → AreAnswersUnder (with_appended filters s.policy s.rule f) c.keep.new.answering.own) c.in_ok-filter.ensures c.in_ok-number.ensures.own)
