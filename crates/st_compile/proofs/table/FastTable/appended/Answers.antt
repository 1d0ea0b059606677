use Rattle.std.proofs.Common.{◌∙◌, ap, not, subst, sym}
use Rattle.std.specs.Prelude.{is_some}
use Rattle.st_compile.specs.Answers.{ChangesAnswer}
use Rattle.st_compile.proofs.Answering.{answers_gained, answers_kept_under}
use Rattle.st_compile.proofs.table.FastTable.appended.Goals as goal

pub returns-then-is_none : goal.returns-then-is_none
returns-then-is_none c = λ filters binary f at is are.
    answers_gained filters c.args.self.now binary c.args.rule f are c.set_answer.new.self
    (ap is_some (sym (c.answer_in.ensures binary at)) ∙ c.is_none.ensures ∙ ap not c.if-is_none.true)
    (subst (λ answer. ChangesAnswer c.args.self.now binary c.args.rule answer c.set_answer.new.self) (sym is) (c.set_answer.ensures binary at))

pub returns-else-is_none : goal.returns-else-is_none
returns-else-is_none c = λ filters binary f at is are.
    answers_kept_under filters c.args.self.now binary c.args.rule f are
    (ap is_some (sym (c.answer_in.ensures binary at)) ∙ c.is_none.ensures ∙ ap not c.if-is_none.false)
