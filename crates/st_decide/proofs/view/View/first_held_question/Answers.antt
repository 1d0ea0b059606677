use Rattle.std.proofs.Common.{sym, ◌∙◌}
use Rattle.st_decide.proofs.Asked.{found_first}
use Rattle.st_decide.proofs.view.View.first_held_question.Goals as goal

pub returns-then-is_question : goal.returns-then-is_question
returns-then-is_question c =
    found_first c.args.self.now c.in_ok-drawing.drawing (sym c.least_held.ensures ∙ c.in_ok-drawing.was)
    (c.is_question.ensures.answered c.if-is_question.true, λ st is. c.is_question.ensures.question st is ∙ c.if-is_question.true)
