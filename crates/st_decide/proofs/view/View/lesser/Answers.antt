use Rattle.std.proofs.Common.{◌∙◌, sym}
use Rattle.st_decide.proofs.Asked.{above_all, at_most, least_kept, least_still, least_this}
use Rattle.st_decide.proofs.view.View.lesser.Goals as goal

pub returns-then-is_at_most : goal.returns-then-is_at_most
returns-then-is_at_most c = least_kept c.args.self.now c.args.least c.args.drawing (at_most c.args.least c.args.drawing (sym c.is_at_most.ensures ∙ c.if-is_at_most.true))

pub returns-then-is_question : goal.returns-then-is_question
returns-then-is_question c =
    least_this c.args.self.now c.args.least c.args.drawing (above_all c.args.least c.args.drawing (sym c.is_at_most.ensures ∙ c.if-is_at_most.false))
    (c.is_question.ensures.answered c.if-is_question.true, λ st is. c.is_question.ensures.question st is ∙ c.if-is_question.true)

pub returns-else-is_question : goal.returns-else-is_question
returns-else-is_question c = least_still c.args.self.now c.args.least c.args.drawing (λ st is. c.is_question.ensures.question st is ∙ c.if-is_question.false)
