use Rattle.std.proofs.Common.{◌∙◌}
use Rattle.st_decide.proofs.Asked.{can_answer}
use Rattle.st_decide.proofs.view.View.can_ask.Goals as goal

pub returns : goal.returns
returns c = λ st is. c.is_some.ensures ∙ can_answer c.args.self.now c.least_question.result c.least_question.ensures st is
