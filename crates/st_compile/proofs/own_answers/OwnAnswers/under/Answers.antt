use Rattle.st_compile.proofs.Tables.{answers_first}
use Rattle.st_compile.proofs.own_answers.OwnAnswers.under.Goals as goal

pub returns : goal.returns
returns c = answers_first c.args.policy.now c.in_ok-answers.answers.items c.in_ok-answers.ensures
