use Rattle.std.proofs.Common.{◌∙◌, ap}
use Rattle.std.specs.Prelude.{unwrap_or}
use Rattle.st_calls.specs.declared.rule.FastAnswer.TheVariants.{Ask}
use Rattle.st_compile.specs.Answers.{answer_at}
use Rattle.st_compile.proofs.Answering.{fast_is}
use Rattle.st_compile.proofs.table.FastTable.get.Goals as goal

pub returns : goal.returns
returns c = λ filters are.
    c.unwrap_or.ensures
    ∙ ap (λ o. unwrap_or o Ask) (c.answer_at.ensures ∙ ap (λ answers. answer_at answers c.args.rule) c.answers.ensures ∙ are c.args.binary.now c.args.rule)
    ∙ fast_is (filters c.args.binary.now c.args.rule)
