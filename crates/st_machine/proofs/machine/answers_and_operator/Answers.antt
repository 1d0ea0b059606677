use Rattle.std.proofs.Common.{refl, sym}
use Rattle.st_machine.proofs.machine.answers_and_operator.Goals as goal

pub returns-clause-operator : goal.returns-clause-operator
returns-clause-operator c = c.in_ok-new.ensures.law c.args.input.now (sym c.as_slice.ensures)

pub returns-clause-answers : goal.returns-clause-answers
returns-clause-answers c = c.in_ok-answers.ensures c.args.input.now refl
