use Rattle.st_reached.proofs.NumbersBack.{lawful_numbers}
use Rattle.st_reached.proofs.law.lawful_numbers_are_those_of_a_run.Goals as goal

pub returns : goal.returns
returns c = lawful_numbers
