use Rattle.st_reached.proofs.NumbersDrawn.{few_drawn}
use Rattle.st_reached.proofs.law.few_numbers_are_drawn.Goals as goal

pub returns : goal.returns
returns c = few_drawn
