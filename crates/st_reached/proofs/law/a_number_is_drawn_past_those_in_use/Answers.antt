use Rattle.st_reached.proofs.Circle.{drawn_is}
use Rattle.st_reached.proofs.law.a_number_is_drawn_past_those_in_use.Goals as goal

pub returns : goal.returns
returns c = λ circle numbers taken made same. drawn_is numbers circle taken made same
