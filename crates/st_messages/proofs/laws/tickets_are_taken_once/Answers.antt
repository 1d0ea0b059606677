use Rattle.st_messages.proofs.TakenOnce.{taken_once}
use Rattle.st_messages.proofs.laws.tickets_are_taken_once.Goals as goal

pub returns : goal.returns
returns c = taken_once
