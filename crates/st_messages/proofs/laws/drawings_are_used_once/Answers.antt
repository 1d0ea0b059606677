use Rattle.st_messages.proofs.Runs.{claims_go_up, dead_drawings_stay, renewed_are_stale}
use Rattle.st_messages.proofs.laws.drawings_are_used_once.Goals as goal

pub returns-clause-dead : goal.returns-clause-dead
returns-clause-dead c = dead_drawings_stay

pub returns-clause-renewed : goal.returns-clause-renewed
returns-clause-renewed c = renewed_are_stale

pub returns-clause-claims : goal.returns-clause-claims
returns-clause-claims c = claims_go_up
