use Rattle.st_model.proofs.Endings.{resolve_ends}
use Rattle.st_model.proofs.walk.a_resolution_ends.Goals as goal

pub returns : goal.returns
returns c = resolve_ends
