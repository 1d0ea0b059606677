use Rattle.st_reached.proofs.OwnIds.{sets_own_ids}
use Rattle.st_reached.proofs.law.own_ids_for_setting.Goals as goal

pub returns : goal.returns
returns c = sets_own_ids
