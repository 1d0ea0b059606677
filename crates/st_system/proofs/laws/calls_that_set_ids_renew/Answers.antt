use Rattle.st_system.proofs.Renewing.{renews_after}
use Rattle.st_system.proofs.laws.calls_that_set_ids_renew.Goals as goal

pub returns : goal.returns
returns c = λ i st call request. renews_after i st request call
