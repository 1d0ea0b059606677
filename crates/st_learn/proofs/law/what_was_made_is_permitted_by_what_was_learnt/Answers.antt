use Rattle.st_learn.proofs.Permitting.{permits_made}
use Rattle.st_learn.proofs.law.what_was_made_is_permitted_by_what_was_learnt.Goals as goal

pub returns : goal.returns
returns c = permits_made
