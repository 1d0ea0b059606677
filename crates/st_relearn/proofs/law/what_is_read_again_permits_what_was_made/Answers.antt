use Rattle.st_relearn.proofs.Runs.{read_permits_made}
use Rattle.st_relearn.proofs.law.what_is_read_again_permits_what_was_made.Goals as goal

pub returns : goal.returns
returns c = read_permits_made c.what_was_made_is_permitted_by_what_was_learnt.ensures c.reading_is_one.ensures.one
