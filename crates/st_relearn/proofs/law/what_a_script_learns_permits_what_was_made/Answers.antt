use Rattle.st_relearn.proofs.Scripts.{script_permits_made}
use Rattle.st_relearn.proofs.law.what_a_script_learns_permits_what_was_made.Goals as goal

pub returns : goal.returns
returns c = script_permits_made c.what_was_made_is_permitted_by_what_was_learnt.ensures c.reading_is_one.ensures.one c.what_is_read_is_a_filter.ensures c.what_is_read_can_start.ensures
