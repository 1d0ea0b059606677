use Rattle.st_script.proofs.Replied.{blocks_ungranted}
use Rattle.st_script.proofs.policies.what_is_reloaded_grants_no_ids_for_setting.Goals as goal

pub returns : goal.returns
returns c = blocks_ungranted c.what_is_read_is_a_filter.ensures
