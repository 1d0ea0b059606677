use Rattle.st_script.proofs.Replied.{replies_ungranted}
use Rattle.st_script.proofs.policies.what_is_replied_grants_no_ids_for_setting.Goals as goal

pub returns : goal.returns
returns c = replies_ungranted c.what_is_read_is_a_filter.ensures
