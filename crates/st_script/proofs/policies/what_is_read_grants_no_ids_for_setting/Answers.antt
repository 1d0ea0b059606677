use Rattle.st_script.proofs.Ungranted.{read_ungranted}
use Rattle.st_script.proofs.policies.what_is_read_grants_no_ids_for_setting.Goals as goal

pub returns : goal.returns
returns c = read_ungranted
