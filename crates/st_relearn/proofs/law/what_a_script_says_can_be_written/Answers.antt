use Rattle.st_relearn.proofs.Scripts.{script_is_plain}
use Rattle.st_relearn.proofs.law.what_a_script_says_can_be_written.Goals as goal

pub returns : goal.returns
returns c = script_is_plain c.what_is_read_is_a_filter.ensures
