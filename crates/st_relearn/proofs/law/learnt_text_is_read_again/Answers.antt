use Rattle.st_relearn.proofs.Sessions.{learnt_is_read}
use Rattle.st_relearn.proofs.law.learnt_text_is_read_again.Goals as goal

pub returns : goal.returns
returns c = learnt_is_read
