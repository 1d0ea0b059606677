use Rattle.st_relearn.proofs.Writing.{written_is_read}
use Rattle.st_relearn.proofs.law.what_can_be_written_is_read_again.Goals as goal

pub returns : goal.returns
returns c = written_is_read
