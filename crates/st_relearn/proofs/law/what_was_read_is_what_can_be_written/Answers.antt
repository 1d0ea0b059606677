use Rattle.st_relearn.proofs.Bytes.{exactly_read}
use Rattle.st_relearn.proofs.law.what_was_read_is_what_can_be_written.Goals as goal

pub returns : goal.returns
returns c = exactly_read
