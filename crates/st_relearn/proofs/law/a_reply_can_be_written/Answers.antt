use Rattle.st_relearn.proofs.Replies.{reply_is_writable}
use Rattle.st_relearn.proofs.law.a_reply_can_be_written.Goals as goal

pub returns : goal.returns
returns c = reply_is_writable
