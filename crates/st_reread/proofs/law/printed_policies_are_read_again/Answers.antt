use Rattle.st_reread.proofs.Readings.{canon-reads}
use Rattle.st_reread.proofs.law.printed_policies_are_read_again.Goals as goal

pub returns : goal.returns
returns c = canon-reads
