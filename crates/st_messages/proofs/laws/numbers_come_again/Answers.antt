use Rattle.st_messages.proofs.Runs.{kept_are_stale}
use Rattle.st_messages.proofs.Whole.{next_free}
use Rattle.st_messages.proofs.laws.numbers_come_again.Goals as goal

pub returns-clause-drawn : goal.returns-clause-drawn
returns-clause-drawn c = next_free

pub returns-clause-kept : goal.returns-clause-kept
returns-clause-kept c = kept_are_stale
