use Rattle.st_readtrace.proofs.Reading.{one_line}
use Rattle.st_readtrace.proofs.law.no_two_entries_have_one_line.Goals as goal

pub returns : goal.returns
returns c = one_line
