use Rattle.st_readtrace.proofs.Reading.{read_again}
use Rattle.st_readtrace.proofs.law.printed_traces_are_read_again.Goals as goal

pub returns : goal.returns
returns c = read_again
