use Rattle.st_readtrace.proofs.Reading.{read_again}
use Rattle.st_written.proofs.LawfulEntries.{lawful_written}
use Rattle.st_readtrace.proofs.law.lawful_traces_are_read_again.Goals as goal

pub returns : goal.returns
returns c input first trace law types read is = read_again trace read (lawful_written input first trace law types) is
