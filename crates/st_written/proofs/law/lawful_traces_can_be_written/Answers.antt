use Rattle.st_written.proofs.LawfulEntries.{lawful_written}
use Rattle.st_written.proofs.law.lawful_traces_can_be_written.Goals as goal

pub returns : goal.returns
returns c = lawful_written
