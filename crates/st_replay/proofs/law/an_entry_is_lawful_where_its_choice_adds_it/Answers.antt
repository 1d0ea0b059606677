use Rattle.st_replay.proofs.Lawful.{entry_law}
use Rattle.st_replay.proofs.law.an_entry_is_lawful_where_its_choice_adds_it.Goals as goal

pub returns : goal.returns
returns c = entry_law
