use Rattle.st_law.proofs.Laws.{prefix_lawful}
use Rattle.st_law.proofs.law.every_prefix_is_lawful.Goals as goal

pub returns : goal.returns
returns c = prefix_lawful
