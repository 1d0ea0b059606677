use Rattle.st_law.proofs.Reloads as reloads
use Rattle.st_law.proofs.looking_back.the_version_is_that_of_the_last_reload.Goals as goal

pub returns : goal.returns
returns c = reloads.version
