use Rattle.st_law.proofs.Reloads as reloads
use Rattle.st_law.proofs.meaning.what_a_reload_needs.Goals as goal

pub returns-clause-process : goal.returns-clause-process
returns-clause-process c = reloads.may

pub returns-clause-under : goal.returns-clause-under
returns-clause-under c = reloads.head_under
