use Rattle.st_law.proofs.Found as found
use Rattle.st_law.proofs.law.what_a_call_sees.Goals as goal

pub returns-clause-live : goal.returns-clause-live
returns-clause-live c = found.live

pub returns-clause-held : goal.returns-clause-held
returns-clause-held c = found.held
