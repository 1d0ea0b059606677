use Rattle.st_law.proofs.Bars as bars
use Rattle.st_law.proofs.meaning.a_fast_call_is_never_denied.Goals as goal

pub returns-clause-permitted : goal.returns-clause-permitted
returns-clause-permitted c = bars.fast_by

pub returns-clause-undenied : goal.returns-clause-undenied
returns-clause-undenied c = bars.undenied
