use Rattle.st_law.proofs.Bars as bars
use Rattle.st_law.proofs.meaning.a_bar_is_final.Goals as goal

pub returns-clause-refused : goal.returns-clause-refused
returns-clause-refused c = bars.barred_by

pub returns-clause-unmade : goal.returns-clause-unmade
returns-clause-unmade c = λ i startable t n call regs later earlier. bars.unmade i t n call regs later earlier

pub returns-clause-denied : goal.returns-clause-denied
returns-clause-denied c = λ i startable t n call regs later earlier. bars.denied i t n call regs later earlier
