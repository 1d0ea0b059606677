use Rattle.std.proofs.Common.{refl}
use Rattle.st_linux.proofs.ErrorNumbers.{seven_differ, others_agree, numbers_apart}
use Rattle.st_linux.proofs.law.seven_numbers_differ.Goals as goal

pub returns-clause-seven : goal.returns-clause-seven
returns-clause-seven c = seven_differ

pub returns-clause-others : goal.returns-clause-others
returns-clause-others c = others_agree

pub returns-clause-apart : goal.returns-clause-apart
returns-clause-apart c = numbers_apart

pub returns-clause-numbers : goal.returns-clause-numbers
returns-clause-numbers c = refl
