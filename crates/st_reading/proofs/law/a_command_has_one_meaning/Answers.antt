use Rattle.st_reading.proofs.Meanings.{one_meaning, some_meaning}
use Rattle.st_reading.proofs.law.a_command_has_one_meaning.Goals as goal

pub returns-clause-some : goal.returns-clause-some
returns-clause-some c contents command known = some_meaning contents command known

pub returns-clause-one : goal.returns-clause-one
returns-clause-one c contents command a b known u v p q = one_meaning contents command known a b u v p q
