use Rattle.st_audit.proofs.Growth.{grows, grows_by_number}
use Rattle.st_audit.proofs.audit.longer_runs_extend_the_audit.Goals as goal

pub returns-clause-drawings : goal.returns-clause-drawings
returns-clause-drawings c = grows

pub returns-clause-numbers : goal.returns-clause-numbers
returns-clause-numbers c = grows_by_number
