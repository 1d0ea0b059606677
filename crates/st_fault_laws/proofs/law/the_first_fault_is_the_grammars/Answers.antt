use Rattle.st_fault_laws.proofs.FaultsOnce.{first-once}
use Rattle.st_fault_laws.proofs.FirstFaults.{first-fault}
use Rattle.st_fault_laws.proofs.law.the_first_fault_is_the_grammars.Goals as goal

pub returns-clause-first : goal.returns-clause-first
returns-clause-first c = λ text env old fault few e. first-fault text env old few fault e

pub returns-clause-once : goal.returns-clause-once
returns-clause-once c = λ text env old a b few f g. first-once text env old few a b f g
