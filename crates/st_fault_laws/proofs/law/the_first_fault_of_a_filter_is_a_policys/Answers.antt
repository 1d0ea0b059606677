use Rattle.st_fault_laws.proofs.FilterFaults.{first-filter-fault}
use Rattle.st_fault_laws.proofs.FilterFaultsOnce.{filter-once}
use Rattle.st_fault_laws.proofs.FilterReadings.{faultless-filter}
use Rattle.st_fault_laws.proofs.law.the_first_fault_of_a_filter_is_a_policys.Goals as goal

pub returns-clause-first : goal.returns-clause-first
returns-clause-first c = first-filter-fault

pub returns-clause-once : goal.returns-clause-once
returns-clause-once c = λ text env a b f g. filter-once text env a b f g

pub returns-clause-none : goal.returns-clause-none
returns-clause-none c = λ text env filter fault h f. faultless-filter text env filter h fault f
