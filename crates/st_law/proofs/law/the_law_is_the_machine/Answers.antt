use Rattle.st_law.proofs.Recorded as recorded
use Rattle.st_law.proofs.law.the_law_is_the_machine.Goals as goal

pub returns-clause-both : goal.returns-clause-both
returns-clause-both c = recorded.law_of_trace

pub returns-clause-runs : goal.returns-clause-runs
returns-clause-runs c = recorded.lawful_is_run

pub returns-clause-enabled : goal.returns-clause-enabled
returns-clause-enabled c = recorded.recorded_at_its_turn

pub returns-clause-one : goal.returns-clause-one
returns-clause-one c = recorded.law_of_entry
