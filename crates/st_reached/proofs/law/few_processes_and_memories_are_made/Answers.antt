use Rattle.st_reached.proofs.Made.{few_processes, few_spaces}
use Rattle.st_reached.proofs.law.few_processes_and_memories_are_made.Goals as goal

pub returns-clause-processes : goal.returns-clause-processes
returns-clause-processes c = few_processes

pub returns-clause-memories : goal.returns-clause-memories
returns-clause-memories c = few_spaces
