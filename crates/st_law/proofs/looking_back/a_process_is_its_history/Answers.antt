use Rattle.st_law.proofs.ProcessHistory as history
use Rattle.st_law.proofs.looking_back.a_process_is_its_history.Goals as goal

pub returns-clause-traced : goal.returns-clause-traced
returns-clause-traced c = history.traced

pub returns-clause-policy : goal.returns-clause-policy
returns-clause-policy c = history.policy

pub returns-clause-ids : goal.returns-clause-ids
returns-clause-ids c = history.ids

pub returns-clause-directory : goal.returns-clause-directory
returns-clause-directory c = history.directory

pub returns-clause-memory : goal.returns-clause-memory
returns-clause-memory c = history.memory

pub returns-clause-next_process : goal.returns-clause-next_process
returns-clause-next_process c = history.next_process

pub returns-clause-next_memory : goal.returns-clause-next_memory
returns-clause-next_memory c = history.next_memory
