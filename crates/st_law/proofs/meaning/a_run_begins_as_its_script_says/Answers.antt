use Rattle.st_law.proofs.FirstRows as rows
use Rattle.st_law.proofs.meaning.a_run_begins_as_its_script_says.Goals as goal

pub returns-clause-threads : goal.returns-clause-threads
returns-clause-threads c = rows.thread_begins

pub returns-clause-no_thread : goal.returns-clause-no_thread
returns-clause-no_thread c = rows.no_thread

pub returns-clause-processes : goal.returns-clause-processes
returns-clause-processes c = rows.process_begins

pub returns-clause-tree : goal.returns-clause-tree
returns-clause-tree c = rows.tree_begins

pub returns-clause-descriptors : goal.returns-clause-descriptors
returns-clause-descriptors c = rows.consoles_begin
