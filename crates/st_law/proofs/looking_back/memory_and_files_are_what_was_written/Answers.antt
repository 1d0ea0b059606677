use Rattle.st_law.proofs.MemoryHistory as history
use Rattle.st_law.proofs.looking_back.memory_and_files_are_what_was_written.Goals as goal

pub returns-clause-byte : goal.returns-clause-byte
returns-clause-byte c = history.byte

pub returns-clause-tree : goal.returns-clause-tree
returns-clause-tree c = history.tree

pub returns-clause-descriptors : goal.returns-clause-descriptors
returns-clause-descriptors c = history.descriptors
