use Rattle.st_fds.proofs.Shared as shared
use Rattle.st_fds.proofs.laws.open_files_are_shared.Goals as goal

pub returns-clause-duplicates : goal.returns-clause-duplicates
returns-clause-duplicates c = shared.duplicates_share

pub returns-clause-children : goal.returns-clause-children
returns-clause-children c = shared.children_share

pub returns-clause-offsets : goal.returns-clause-offsets
returns-clause-offsets c = shared.offsets_are_shared

pub returns-clause-others : goal.returns-clause-others
returns-clause-others c = shared.others_stay
