use Rattle.st_model.proofs.Objects.{number-put}
use Rattle.st_model.proofs.Ordered.{number-without}
use Rattle.st_tree.proofs.laws.one_name_changes.Goals as goal

pub returns-clause-given : goal.returns-clause-given
returns-clause-given c = λ tree name number other. number-put name number other tree.names

pub returns-clause-taken : goal.returns-clause-taken
returns-clause-taken c = λ tree name other ordered. number-without tree.names name other ordered
