use Rattle.st_model.proofs.Ordered.{number-moved}
use Rattle.st_tree.proofs.laws.rename_moves_names_below.Goals as goal

pub returns : goal.returns
returns c = λ tree old new name ordered none. number-moved old new tree name ordered none
