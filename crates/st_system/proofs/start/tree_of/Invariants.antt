use Rattle.std.proofs.Common.{◌≡◌, take}
use Rattle.std.specs.List.{fold}
use Rattle.st_model.specs.Tree.{root_only}
use Rattle.st_law.specs.Processes.{tree_with_row}
use Rattle.st_system.proofs.start.tree_of.Given as goal

abbrev pub invariant-loop-row : goal.invariant-loop-row
invariant-loop-row l = l.tree ≡ fold tree_with_row root_only (take l.row-index l.fn.rows)
