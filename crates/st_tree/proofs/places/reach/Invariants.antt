use Rattle.std.proofs.Common.{◌≡◌, ◌≤◌, length}
use Rattle.st_tree.specs.Reached.{object_or_gap}
use Rattle.st_tree.proofs.places.reach.Given as goal

-- the remaining components lead from here where all components lead from the root
abbrev pub invariant-loop-part : goal.invariant-loop-part
invariant-loop-part l = (1 ≤ l.at) × (l.at ≤ length l.objects) × (object_or_gap l.objects l.at l.part-iterator ≡ object_or_gap l.objects 1 l.fn.parts)
