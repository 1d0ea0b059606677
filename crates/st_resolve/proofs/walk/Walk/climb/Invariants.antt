use Rattle.std.proofs.Common.{◌≡◌, length}
use Rattle.st_model.specs.Walk.{name_after_parents, rest_after_ups}
use Rattle.st_resolve.proofs.walk.Walk.climb.Given as goal

abbrev pub invariant-loop-part : goal.invariant-loop-part
invariant-loop-part l = record {
  name_is : name_after_parents l.self-inside.done l.self-inside.left ≡ name_after_parents l.fn.self.done l.fn.self.left;
  left_is : rest_after_ups l.self-inside.left ≡ rest_after_ups l.fn.self.left;
  links_are : l.self-inside.links ≡ l.fn.self.links;
  follow_is : l.self-inside.follow ≡ l.fn.self.follow;
  fault_is : l.self-inside.fault ≡ l.fn.self.fault;
}

abbrev pub decreases-loop-part : goal.decreases-loop-part
decreases-loop-part l = length l.self-inside.left
