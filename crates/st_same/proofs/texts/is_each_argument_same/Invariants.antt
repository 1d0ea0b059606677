use Rattle.std.proofs.Common.{◌≡◌, ◌≤◌, drop, length}
use Rattle.st_same.proofs.texts.is_each_argument_same.Given as goal

-- the lists are the same from here on
abbrev pub invariant-loop-left : goal.invariant-loop-left
invariant-loop-left l = (l.left ≤ length l.one) × (drop l.left l.one ≡ drop l.left l.other)

abbrev pub decreases-loop-left : goal.decreases-loop-left
decreases-loop-left l = l.left
