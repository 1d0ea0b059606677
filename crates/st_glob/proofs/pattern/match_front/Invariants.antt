use Rattle.std.proofs.Common.{◌≡◌, ◌≤◌, true, None, length}
use Rattle.st_glob.specs.Items.{to_bracket}
use Rattle.st_glob.proofs.Steps.{IsKept}
use Rattle.st_glob.proofs.pattern.match_front.Given as goal

abbrev pub invariant-loop-items : goal.invariant-loop-items
invariant-loop-items l = record {
  unclosed : l.unclosed ≡ true → to_bracket l.items ≡ None;
  kept : IsKept l.pattern l.text l.items l.left;
  items_within : length l.items ≤ length l.pattern;
  left_within : length l.left ≤ length l.text;
}

abbrev pub decreases-loop-items : goal.decreases-loop-items
decreases-loop-items l = length l.items
