use Rattle.std.proofs.Common.{◌≡◌, ◌≤◌, false, length, drop}
use Rattle.st_names.specs.Name.{has_slash}
use Rattle.st_names.proofs.name.last_slash.Given as goal

abbrev pub decreases-loop-at : goal.decreases-loop-at
decreases-loop-at l = l.at

-- no slash is at this offset or after it
abbrev pub invariant-loop-at : goal.invariant-loop-at
invariant-loop-at l = (l.at ≤ length l.text) × (has_slash (drop l.at l.text) ≡ false)
