use Rattle.std.proofs.Common.{◌≡◌, ◌+◌, length}
use Rattle.st_glob.specs.Items.{farther_by, to_bracket}
use Rattle.st_glob.proofs.class.to_bracket.Given as goal

abbrev pub invariant-loop-rest : goal.invariant-loop-rest
invariant-loop-rest l = record {
  is : to_bracket l.bytes ≡ farther_by l.count (to_bracket l.rest);
  within : l.count + length l.rest ≡ length l.bytes;
}

abbrev pub decreases-loop-rest : goal.decreases-loop-rest
decreases-loop-rest l = length l.rest
