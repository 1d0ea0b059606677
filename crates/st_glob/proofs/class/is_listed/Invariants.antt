use Rattle.std.proofs.Common.{◌≡◌, length}
use Rattle.st_glob.specs.Items.{is_listed}
use Rattle.st_glob.proofs.class.is_listed.Given as goal

abbrev pub invariant-loop-rest : goal.invariant-loop-rest
invariant-loop-rest l = is_listed l.class l.byte ≡ is_listed l.rest l.byte

abbrev pub decreases-loop-rest : goal.decreases-loop-rest
decreases-loop-rest l = length l.rest
