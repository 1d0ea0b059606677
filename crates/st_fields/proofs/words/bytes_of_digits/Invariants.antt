use Rattle.std.proofs.Common.{◌≡◌, length}
use Rattle.st_fields.specs.Words.{bytes_of_digits}
use Rattle.st_fields.proofs.Loops.{with_front}
use Rattle.st_fields.proofs.words.bytes_of_digits.Given as goal

-- the bytes so far and those of the rest are those of all digits
abbrev pub invariant-loop-rest : goal.invariant-loop-rest
invariant-loop-rest l = with_front l.bytes (bytes_of_digits l.rest) ≡ bytes_of_digits l.digits

abbrev pub decreases-loop-rest : goal.decreases-loop-rest
decreases-loop-rest l = length l.rest
