use Rattle.std.proofs.Common.{◌≡◌, take}
use Rattle.st_messages.specs.Circle.{nearest}
use Rattle.st_messages.specs.declared.kept.KeptNumber.{KeptNumber}
use Rattle.st_messages.proofs.kept.KeptNumbers.nearest.Given as goal

abbrev pub invariant-loop-number : goal.invariant-loop-number
invariant-loop-number l = l.nearest ≡ nearest (λ (number : KeptNumber). number.seq) 65535 l.last (take l.number-index l.number-items)
