use Rattle.std.proofs.Common.{◌≡◌, take}
use Rattle.st_messages.specs.Circle.{nearest}
use Rattle.st_messages.specs.declared.message.Message.{Message}
use Rattle.st_messages.proofs.live.nearest.Given as goal

abbrev pub invariant-loop-i : goal.invariant-loop-i
invariant-loop-i l = l.nearest ≡ nearest (λ (message : Message). message.seq) 65535 l.last (take l.i l.live.items)
