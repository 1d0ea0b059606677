use Rattle.std.proofs.Common.{take}
use Rattle.st_lookaside.specs.Head.{arg_request}
use Rattle.st_lookaside.proofs.Progress.{AreArgs}
use Rattle.st_lookaside.proofs.slot.Slot.snapshot.Given as goal

abbrev pub invariant-loop-part : goal.invariant-loop-part
invariant-loop-part l = AreArgs (arg_request l.self-inside.head) (take l.part-index l.self-inside.parts.items) l.args
