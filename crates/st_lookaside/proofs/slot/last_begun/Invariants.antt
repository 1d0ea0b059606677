use Rattle.std.proofs.Common.{◌≤◌, length}
use Rattle.st_lookaside.specs.Slot.{AreNotBegun}
use Rattle.st_lookaside.proofs.slot.last_begun.Given as goal

abbrev pub invariant-loop-at : goal.invariant-loop-at
invariant-loop-at l = record { within : l.at ≤ length l.parts; following : AreNotBegun l.parts l.at }

abbrev pub decreases-loop-at : goal.decreases-loop-at
decreases-loop-at l = l.at
