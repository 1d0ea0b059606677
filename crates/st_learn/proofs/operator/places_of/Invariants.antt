use Rattle.std.proofs.Common.{false}
use Rattle.st_learn.specs.Operator.{AreRepliesLeft}
use Rattle.st_learn.proofs.operator.places_of.Given as goal

-- the indices of the replies so far are in the rows of their policies
abbrev pub invariant-loop-place : goal.invariant-loop-place
invariant-loop-place l = AreRepliesLeft l.replies (λ number. false) l.place l.places
