use Rattle.std.proofs.Common.{◌≡◌, ℕ, take}
use Rattle.st_effects.specs.Changes.{owner_after}
use Rattle.st_audit.specs.Ledger.{owner_in}
use Rattle.st_audit.proofs.process.note_owners.Given as goal

-- the map has been updated by the changes so far
abbrev pub invariant-loop-change : goal.invariant-loop-change
invariant-loop-change l = (t : ℕ) → owner_in l.input l.owners t ≡ owner_after t (owner_in l.input l.initial.owners t) (take l.change-index l.changes)
