use Rattle.std.proofs.Common.{◌≡◌, ℕ, List, take}
use Rattle.st_compile.specs.Holding.{asks_for}
use Rattle.st_compile.specs.Places.{places_from, policy_places}
use Rattle.st_compile.proofs.index.index_of.Given as goal

-- the indices by each text are those of the filters so far
abbrev pub invariant-loop-place : goal.invariant-loop-place
invariant-loop-place l = (text : List ℕ) → policy_places l.texts text ≡ places_from (asks_for text) 0 (take l.place l.filters)
