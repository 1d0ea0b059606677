use Rattle.std.proofs.Common.{◌≡◌, ◌<◌, ℕ, Some, false, get_or}
use Rattle.std.specs.Prelude.{slice_get}
use Rattle.st_filter.specs.Formula.{FilterValue}
use Rattle.st_filter.specs.Judging.{holds}
use Rattle.st_compile.proofs.index.first_below.Given as goal

-- none of the filters that were tried holds
abbrev pub invariant-loop-place : goal.invariant-loop-place
invariant-loop-place l = (j : ℕ) (f : FilterValue) → j < l.place-index → slice_get l.filters (get_or l.places j 0) ≡ Some f → holds f l.copies ≡ false
