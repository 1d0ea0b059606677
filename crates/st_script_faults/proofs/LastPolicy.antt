-- The last policy gets one more filter.
use Rattle.std.proofs.Common.{◌≡◌, ◌∙◌, ℕ, suc, List, [], ◌∷◌, ◌++◌, length, ap}
use Rattle.std.specs.Prelude.{slice_index_or, slice_set}
use Rattle.st_filter.proofs.Counts.{add_filter_at}
use Rattle.st_filter.specs.Formula.{FilterValue}
use Rattle.st_filter.specs.Policies.{add_filter}
use Rattle.st_filter.specs.declared.set.BinaryPolicy.{BinaryPolicy}

-- policies whose last one is replaced by itself with a filter at its end
pub last_changed : (blocks : List BinaryPolicy) (i : ℕ) (p : BinaryPolicy) (filters : List FilterValue) (filter : FilterValue) → length blocks ≡ suc i → p ≡ slice_index_or blocks i p → filters ≡ p.filters ++ filter ∷ [] →
    slice_set blocks i (record { binary = p.binary; filters = filters }) ≡ add_filter blocks filter
last_changed blocks i p filters filter last is more =
    ap (λ (fs : List FilterValue). slice_set blocks i (record { binary = p.binary; filters = fs })) more ∙ add_filter_at blocks i p filter last is
