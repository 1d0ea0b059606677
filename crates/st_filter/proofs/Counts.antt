-- How many filters some policies have, and the last of them.
use Rattle.std.proofs.Common.{◌≡◌, ℕ, suc, zero, ◌+◌, ◌≤◌, Bool, true, false, if◌then◌else◌, List, [], ◌∷◌, ◌++◌, length, refl, ap, sym, ◌∙◌, arith}
use Rattle.std.proofs.lemmas.List.{length-append}
use Rattle.std.specs.Prelude.{slice_set, slice_index_or}
use Rattle.std.specs.Str.{bytes_eq}
use Rattle.std.proofs.lemmas.List.Sums.{sum_by-append}
use Rattle.st_filter.specs.Policies.{policy_of, filters_in, with_filter, add_filter, is_some_policy}
use Rattle.st_filter.specs.declared.set.BinaryPolicy.{BinaryPolicy}
use Rattle.st_filter.specs.Formula.{FilterValue}

pub filters_in_last : (ps : List BinaryPolicy) (p : BinaryPolicy) → filters_in (ps ++ p ∷ []) ≡ filters_in ps + length p.filters
filters_in_last ps p =
    let h : filters_in (ps ++ p ∷ []) ≡ filters_in ps + (0 + length p.filters) = sum_by-append (λ p. length p.filters) ps (p ∷ []) in
    omega (arith, h)

pub filters_in_first : (p : BinaryPolicy) (ps : List BinaryPolicy) → filters_in (p ∷ ps) ≡ length p.filters + filters_in ps
filters_in_first p ps =
    let h : filters_in (p ∷ ps) ≡ 0 + length p.filters + filters_in ps = sum_by-append (λ p. length p.filters) (p ∷ []) ps in
    let k : 0 + length p.filters + filters_in ps ≡ length p.filters + filters_in ps = omega arith in
    h ∙ k

pub add_filter_at : (ps : List BinaryPolicy) (i : ℕ) (p : BinaryPolicy) (f : FilterValue) →
    length ps ≡ suc i → p ≡ slice_index_or ps i p → slice_set ps i (with_filter p f) ≡ add_filter ps f
add_filter_at [] i p f e h = absurd (omega arith)
add_filter_at (q ∷ []) zero p f e h = ap (λ r. with_filter r f ∷ []) h
add_filter_at (q ∷ []) (suc i) p f e h = absurd (omega arith)
add_filter_at (q ∷ r ∷ ps) zero p f e h = absurd (omega arith)
add_filter_at (q ∷ r ∷ ps) (suc i) p f e h = ap (λ rest. q ∷ rest) (add_filter_at (r ∷ ps) i p f (omega arith) h)

-- a filter that is appended is counted
pub counted_added : (ps : List BinaryPolicy) (f : FilterValue) → is_some_policy ps ≡ true → filters_in (add_filter ps f) ≡ filters_in ps + 1
counted_added [] f h = absurd (cc)
counted_added (p ∷ []) f h = omega (arith, length-append p.filters (f ∷ []))
counted_added (p ∷ q ∷ ps) f h =
    let e : filters_in (add_filter (q ∷ ps) f) ≡ filters_in (q ∷ ps) + 1 = counted_added (q ∷ ps) f refl in
    let k : length p.filters + (filters_in (q ∷ ps) + 1) ≡ length p.filters + filters_in (q ∷ ps) + 1 = omega arith in
    filters_in_first p (add_filter (q ∷ ps) f) ∙ ap (λ n. length p.filters + n) e ∙ k ∙ ap (λ n. n + 1) (sym (filters_in_first p (q ∷ ps)))

-- one policy has at most as many filters as all have
pub policy_within : (ps : List BinaryPolicy) (binary : List ℕ) → length (policy_of ps binary) ≤ filters_in ps
policy_within [] binary = omega arith
policy_within (p ∷ ps) binary =
    if_within (bytes_eq p.binary binary) p.filters (policy_of ps binary) (filters_in (p ∷ ps)) (omega (arith, filters_in_first p ps)) (omega (arith, filters_in_first p ps, policy_within ps binary))
  where
    if_within : (b : Bool) (fs gs : List FilterValue) (n : ℕ) → length fs ≤ n → length gs ≤ n → length (if b then fs else gs) ≤ n
    if_within true fs gs n f g = f
    if_within false fs gs n f g = g
