-- The numbers of filters among those of their policy and rule.
use Rattle.std.proofs.Common.{◌≡◌, ◌≤◌, ◌<◌, ◌∙◌, ◌++◌, ℕ, suc, zero, Bool, true, false, cond, List, [], ◌∷◌, ◌+◌, length, map, filter, Some, refl, ap, sym, get_or, take, arith}
use Rattle.std.proofs.lemmas.List.{append-nil, append_assoc}
use Rattle.std.specs.Prelude.{slice_get}
use Rattle.st_calls.specs.declared.rule.Rule.{Rule}
use Rattle.st_law.specs.Sessions.{SessionFilter, is_kept_for, session_filters}
use Rattle.st_learn.specs.Deciding.{count_for}
use Rattle.st_learn.specs.Sessions.{numbers_after}
use Rattle.st_compile.proofs.Indices.{one_longer}

-- each filter has a number
pub numbers_length : (front back : List SessionFilter) → length (numbers_after front back) ≡ length back
numbers_length front [] = refl
numbers_length front (kept ∷ back) = ap suc (numbers_length (front ++ kept ∷ []) back)

-- the number at an index is how many filters for its policy and rule are before it
pub number_found : (front back : List SessionFilter) (p : ℕ) (kept : SessionFilter) → slice_get back p ≡ Some kept → slice_get (numbers_after front back) p ≡ Some (count_for (front ++ take p back) kept)
number_found front [] p kept at = absurd (clash at) where
  clash : slice_get [] p ≡ Some kept → ⊥
  clash e = cc
number_found front (x ∷ back) zero kept at =
    let same : x ≡ kept = cc in
    (λ k. Some (count_for (sym (append-nil front) k) (same k)))
number_found front (x ∷ back) (suc p) kept at =
    number_found (front ++ x ∷ []) back p kept at ∙ ap (λ before. Some (count_for before kept)) (append_assoc front (x ∷ []) (take p back))

-- the number of one more filter is how many there are for its policy and rule
pub number_added : (front back : List SessionFilter) (kept : SessionFilter) → numbers_after front (back ++ kept ∷ []) ≡ numbers_after front back ++ count_for (front ++ back) kept ∷ []
number_added front [] kept = ap (λ before. count_for before kept ∷ []) (sym (append-nil front))
number_added front (x ∷ back) kept =
    ap (λ numbers. count_for front x ∷ numbers) (number_added (front ++ x ∷ []) back kept ∙ ap (λ before. numbers_after (front ++ x ∷ []) back ++ count_for before kept ∷ []) (append_assoc front (x ∷ []) back))

fewer_by : (b : Bool) (kept : SessionFilter) (rest : List SessionFilter) (n : ℕ) → length (map (λ each. each.filter) rest) ≤ n → length (map (λ (each : SessionFilter). each.filter) (cond b (kept ∷ rest) rest)) ≤ suc n
fewer_by true kept rest n few = omega (arith, few)
fewer_by false kept rest n few = omega (arith, few)

-- a policy and a rule have at most as many filters as there are
pub few_filters : (session : List SessionFilter) (policy : List ℕ) (rule : Rule) → length (session_filters session policy rule) ≤ length session
few_filters [] policy rule = omega arith
few_filters (kept ∷ session) policy rule = fewer_by (is_kept_for policy rule kept) kept (filter (is_kept_for policy rule) session) (length session) (few_filters session policy rule)

few_numbers : (front back : List SessionFilter) (p d : ℕ) → p < length back → get_or (numbers_after front back) p d ≤ length front + length back
few_numbers front [] p d inside = absurd (omega arith)
few_numbers front (kept ∷ back) zero d inside = let few = few_filters front kept.policy kept.rule in omega (arith, few)
few_numbers front (kept ∷ back) (suc p) d inside =
    let later = few_numbers (front ++ kept ∷ []) back p d (omega arith) in
    let longer = one_longer front kept in
    omega (arith, later, longer)

-- therefore a number is at most the number of filters
pub number_few : (session : List SessionFilter) (p d : ℕ) → p < length session → get_or (numbers_after [] session) p d ≤ length session
number_few session p d inside = let few = few_numbers [] session p d inside in omega (arith, few)
