-- How many filters of a policy and a rule are before an index of that policy.
use Rattle.std.proofs.Common.{◌≡◌, ◌≤◌, ◌<◌, ◌+◌, ◌∙◌, ◌++◌, ◌&&◌, ℕ, suc, zero, Bool, true, false, cond, List, [], ◌∷◌, length, map, filter, Option, Some, None, refl, ap, sym, subst, take, get_or, arith}
use Rattle.std.proofs.lemmas.List.{append_assoc, append-nil}
use Rattle.std.specs.Prelude.{slice_get}
use Rattle.std.specs.Str.{bytes_eq}
use Rattle.st_calls.specs.declared.rule.Rule.{Rule}
use Rattle.st_filter.specs.Formula.{FilterValue}
use Rattle.st_law.specs.Sessions.{SessionFilter, session_filters}
use Rattle.st_learn.specs.Sessions.{is_filter_for}
use Rattle.st_compile.specs.Places.{places_from}
use Rattle.st_compile.proofs.Indices.{one_longer, there}
use Rattle.st_learn.proofs.Filters.{filters_at, is_of_rule, with_kind}

-- ---- indices are at least the number of the first item

low_by : (b : Bool) (n : ℕ) (ps : List ℕ) (i : ℕ) → i < length (cond b (n ∷ ps) ps) → ((j : ℕ) → j < length ps → suc n ≤ get_or ps j 0) → n ≤ get_or (cond b (n ∷ ps) ps) i 0
low_by true n ps zero inside later = omega arith
low_by true n ps (suc i) inside later = let low = later i (omega (arith, inside)) in omega (arith, low)
low_by false n ps i inside later = let low = later i inside in omega (arith, low)

low_from : {X : Type 0} (is : X → Bool) (n : ℕ) (xs : List X) (i : ℕ) → i < length (places_from is n xs) → n ≤ get_or (places_from is n xs) i 0
low_from is n [] i inside = absurd (omega (arith, inside))
low_from is n (x ∷ xs) i inside = low_by (is x) n (places_from is (suc n) xs) i inside (low_from is (suc n) xs)

-- ---- the filters before an index

-- so many of some items, where the first may be left out
abbrev pub of_first : Bool → SessionFilter → (ℕ → List SessionFilter) → ℕ → List SessionFilter
of_first b kept rest zero = []
of_first b kept rest (suc n) = cond b (kept ∷ rest n) (rest n)

taken_first : (p : SessionFilter → Bool) (kept : SessionFilter) (back : List SessionFilter) (n : ℕ) → of_first (p kept) kept (λ m. filter p (take m back)) n ≡ filter p (take n (kept ∷ back))
taken_first p kept back zero = refl
taken_first p kept back (suc n) = refl

module _ (of is : SessionFilter → Bool) where
  abbrev both : SessionFilter → Bool
  both kept = of kept && is kept

  abbrev filters_of : List SessionFilter → List FilterValue
  filters_of kept = map (λ each. each.filter) kept

  taken_by : (b w : Bool) (kept : SessionFilter) (back session : List SessionFilter) (n : ℕ) (ps : List ℕ) (i q : ℕ) → slice_get session n ≡ Some kept → is kept ≡ w
      → ((j : ℕ) → j < length ps → suc n ≤ get_or ps j 0) → ((j r : ℕ) → j < length ps → get_or ps j 0 ≡ suc n + r → filters_at session is (take j ps) ≡ filters_of (filter both (take r back)))
      → i < length (cond b (n ∷ ps) ps) → get_or (cond b (n ∷ ps) ps) i 0 ≡ n + q → filters_at session is (take i (cond b (n ∷ ps) ps)) ≡ filters_of (of_first (b && w) kept (λ m. filter both (take m back)) q)
  taken_by true w kept back session n ps zero zero at same low later inside place = refl
  taken_by true w kept back session n ps zero (suc r) at same low later inside place = absurd (omega (arith, place))
  taken_by true w kept back session n ps (suc j) zero at same low later inside place = absurd (let less = low j (omega (arith, inside)) in omega (arith, less, place))
  taken_by true true kept back session n ps (suc j) (suc r) at same low later inside place =
      ap (λ o. with_kind is o (filters_at session is (take j ps))) at ∙ (λ k. cond (same k) (kept.filter ∷ filters_at session is (take j ps)) (filters_at session is (take j ps)))
      ∙ ap (λ fs. kept.filter ∷ fs) (later j r (omega (arith, inside)) (omega (arith, place)))
  taken_by true false kept back session n ps (suc j) (suc r) at same low later inside place =
      ap (λ o. with_kind is o (filters_at session is (take j ps))) at ∙ (λ k. cond (same k) (kept.filter ∷ filters_at session is (take j ps)) (filters_at session is (take j ps)))
      ∙ later j r (omega (arith, inside)) (omega (arith, place))
  taken_by false w kept back session n ps i zero at same low later inside place = absurd (let less = low i inside in omega (arith, less, place))
  taken_by false w kept back session n ps i (suc r) at same low later inside place = later i r inside (omega (arith, place))

  taken_after : (front back : List SessionFilter) (i q : ℕ) → i < length (places_from of (length front) back) → get_or (places_from of (length front) back) i 0 ≡ length front + q
      → filters_at (front ++ back) is (take i (places_from of (length front) back)) ≡ filters_of (filter both (take q back))
  taken_after front [] i q inside place = absurd (omega (arith, inside))
  taken_after front (kept ∷ back) i q inside place =
      taken_by (of kept) (is kept) kept back (front ++ kept ∷ back) (length front) (places_from of (suc (length front)) back) i q (there front kept back) refl
      (low_from of (suc (length front)) back)
      (subst (λ n. (j r : ℕ) → j < length (places_from of n back) → get_or (places_from of n back) j 0 ≡ n + r → filters_at (front ++ kept ∷ back) is (take j (places_from of n back)) ≡ filters_of (filter both (take r back))) (one_longer front kept)
      (subst (λ session. (j r : ℕ) → j < length (places_from of (length (front ++ kept ∷ [])) back) → get_or (places_from of (length (front ++ kept ∷ [])) back) j 0 ≡ length (front ++ kept ∷ []) + r → filters_at session is (take j (places_from of (length (front ++ kept ∷ [])) back)) ≡ filters_of (filter both (take r back))) (append_assoc front (kept ∷ []) back)
      (taken_after (front ++ kept ∷ []) back)))
      inside place
      ∙ ap filters_of (taken_first both kept back q)

-- the filters of a rule at a policy's indices before one of them are all the filters before it of that policy and rule
pub filters_before : (session : List SessionFilter) (policy : List ℕ) (rule : Rule) (items : List ℕ) (i : ℕ) → items ≡ places_from (is_filter_for policy) 0 session → i < length items
    → filters_at session (is_of_rule rule) (take i items) ≡ session_filters (take (get_or items i 0) session) policy rule
filters_before session policy rule items i are inside =
    let sum : get_or (places_from (is_filter_for policy) 0 session) i 0 ≡ 0 + get_or (places_from (is_filter_for policy) 0 session) i 0 = omega arith in
    subst (λ ps. filters_at session (is_of_rule rule) (take i ps) ≡ session_filters (take (get_or ps i 0) session) policy rule) (sym are)
    (taken_after (is_filter_for policy) (is_of_rule rule) [] session i (get_or (places_from (is_filter_for policy) 0 session) i 0) (subst (λ ps. i < length ps) are inside) sum)

-- ---- one more index

next_by : (is : SessionFilter → Bool) (session : List SessionFilter) (o : Option SessionFilter) (fs gs : List FilterValue) → with_kind is o (fs ++ gs) ≡ with_kind is o fs ++ gs
next_by is session None fs gs = refl
next_by is session (Some kept) fs gs = one (is kept) where
  one : (b : Bool) → cond b (kept.filter ∷ (fs ++ gs)) (fs ++ gs) ≡ cond b (kept.filter ∷ fs) fs ++ gs
  one true = refl
  one false = refl

-- one more index adds its filter, if it is of the kind
pub filters_next : (session : List SessionFilter) (is : SessionFilter → Bool) (items : List ℕ) (i : ℕ) → i < length items → filters_at session is (take (suc i) items) ≡ filters_at session is (take i items) ++ with_kind is (slice_get session (get_or items i 0)) []
filters_next session is [] i inside = absurd (omega (arith, inside))
filters_next session is (p ∷ ps) zero inside = refl
filters_next session is (p ∷ ps) (suc i) inside =
    ap (with_kind is (slice_get session p)) (filters_next session is ps i (omega (arith, inside)))
    ∙ next_by is session (slice_get session p) (filters_at session is (take i ps)) (with_kind is (slice_get session (get_or ps i 0)) [])

-- an index whose filter isn't of the kind adds no filter
pub filters_without : (session : List SessionFilter) (is : SessionFilter → Bool) (items : List ℕ) (i : ℕ) (kept : SessionFilter) → i < length items → slice_get session (get_or items i 0) ≡ Some kept → is kept ≡ false
    → filters_at session is (take (suc i) items) ≡ filters_at session is (take i items)
filters_without session is items i kept inside at other =
    filters_next session is items i inside
    ∙ (λ k. filters_at session is (take i items) ++ with_kind is (at k) [])
    ∙ (λ k. filters_at session is (take i items) ++ cond (other k) (kept.filter ∷ []) [])
    ∙ append-nil (filters_at session is (take i items))

-- an index whose filter is of the kind adds one filter
pub filters_with : (session : List SessionFilter) (is : SessionFilter → Bool) (items : List ℕ) (i : ℕ) (kept : SessionFilter) → i < length items → slice_get session (get_or items i 0) ≡ Some kept → is kept ≡ true
    → length (filters_at session is (take (suc i) items)) ≡ suc (length (filters_at session is (take i items)))
filters_with session is items i kept inside at other =
    ap length (filters_next session is items i inside
    ∙ (λ k. filters_at session is (take i items) ++ with_kind is (at k) [])
    ∙ (λ k. filters_at session is (take i items) ++ cond (other k) (kept.filter ∷ []) []))
    ∙ longer (filters_at session is (take i items)) where
      longer : (fs : List FilterValue) → length (fs ++ kept.filter ∷ []) ≡ suc (length fs)
      longer [] = refl
      longer (f ∷ fs) = ap suc (longer fs)

-- ---- an index of a policy is that of one of its filters

own_by : (is : SessionFilter → Bool) (b : Bool) (x kept : SessionFilter) (session : List SessionFilter) (n : ℕ) (ps : List ℕ) (i : ℕ) → is x ≡ b → slice_get session n ≡ Some x → ((j : ℕ) → j < length ps → slice_get session (get_or ps j 0) ≡ Some kept → is kept ≡ true)
    → i < length (cond b (n ∷ ps) ps) → slice_get session (get_or (cond b (n ∷ ps) ps) i 0) ≡ Some kept → is kept ≡ true
own_by is true x kept session n ps zero of_x at later inside place = subst (λ each. is each ≡ true) (same (sym at ∙ place)) of_x where
  same : Some x ≡ Some kept → x ≡ kept
  same e = cc
own_by is true x kept session n ps (suc i) of_x at later inside place = later i (omega (arith, inside)) place
own_by is false x kept session n ps i of_x at later inside place = later i inside place

own_after : (is : SessionFilter → Bool) (kept : SessionFilter) (front back : List SessionFilter) (i : ℕ) → i < length (places_from is (length front) back) → slice_get (front ++ back) (get_or (places_from is (length front) back) i 0) ≡ Some kept → is kept ≡ true
own_after is kept front [] i inside place = absurd (omega (arith, inside))
own_after is kept front (x ∷ back) i inside place =
    own_by is (is x) x kept (front ++ x ∷ back) (length front) (places_from is (suc (length front)) back) i refl (there front x back)
    (subst (λ n. (j : ℕ) → j < length (places_from is n back) → slice_get (front ++ x ∷ back) (get_or (places_from is n back) j 0) ≡ Some kept → is kept ≡ true) (one_longer front x)
    (subst (λ session. (j : ℕ) → j < length (places_from is (length (front ++ x ∷ [])) back) → slice_get session (get_or (places_from is (length (front ++ x ∷ [])) back) j 0) ≡ Some kept → is kept ≡ true) (append_assoc front (x ∷ []) back)
    (own_after is kept (front ++ x ∷ []) back)))
    inside place

pub own_policy : (session : List SessionFilter) (policy : List ℕ) (items : List ℕ) (i : ℕ) (kept : SessionFilter) → items ≡ places_from (is_filter_for policy) 0 session → i < length items → slice_get session (get_or items i 0) ≡ Some kept → bytes_eq kept.policy policy ≡ true
own_policy session policy items i kept are inside at =
    own_after (is_filter_for policy) kept [] session i (subst (λ ps. i < length ps) are inside) (subst (λ ps. slice_get session (get_or ps i 0) ≡ Some kept) are at)
