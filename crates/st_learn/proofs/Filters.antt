-- The filters of a policy and a rule, found by their indices.
use Rattle.std.proofs.Common.{◌≡◌, ◌≤◌, ◌<◌, ◌+◌, ◌∙◌, ◌++◌, ◌&&◌, ◌==◌, ℕ, suc, Bool, true, false, cond, List, [], ◌∷◌, length, map, filter, Option, Some, None, refl, ap, sym, subst, get_or, arith}
use Rattle.std.proofs.lemmas.List.{append_assoc}
use Rattle.std.specs.Prelude.{slice_get}
use Rattle.std.specs.Str.{bytes_eq}
use Rattle.st_calls.specs.Rules.{same_rule}
use Rattle.st_calls.specs.declared.rule.Rule.{Rule}
use Rattle.st_filter.specs.Formula.{FilterValue}
use Rattle.st_law.specs.Sessions.{SessionFilter, session_filters}
use Rattle.st_learn.specs.Deciding.{asks_first}
use Rattle.st_learn.specs.Learnt.{filters_added}
use Rattle.st_compile.proofs.Indices.{few_from, inside_from, places_more, there, one_longer}
use Rattle.st_compile.specs.Places.{places_from}
use Rattle.st_learn.specs.Sessions.{is_filter_for, places_asking, places_of}

-- an optional filter of a session before others, if it exists and is of a kind
abbrev pub with_kind : (SessionFilter → Bool) → Option SessionFilter → List FilterValue → List FilterValue
with_kind is None rest = rest
with_kind is (Some kept) rest = cond (is kept) (kept.filter ∷ rest) rest

-- the filters of a kind among those at these indices, in order
abbrev pub filters_at : List SessionFilter → (SessionFilter → Bool) → List ℕ → List FilterValue
filters_at session is [] = []
filters_at session is (p ∷ ps) = with_kind is (slice_get session p) (filters_at session is ps)

-- for a rule, and of whatever rule
abbrev pub is_of_rule : Rule → SessionFilter → Bool
is_of_rule rule kept = same_rule kept.rule rule

abbrev pub is_any : SessionFilter → Bool
is_any kept = true

-- the filters of a list, where the first may be left out
pub mapped : (b : Bool) (x : SessionFilter) (rest : List SessionFilter) → map (λ (each : SessionFilter). each.filter) (cond b (x ∷ rest) rest) ≡ cond b (x.filter ∷ map (λ each. each.filter) rest) (map (λ each. each.filter) rest)
mapped true x rest = refl
mapped false x rest = refl

module _ (policy : List ℕ) (is : SessionFilter → Bool) where
  found_by : (b w : Bool) (kept : SessionFilter) (session : List SessionFilter) (n : ℕ) (ps : List ℕ) (rest : List SessionFilter) → slice_get session n ≡ Some kept → is kept ≡ w → filters_at session is ps ≡ map (λ each. each.filter) rest
      → filters_at session is (cond b (n ∷ ps) ps) ≡ map (λ each. each.filter) (cond (b && w) (kept ∷ rest) rest)
  found_by true true kept session n ps rest at same later =
      ap (λ o. with_kind is o (filters_at session is ps)) at ∙ (λ k. cond (same k) (kept.filter ∷ filters_at session is ps) (filters_at session is ps)) ∙ ap (λ fs. kept.filter ∷ fs) later
  found_by true false kept session n ps rest at same later =
      ap (λ o. with_kind is o (filters_at session is ps)) at ∙ (λ k. cond (same k) (kept.filter ∷ filters_at session is ps) (filters_at session is ps)) ∙ later
  found_by false w kept session n ps rest at same later = later

  found_later : (front back : List SessionFilter) → filters_at (front ++ back) is (places_from (is_filter_for policy) (length front) back) ≡ map (λ each. each.filter) (filter (λ kept. is_filter_for policy kept && is kept) back)
  found_later front [] = refl
  found_later front (kept ∷ back) =
      found_by (is_filter_for policy kept) (is kept) kept (front ++ kept ∷ back) (length front) (places_from (is_filter_for policy) (suc (length front)) back) (filter (λ each. is_filter_for policy each && is each) back) (there front kept back) refl
      (subst (λ n. filters_at (front ++ kept ∷ back) is (places_from (is_filter_for policy) n back) ≡ map (λ each. each.filter) (filter (λ each. is_filter_for policy each && is each) back)) (one_longer front kept)
      (subst (λ session. filters_at session is (places_from (is_filter_for policy) (length (front ++ kept ∷ [])) back) ≡ map (λ each. each.filter) (filter (λ each. is_filter_for policy each && is each) back)) (append_assoc front (kept ∷ []) back)
      (found_later (front ++ kept ∷ []) back)))

-- the filters of a rule at the indices of a policy are those of the policy and the rule
pub filters_found : (session : List SessionFilter) (policy : List ℕ) (rule : Rule) (items : List ℕ) → items ≡ places_of session policy → filters_at session (is_of_rule rule) items ≡ session_filters session policy rule
filters_found session policy rule items are = ap (filters_at session (is_of_rule rule)) are ∙ found_later policy (is_of_rule rule) [] session

any_by : (b : Bool) (kept : SessionFilter) (xs ys : List SessionFilter) → xs ≡ ys → cond (b && true) (kept ∷ xs) xs ≡ cond b (kept ∷ ys) ys
any_by true kept xs ys same = ap (λ rest. kept ∷ rest) same
any_by false kept xs ys same = same

any_of : (policy : List ℕ) (session : List SessionFilter) → filter (λ kept. is_filter_for policy kept && is_any kept) session ≡ filter (is_filter_for policy) session
any_of policy [] = refl
any_of policy (kept ∷ session) = any_by (is_filter_for policy kept) kept (filter (λ each. is_filter_for policy each && is_any each) session) (filter (is_filter_for policy) session) (any_of policy session)

-- all filters at the indices of a policy are those of the policy
pub added_found : (session : List SessionFilter) (policy : List ℕ) (items : List ℕ) → items ≡ places_of session policy → filters_at session is_any items ≡ filters_added session policy
added_found session policy items are = ap (filters_at session is_any) are ∙ found_later policy is_any [] session ∙ ap (map (λ each. each.filter)) (any_of policy session)

-- ---- indices

-- each index of a kind is that of a filter
place_inside : (session : List SessionFilter) (is : SessionFilter → Bool) (i d : ℕ) → i < length (places_from is 0 session) → get_or (places_from is 0 session) i d < length session
place_inside session is i d lt = let inside : get_or (places_from is 0 session) i d < 0 + length session = inside_from is 0 session i d lt in omega (arith, inside)

-- an index that is left is that of a filter
pub item_inside : (session : List SessionFilter) (is : SessionFilter → Bool) (items : List ℕ) (i d : ℕ) → items ≡ places_from is 0 session → i < length items → get_or items i d < length session
item_inside session is items i d are lt =
    subst (λ ps. get_or ps i d < length session) (sym are) (place_inside session is i d (subst (λ ps. i < length ps) are lt))

-- a policy has at most as many indices as there are filters
pub few_items : (session : List SessionFilter) (policy : List ℕ) (items : List ℕ) → items ≡ places_of session policy → length items ≤ length session
few_items session policy items are = subst (λ ps. length ps ≤ length session) (sym are) (few_from (is_filter_for policy) 0 session)

-- ---- one more filter

-- a text that isn't empty isn't the empty one
pub some_text : (text : List ℕ) → (length text == 0) ≡ false → bytes_eq text [] ≡ false
some_text [] e = cc
some_text (b ∷ text) e = refl

-- if no filter asked for no text, and one more filter asks for some text, still none does
pub still_texts : (session : List SessionFilter) (kept : SessionFilter) → asks_first [] kept ≡ false → places_asking session [] ≡ [] → places_asking (session ++ kept ∷ []) [] ≡ []
still_texts session kept asks none = places_more (asks_first []) 0 session kept ∙ (λ k. none k ++ cond (asks k) ((0 + length session) ∷ []) [])
