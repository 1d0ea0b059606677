-- The indices of a kind, in order.
use native.Mathlib.Omega.{arith}
use Rattle.std.proofs.Common.{◌≡◌, ◌≢◌, ◌≤◌, ◌<◌, ◌+◌, ◌∙◌, ℕ, zero, suc, ◌&&◌, Bool, true, false, cond, List, [], ◌∷◌, ◌++◌, length, Option, Some, None, refl, ap, sym, subst}
use Rattle.std.proofs.lemmas.Bool.{ltb-false}
use Rattle.std.proofs.lemmas.List.Folds.{find_at}
use Rattle.std.proofs.lemmas.List.Quantifiers.{position-Some}
use Rattle.std.proofs.lemmas.Option.{none-some, same_Some, slice_get-get_or, slice_get_past}
use Rattle.std.specs.List.{find, position, position_or_len, remove}
use Rattle.std.specs.Option.{option_map}
use Rattle.std.specs.Prelude.{is_some, nat_lt, slice_get}
use Rattle.st_law.specs.Sessions.{least_from}
use Rattle.st_learn.specs.Operator.{places_among}

-- ---- the indices of a kind

module _ (is : ℕ → Bool) where
  -- each of them is of the kind, and none is less than the first that was tried
  among_by : (b : Bool) (n index place : ℕ) (rest : List ℕ) → is n ≡ b → ((j : ℕ) → slice_get rest j ≡ Some place → (suc n ≤ place) × (is place ≡ true))
      → slice_get (cond b (n ∷ rest) rest) index ≡ Some place → (n ≤ place) × (is place ≡ true)
  among_by true n zero place rest e later there =
      let same : n ≡ place = same_Some n place there in
      (omega (arith, same), subst (λ m. is m ≡ true) same e)
  among_by true n (suc index) place rest e later there = (omega (arith, (later index there).0), (later index there).1)
  among_by false n index place rest e later there = (omega (arith, (later index there).0), (later index there).1)

  pub among_is : (n count index place : ℕ) → slice_get (places_among is n count) index ≡ Some place → (n ≤ place) × (is place ≡ true)
  among_is n zero index place there = absurd (none-some place (sym (slice_get_past [] index (omega arith)) ∙ there))
  among_is n (suc count) index place there = among_by (is n) n index place (places_among is (suc n) count) refl (λ j. among_is (suc n) count j place) there

  more_by : (first last : Bool) (n m : ℕ) (places : List ℕ)
      → cond first (n ∷ cond last (places ++ m ∷ []) places) (cond last (places ++ m ∷ []) places) ≡ cond last (cond first (n ∷ places) places ++ m ∷ []) (cond first (n ∷ places) places)
  more_by true true n m places = refl
  more_by true false n m places = refl
  more_by false true n m places = refl
  more_by false false n m places = refl

  -- with one more index that is tried
  pub among_more : (n count : ℕ) → places_among is n (suc count) ≡ cond (is (n + count)) (places_among is n count ++ (n + count) ∷ []) (places_among is n count)
  among_more n zero = let same : n ≡ n + 0 = omega arith in (λ k. cond (is (same k)) (same k ∷ []) [])
  among_more n (suc count) =
      let next : suc n + count ≡ n + suc count = omega arith in
      (λ k. cond (is n) (n ∷ among_more (suc n) count k) (among_more (suc n) count k))
      ∙ more_by (is n) (is (suc n + count)) n (suc n + count) (places_among is (suc n) count)
      ∙ (λ k. cond (is (next k)) (places_among is n (suc count) ++ next k ∷ []) (places_among is n (suc count)))

-- a kind, and another that is the same except for this index
module _ (is but : ℕ → Bool) (place : ℕ) (here : but place ≡ false) (others : (n : ℕ) → n ≢ place → but n ≡ is n) where
  past : (n count : ℕ) → place < n → places_among is n count ≡ places_among but n count
  past n zero above = refl
  past n (suc count) above =
      let later = past (suc n) count (omega (arith, above)) in
      let same = sym (others n (λ e. absurd (omega (arith, above, e)))) in
      (λ k. cond (same k) (n ∷ later k) (later k))

  without_by : (b : Bool) (n index : ℕ) (rest more : List ℕ) → is n ≡ b → ((j : ℕ) → slice_get rest j ≡ Some place → suc n ≤ place) → (place < suc n → rest ≡ more) → ((j : ℕ) → slice_get rest j ≡ Some place → remove rest j ≡ more)
      → slice_get (cond b (n ∷ rest) rest) index ≡ Some place → remove (cond b (n ∷ rest) rest) index ≡ cond (but n) (n ∷ more) more
  without_by true n zero rest more e above after later there =
      let same : n ≡ place = same_Some n place there in
      after (omega (arith, same)) ∙ sym (ap (λ b. cond b (n ∷ more) more) (ap but same ∙ here))
  without_by true n (suc index) rest more e above after later there =
      let low = above index there in
      ap (λ places. n ∷ places) (later index there) ∙ sym (ap (λ b. cond b (n ∷ more) more) (others n (λ same. absurd (omega (arith, low, same))) ∙ e))
  without_by false n index rest more e above after later there =
      let low = above index there in
      later index there ∙ sym (ap (λ b. cond b (n ∷ more) more) (others n (λ same. absurd (omega (arith, low, same))) ∙ e))

  -- the indices of the other kind are those of the first kind without this one
  pub among_without : (n count index : ℕ) → slice_get (places_among is n count) index ≡ Some place → remove (places_among is n count) index ≡ places_among but n count
  among_without n zero index there = absurd (none-some place (sym (slice_get_past [] index (omega arith)) ∙ there))
  among_without n (suc count) index there =
      without_by (is n) n index (places_among is (suc n) count) (places_among but (suc n) count) refl
      (λ j at. (among_is is (suc n) count j place at).0) (past (suc n) count) (among_without (suc n) count) there

-- the least number of two kinds is that of the first index of the one kind that is also of the other kind
module _ (kind of for : ℕ → Bool) (both : (n : ℕ) → kind (suc n) ≡ (of n && for n)) where
  mapped : (b : Bool) (n : ℕ) (rest : Option ℕ) → cond b (Some (suc n)) (option_map suc rest) ≡ option_map suc (cond b (Some n) rest)
  mapped true n rest = refl
  mapped false n rest = refl

  found_by : (b : Bool) (n : ℕ) (rest : List ℕ) → cond (b && for n) (Some (suc n)) (option_map suc (find for rest)) ≡ option_map suc (find for (cond b (n ∷ rest) rest))
  found_by true n rest = mapped (for n) n (find for rest)
  found_by false n rest = refl

  pub least_found : (n count : ℕ) → least_from kind (suc n) count ≡ option_map suc (find for (places_among of n count))
  least_found n zero = refl
  least_found n (suc count) = (λ k. cond (both n k) (Some (suc n)) (least_found (suc n) count k)) ∙ found_by (of n) n (places_among of (suc n) count)

-- ---- the item at an index that was found

-- the item at an index, if there is one
abbrev pub item_at : {X : Type 0} → List X → Option ℕ → Option X
item_at xs None = None
item_at xs (Some index) = slice_get xs index

pub found_at : {X : Type 0} (p : X → Bool) (xs : List X) → find p xs ≡ item_at xs (position p xs)
found_at p xs = by (nat_lt (position_or_len p xs) (length xs)) refl where
  by : (b : Bool) → nat_lt (position_or_len p xs) (length xs) ≡ b → find p xs ≡ item_at xs (cond b (Some (position_or_len p xs)) None)
  by true e = find_at p xs
  by false e = find_at p xs ∙ slice_get_past xs (position_or_len p xs) (ltb-false (position_or_len p xs) (length xs) e)

-- there is an item iff an index was found
pub there_at : (p : ℕ → Bool) (xs : List ℕ) → is_some (item_at xs (position p xs)) ≡ is_some (position p xs)
there_at p xs = by (position p xs) refl where
  by : (o : Option ℕ) → position p xs ≡ o → is_some (item_at xs o) ≡ is_some o
  by None e = refl
  by (Some index) e = ap is_some (slice_get-get_or xs index 0 (position-Some p xs index 0 e).0)
