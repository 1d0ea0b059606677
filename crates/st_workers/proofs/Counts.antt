-- How many things there are of which no two have the same key.
use Rattle.std.proofs.Common.{◌≡◌, ℕ, zero, suc, ◌+◌, ◌≤◌, ◌<◌, true, false, ◌==◌, List, [], ◌∷◌, length, map, Some, None, inl, inr, refl, sym, arith}
use Rattle.std.proofs.lemmas.Bool.{cases_eq, eq-eqb, ne_eqb, true≢false}
use Rattle.std.proofs.lemmas.List.{length-map}
use Rattle.std.proofs.lemmas.Map.Made.{length-le_from_is_member}
use Rattle.std.proofs.lemmas.Option.{none-some}
use Rattle.std.specs.Cmp.{nat_eq_equiv}
use Rattle.std.specs.List.{find, list_any, range_with_len, AllByRecursion, IsDistinct}
use Rattle.std.specs.Prelude.{⊤}

-- each number from one on is among so many
pub among_range : (n from q : ℕ) → from ≤ q → q < from + n → list_any (λ x. q == x) (range_with_len from n) ≡ true
among_range zero from q low high = absurd (omega (arith, low, high))
among_range (suc n) from q low high = elim (cases_eq q from) [
  | inl e ↦ rw (eq-eqb q from e) refl
  | inr ne ↦ rw (ne_eqb q from ne) (among_range n (from + 1) q (omega (arith, low, ne)) (omega (arith, high)))
]

module _ {X : Type 0} (key : X → ℕ) where
  -- no two of these have the same key
  abbrev pub AreApart : List X → Type 0
  AreApart [] = ⊤
  AreApart (x ∷ xs) = (find (λ y. key y == key x) xs ≡ None) × AreApart xs

  others : (x : ℕ) (xs : List X) → find (λ y. key y == x) xs ≡ None → AllByRecursion (λ y. (x == y) ≡ false) (map key xs)
  others x [] none = tt
  others x (y ∷ xs) none = elim (cases_eq (key y) x) [
    | inl e ↦ absurd (none-some y (sym (rw (eq-eqb (key y) x e) at none)))
    | inr ne ↦ (ne_eqb x (key y) (λ e. ne (sym e)), others x xs (rw (ne_eqb (key y) x ne) at none))
  ]

  distinct : (xs : List X) → AreApart xs → IsDistinct (λ a b. a == b) (map key xs)
  unfolding IsDistinct
  distinct [] apart = tt
  distinct (x ∷ xs) apart = (others (key x) xs apart.0, distinct xs apart.1)

  -- a key that is among those of all is found
  found : (q : ℕ) (xs : List X) → list_any (λ x. q == x) (map key xs) ≡ true → (x : X) × (find (λ y. key y == q) xs ≡ Some x)
  found q [] has = absurd (true≢false (sym has))
  found q (x ∷ xs) has = elim (cases_eq (key x) q) [
    | inl e ↦ (x, rw (eq-eqb (key x) q e) refl)
    | inr ne ↦ (let later = found q xs (rw (ne_eqb q (key x) (λ e. ne (sym e))) at has) in (later.0, rw (ne_eqb (key x) q ne) later.1))
  ]

  -- of things that are apart, and whose keys are all among some numbers, there are at most as many as of the numbers
  pub no_more_than : (xs : List X) (ys : List ℕ) → AreApart xs → ((q : ℕ) (x : X) → find (λ y. key y == q) xs ≡ Some x → list_any (λ y. q == y) ys ≡ true) → length xs ≤ length ys
  no_more_than xs ys apart within =
      let less = length-le_from_is_member nat_eq_equiv (map key xs) ys (distinct xs apart) (λ q has. let it = found q xs has in within q it.0 it.1) in
      omega (arith, less, length-map xs key)
