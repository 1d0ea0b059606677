-- The least number with a property.
use native.Mathlib.Omega.{arith}
use Rattle.std.proofs.Common.{◌≡◌, ◌≤◌, ◌<◌, ◌⊎◌, ℕ, suc, zero, ◌+◌, Bool, true, false, cond, ◌==◌, Option, Some, None, refl, sym, ap, subst, ◌∙◌, inl, inr}
use Rattle.std.proofs.lemmas.Bool.{cases_lt, eqb-true, eqb-false, true≢false}
use Rattle.st_law.specs.Sessions.{least_from}

-- no number from a on and below b has the property
abbrev pub NoneOf : (ℕ → Bool) → ℕ → ℕ → Type 0
NoneOf is a b = (p : ℕ) → a ≤ p → p < b → is p ≡ false

-- a number is the least with the property from a on, and below b
pub record IsLeast (is : ℕ → Bool) (a b q : ℕ) : Type 0 where
  pub holds : is q ≡ true
  pub low : a ≤ q
  pub high : q < b
  pub least : NoneOf is a q

one_more : (is : ℕ → Bool) (a n p : ℕ) (b : Bool) → (p == n) ≡ b → NoneOf is a n → is n ≡ false → a ≤ p → p < suc n → is p ≡ false
one_more is a n p true e none unlike low below = subst (λ m. is m ≡ false) (sym (eqb-true p n e)) unlike
one_more is a n p false e none unlike low below = let differ = eqb-false p n e in none p low (omega (arith, differ, below))

this_or : (P : Option ℕ → Type 0) (n : ℕ) (o : Option ℕ) (b : Bool) → (b ≡ true → P (Some n)) → (b ≡ false → P o) → P (cond b (Some n) o)
this_or P n o true this that = this refl
this_or P n o false this that = that refl

-- a property of the result of the search from n on, if none of the numbers from a to n has the property searched for
least_of : (P : Option ℕ → Type 0) (is : ℕ → Bool) (a n count : ℕ) → a ≤ n → NoneOf is a n → ((q : ℕ) → IsLeast is a (n + count) q → P (Some q)) → (NoneOf is a (n + count) → P None) → P (least_from is n count)
least_of P is a n zero low none found missing = missing (λ p at below. none p at (omega (arith, below)))
least_of P is a n (suc count) low none found missing =
    this_or P n (least_from is (suc n) count) (is n)
    (λ e. found n (record { holds = e; low = low; high = omega arith; least = none }))
    (λ e. least_of P is a (suc n) count (omega (arith, low)) (λ p. one_more is a n p (p == n) refl none e)
    (λ q x. found q (record { holds = x.holds; low = x.low; high = let high = x.high in omega (arith, high); least = x.least }))
    (λ all. missing (λ p at below. all p at (omega (arith, below)))))

-- the search of the numbers from a on
pub least : (P : Option ℕ → Type 0) (is : ℕ → Bool) (a count : ℕ) → ((q : ℕ) → IsLeast is a (a + count) q → P (Some q)) → (NoneOf is a (a + count) → P None) → P (least_from is a count)
least P is a count found missing = least_of P is a a count (omega arith) (λ p at below. absurd (omega (arith, at, below))) found missing

-- the search finds the least number with the property
pub least_is : (is : ℕ → Bool) (a count q : ℕ) → IsLeast is a (a + count) q → least_from is a count ≡ Some q
least_is is a count q x = least (λ o. o ≡ Some q) is a count
    (λ p y. ap Some (same p y (cases_lt p q) (cases_lt q p)))
    (λ none. absurd (true≢false (sym x.holds ∙ none q x.low x.high))) where
      same : (p : ℕ) → IsLeast is a (a + count) p → (p < q) ⊎ (q ≤ p) → (q < p) ⊎ (p ≤ q) → p ≡ q
      same p y (inl below) other = absurd (true≢false (sym y.holds ∙ x.least p y.low below))
      same p y (inr high) (inl below) = absurd (true≢false (sym x.holds ∙ y.least q x.low below))
      same p y (inr high) (inr low) = omega (arith, high, low)
