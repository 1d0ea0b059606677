-- The search of a circle of numbers finds one that isn't taken, if fewer are taken than there are.
use native.Mathlib.Omega.{arith}
use Rattle.std.proofs.Common.{◌≡◌, ◌≢◌, ◌⊎◌, ◌↔◌, ◌≤◌, ◌<◌, ℕ, zero, suc, ◌+◌, ◌-◌, Bool, true, false, cond, not, ◌&&◌, ◌==◌, List, [], ◌∷◌, ◌++◌, length, map, Option, Some, None, is_some, Contains, refl, sym, ap, subst, ◌∙◌, inl, inr}
use Rattle.std.specs.List.{range_with_len}
use Rattle.std.specs.Prelude.{find, unwrap_or}
use Rattle.std.proofs.lemmas.Bool.{and_from, and_parts, cases_lt, cond_both, eq-eqb, eqb-true, eqb-false, not-true, not-false, false_from_ne_true, true_from_ne_false, true≢false}
use Rattle.st_law.specs.Numbers.{Numbers, circle_after, is_taken, next_number, number_drawn}
use Rattle.st_law.proofs.Least.{least}

-- ---- numbers among a list

-- a number is among these
abbrev pub Among : ℕ → List ℕ → Type 0
Among n [] = ⊥
Among n (x ∷ xs) = (x ≡ n) ⊎ Among n xs

pub contains : (n : ℕ) (xs : List ℕ) → Among n xs → Contains xs n
contains n [] x = absurd x
contains n (m ∷ xs) (inl same) = (0, omega arith, same)
contains n (m ∷ xs) (inr x) = let later = contains n xs x in let below = later.1 in (suc later.0, omega (arith, below), later.2)

pub among_left : (n : ℕ) (xs ys : List ℕ) → Among n xs → Among n (xs ++ ys)
among_left n [] ys x = absurd x
among_left n (m ∷ xs) ys (inl same) = inl same
among_left n (m ∷ xs) ys (inr x) = inr (among_left n xs ys x)

pub among_right : (n : ℕ) (xs ys : List ℕ) → Among n ys → Among n (xs ++ ys)
among_right n [] ys x = x
among_right n (m ∷ xs) ys x = inr (among_right n xs ys x)

pub among_map : (f : ℕ → ℕ) (n : ℕ) (xs : List ℕ) → Among n xs → Among (f n) (map f xs)
among_map f n [] x = absurd x
among_map f n (m ∷ xs) (inl same) = inl (ap f same)
among_map f n (m ∷ xs) (inr x) = inr (among_map f n xs x)

among_cases : (n : ℕ) (xs ys : List ℕ) → Among n (xs ++ ys) → Among n xs ⊎ Among n ys
among_cases n [] ys x = inr x
among_cases n (m ∷ xs) ys (inl same) = inl (inl same)
among_cases n (m ∷ xs) ys (inr x) = by (among_cases n xs ys x) where
  by : Among n xs ⊎ Among n ys → ((m ≡ n) ⊎ Among n xs) ⊎ Among n ys
  by (inl y) = inl (inr y)
  by (inr y) = inr y

pub among_range : (n a count : ℕ) → a ≤ n → n < a + count → Among n (range_with_len a count)
among_range n a zero low high = absurd (omega (arith, low, high))
among_range n a (suc count) low high = by (a == n) refl (λ differ. among_range n (a + 1) count (omega (arith, low, differ)) (omega (arith, high))) where
  by : (b : Bool) → (a == n) ≡ b → (a ≢ n → Among n (range_with_len (a + 1) count)) → (a ≡ n) ⊎ Among n (range_with_len (a + 1) count)
  by true e later = inl (eqb-true a n e)
  by false e later = inr (later (eqb-false a n e))

range_bounds : (n a count : ℕ) → Among n (range_with_len a count) → (a ≤ n) × (n < a + count)
range_bounds n a zero x = absurd x
range_bounds n a (suc count) (inl same) = (omega (arith, same), omega (arith, same))
range_bounds n a (suc count) (inr x) = let later = range_bounds n (a + 1) count x in let low = later.0 in let high = later.1 in (omega (arith, low), omega (arith, high))

pub length_mapped : (f : ℕ → ℕ) (xs : List ℕ) → length (map f xs) ≡ length xs
length_mapped f [] = refl
length_mapped f (x ∷ xs) = ap suc (length_mapped f xs)

-- these without a number
without : ℕ → List ℕ → List ℕ
without n [] = []
without n (x ∷ xs) = cond (x == n) (without n xs) (x ∷ without n xs)

module _ (n : ℕ) where
  -- one more number, by whether it is taken out
  shorter_by : (x : ℕ) (xs : List ℕ) (b : Bool) → length (without n xs) ≤ length xs → length (cond b (without n xs) (x ∷ without n xs)) ≤ suc (length xs)
  shorter_by x xs true less = omega (arith, less)
  shorter_by x xs false less = omega (arith, less)

  shorter_or_same : (xs : List ℕ) → length (without n xs) ≤ length xs
  unfolding without
  shorter_or_same [] = omega arith
  shorter_or_same (x ∷ xs) = shorter_by x xs (x == n) (shorter_or_same xs)

  shorter_if : (x : ℕ) (xs : List ℕ) (b : Bool) → (x == n) ≡ b → (Among n xs → length (without n xs) < length xs) → (x ≡ n) ⊎ Among n xs → length (cond b (without n xs) (x ∷ without n xs)) < suc (length xs)
  shorter_if x xs true e later y = let less = shorter_or_same xs in omega (arith, less)
  shorter_if x xs false e later (inl same) = absurd (eqb-false x n e same)
  shorter_if x xs false e later (inr y) = let less = later y in omega (arith, less)

  shorter : (xs : List ℕ) → Among n xs → length (without n xs) < length xs
  unfolding without
  shorter [] among = absurd among
  shorter (x ∷ xs) among = shorter_if x xs (x == n) refl (shorter xs) among

  among_if : (m x : ℕ) (xs : List ℕ) (b : Bool) → (x == n) ≡ b → m ≢ n → (Among m xs → Among m (without n xs)) → (x ≡ m) ⊎ Among m xs → Among m (cond b (without n xs) (x ∷ without n xs))
  among_if m x xs true e other later (inl same) = absurd (other (sym same ∙ eqb-true x n e))
  among_if m x xs true e other later (inr y) = later y
  among_if m x xs false e other later (inl same) = inl same
  among_if m x xs false e other later (inr y) = inr (later y)

  still_among : (m : ℕ) → m ≢ n → (xs : List ℕ) → Among m xs → Among m (without n xs)
  unfolding without
  still_among m other [] among = absurd among
  still_among m other (x ∷ xs) among = among_if m x xs (x == n) refl other (still_among m other xs) among

-- a list that has all numbers from 1 to a number isn't shorter than that
all_among : (count : ℕ) (xs : List ℕ) → ((n : ℕ) → 1 ≤ n → n ≤ count → Among n xs) → count ≤ length xs
all_among zero xs all = omega arith
all_among (suc count) xs all =
    let rest = all_among count (without (suc count) xs) (λ n low high. still_among (suc count) n (λ same. omega (arith, same, high)) xs (all n low (omega (arith, high)))) in
    let less = shorter (suc count) xs (all (suc count) (omega arith) (omega arith)) in
    omega (arith, rest, less)

-- ---- the search

module _ (P : Option ℕ → Type 0) (test : ℕ → Bool) where
  none_here : (m n : ℕ) (xs : List ℕ) → test m ≡ false → ((p : ℕ) → Among p xs → test p ≡ false) → (m ≡ n) ⊎ Among n xs → test n ≡ false
  none_here m n xs e all (inl same) = subst (λ p. test p ≡ false) same e
  none_here m n xs e all (inr x) = all n x

  -- a property of what is found among some numbers
  found_among : (xs : List ℕ) → ((n : ℕ) → Among n xs → test n ≡ true → P (Some n)) → (((n : ℕ) → Among n xs → test n ≡ false) → P None) → P (find test xs)
  found_among [] found missing = missing (λ n x. absurd x)
  found_among (m ∷ xs) found missing = cond_both (test m) (Some m) (find test xs) P (λ e. found m (inl refl) e)
      (λ e. found_among xs (λ n x f. found n (inr x) f) (λ all. missing (λ n x. none_here m n xs e all x)))

module _ (circle last : ℕ) (high : last ≤ circle) (n : ℕ) where
  circle_bounds : Among n (circle_after circle last) → (1 ≤ n) × (n ≤ circle)
  circle_bounds x = by (among_cases n (range_with_len (suc last) (circle - last)) (range_with_len 1 last) x) where
    by : Among n (range_with_len (suc last) (circle - last)) ⊎ Among n (range_with_len 1 last) → (1 ≤ n) × (n ≤ circle)
    by (inl y) = let z = range_bounds n (suc last) (circle - last) y in let low = z.0 in let below = z.1 in (omega (arith, low), omega (arith, below, high))
    by (inr y) = let z = range_bounds n 1 last y in let low = z.0 in let below = z.1 in (low, omega (arith, below, high))

  in_circle : 1 ≤ n → n ≤ circle → Among n (circle_after circle last)
  in_circle low most = by (cases_lt last n) where
    by : (last < n) ⊎ (n ≤ last) → Among n (circle_after circle last)
    by (inl above) = among_left n (range_with_len (suc last) (circle - last)) (range_with_len 1 last) (among_range n (suc last) (circle - last) (omega (arith, above)) (omega (arith, most, high)))
    by (inr below) = among_right n (range_with_len (suc last) (circle - last)) (range_with_len 1 last) (among_range n 1 last low (omega (arith, below)))

-- a property of the number that the search of the circle finds
searched : (P : ℕ → Type 0) (circle : ℕ) (taken : ℕ → Bool) (last : ℕ) → last ≤ circle → ((n : ℕ) → 1 ≤ n → n ≤ circle → taken n ≡ false → P n)
    → (((n : ℕ) → 1 ≤ n → n ≤ circle → taken n ≡ true) → P 0) → P (next_number circle taken last)
searched P circle taken last high found missing = found_among (λ o. P (unwrap_or o 0)) (λ n. not (taken n)) (circle_after circle last)
    (λ n x free. let bounds = circle_bounds circle last high n x in found n bounds.0 bounds.1 (not-true (taken n) free))
    (λ all. missing (λ n low most. not-false (taken n) (all n (in_circle circle last high n low most))))

-- a number of the circle that no drawing in use has
pub record IsFree (circle : ℕ) (numbers : Numbers) (n : ℕ) : Type 0 where
  pub low : 1 ≤ n
  pub high : n ≤ circle
  pub free : is_taken numbers n ≡ false

module _ (numbers : Numbers) where
  -- a number that is taken is that of a drawing in use
  pub taker : (n : ℕ) → is_taken numbers n ≡ true → (q : ℕ) × (numbers.in_use q ≡ true) × (numbers.number_of q ≡ n)
  taker n = least (λ o. is_some o ≡ true → (q : ℕ) × (numbers.in_use q ≡ true) × (numbers.number_of q ≡ n)) (λ q. numbers.in_use q && numbers.number_of q == n) 1 numbers.last
      (λ q x some. let parts = and_parts (numbers.in_use q) (numbers.number_of q == n) x.holds in (q, parts.0, eqb-true (numbers.number_of q) n parts.1))
      (λ none some. absurd (true≢false (sym some)))

  -- a drawing in use has another number than one that isn't taken
  pub untaken : (n : ℕ) → is_taken numbers n ≡ false → (q : ℕ) → 1 ≤ q → q ≤ numbers.last → numbers.in_use q ≡ true → numbers.number_of q ≢ n
  untaken n = least (λ o. is_some o ≡ false → (q : ℕ) → 1 ≤ q → q ≤ numbers.last → numbers.in_use q ≡ true → numbers.number_of q ≢ n) (λ q. numbers.in_use q && numbers.number_of q == n) 1 numbers.last
      (λ p x some. absurd (true≢false some))
      (λ none some q low high used same. true≢false (sym (and_from (numbers.in_use q) (numbers.number_of q == n) used (eq-eqb (numbers.number_of q) n same)) ∙ none q low (omega (arith, high))))

  -- the number that is drawn next is the next one after the last that no drawing in use has
  pub drawn_is : (circle : ℕ) (taken : ℕ → Bool) → ((q : ℕ) → numbers.in_use q ≡ true → (1 ≤ q) × (q ≤ numbers.last))
      → ((n : ℕ) → (taken n ≡ true) ↔ ((q : ℕ) × (numbers.in_use q ≡ true) × (numbers.number_of q ≡ n))) → number_drawn circle numbers ≡ next_number circle taken (numbers.number_of numbers.last)
  drawn_is circle taken made same = λ k. next_number circle (λ n. is_same n (taken n) refl k) (numbers.number_of numbers.last) where
    free : (n : ℕ) → taken n ≡ false → is_taken numbers n ≡ true → ⊥
    free n e some = true≢false (sym ((same n).1 (taker n some)) ∙ e)

    is_same : (n : ℕ) (b : Bool) → taken n ≡ b → is_taken numbers n ≡ taken n
    is_same n true e = true_from_ne_false (is_taken numbers n) (λ none. let x = (same n).0 e in untaken n none x.0 (made x.0 x.1).0 (made x.0 x.1).1 x.1 x.2) ∙ sym e
    is_same n false e = false_from_ne_true (is_taken numbers n) (free n e) ∙ sym e

  -- each drawing in use is among these, of which there are at most so many
  pub record Covers (most : ℕ) (drawings : List ℕ) : Type 0 where
    pub covers : (q : ℕ) → numbers.in_use q ≡ true → Among q drawings
    pub few : length drawings ≤ most

  -- the number that is drawn next isn't taken, if fewer drawings are in use than the circle has numbers
  pub drawn_free : (circle most : ℕ) → most < circle → (drawings : List ℕ) → Covers most drawings → numbers.number_of numbers.last ≤ circle → IsFree circle numbers (number_drawn circle numbers)
  drawn_free circle most room drawings x high = searched (IsFree circle numbers) circle (is_taken numbers) (numbers.number_of numbers.last) high
      (λ n low below free. record { low = low; high = below; free = free })
      (λ all.
      let count = all_among circle (map numbers.number_of drawings) (λ n low below. by n (taker n (all n low below))) in
      let same = length_mapped numbers.number_of drawings in
      let few = x.few in
      absurd (omega (arith, count, same, few, room)))
    where
      by : (n : ℕ) → (q : ℕ) × (numbers.in_use q ≡ true) × (numbers.number_of q ≡ n) → Among n (map numbers.number_of drawings)
      by n y = subst (λ m. Among m (map numbers.number_of drawings)) y.2 (among_map numbers.number_of y.0 drawings (x.covers y.0 y.1))
