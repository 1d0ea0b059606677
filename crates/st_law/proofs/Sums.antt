-- Sums over consecutive numbers.
use native.Mathlib.Omega.{arith}
use Rattle.std.proofs.Common.{◌≡◌, ◌≢◌, ◌≤◌, ◌<◌, ℕ, zero, suc, ◌+◌, ◌*◌, Bool, true, false, ◌==◌, refl, sym, ap, subst}
use Rattle.std.proofs.lemmas.Bool.{eqb-true, eqb-false}

-- the sum over `count` numbers from a on
abbrev pub total : (ℕ → ℕ) → ℕ → ℕ → ℕ
total f a zero = 0
total f a (suc count) = f a + total f (suc a) count

pub total_low : (f g : ℕ → ℕ) (a count : ℕ) → ((n : ℕ) → a ≤ n → n < a + count → f n ≤ g n) → total f a count ≤ total g a count
total_low f g a zero low = omega arith
total_low f g a (suc count) low =
    let here = low a (omega arith) (omega arith) in
    let rest = total_low f g (suc a) count (λ n at below. low n (omega (arith, at)) (omega (arith, below))) in
    omega (arith, here, rest)

drop_at : (f g : ℕ → ℕ) (a count p d : ℕ) → ((n : ℕ) → a ≤ n → n < a + suc count → f n ≤ g n) → f p + d ≤ g p → (b : Bool) → (a == p) ≡ b → (a ≢ p → total f (suc a) count + d ≤ total g (suc a) count) → total f a (suc count) + d ≤ total g a (suc count)
drop_at f g a count p d low drop true e rest =
    let here : f a + d ≤ g a = subst (λ n. f n + d ≤ g n) (sym (eqb-true a p e)) drop in
    let later = total_low f g (suc a) count (λ n at below. low n (omega (arith, at)) (omega (arith, below))) in
    omega (arith, here, later)
drop_at f g a count p d low drop false e rest =
    let here = low a (omega arith) (omega arith) in
    let later = rest (eqb-false a p e) in
    omega (arith, here, later)

-- if one item is lower by at least d and no other is higher, the sum is lower by at least d
pub total_drop : (f g : ℕ → ℕ) (a count p d : ℕ) → ((n : ℕ) → a ≤ n → n < a + count → f n ≤ g n) → a ≤ p → p < a + count → f p + d ≤ g p → total f a count + d ≤ total g a count
total_drop f g a zero p d low at below drop = absurd (omega (arith, at, below))
total_drop f g a (suc count) p d low at below drop = drop_at f g a count p d low drop (a == p) refl
    (λ differ. total_drop f g (suc a) count p d (λ n at below. low n (omega (arith, at)) (omega (arith, below))) (omega (arith, at, differ)) (omega (arith, below)) drop)

-- a sum over more numbers
pub total_more : (f : ℕ → ℕ) (a count more : ℕ) → total f a (count + more) ≡ total f a count + total f (a + count) more
total_more f a zero more =
    let same : a ≡ a + 0 = omega arith in
    let none : 0 + more ≡ more = omega arith in
    let d : total f a (0 + more) ≡ total f a more = ap (total f a) none in
    let e : total f a more ≡ total f (a + 0) more = ap (λ n. total f n more) same in
    omega (arith, d, e)
total_more f a (suc count) more =
    let rest = total_more f (suc a) count more in
    let same : suc a + count ≡ a + suc count = omega arith in
    let moved : total f (suc a + count) more ≡ total f (a + suc count) more = ap (λ n. total f n more) same in
    let counted : total f a (suc count + more) ≡ total f a (suc (count + more)) = ap (total f a) (let e : suc count + more ≡ suc (count + more) = omega arith in e) in
    omega (arith, rest, moved, counted)

-- a sum over messages, none of which has more steps left than a new one
pub total_most : (f : ℕ → ℕ) (a count : ℕ) → ((n : ℕ) → f n ≤ 9605) → total f a count ≤ 9605 * count
total_most f a zero most = omega arith
total_most f a (suc count) most = let here = most a in let rest = total_most f (suc a) count most in omega (arith, here, rest)
