-- Elements of lists by their indices.
use Rattle.std.proofs.Common.{◌≡◌, ◌⊎◌, ℕ, zero, suc, ◌<◌, ◌≤◌, List, [], ◌∷◌, ◌++◌, map, length, Some, inl, inr, ⊎_elim, refl, sym, ap, arith}
use Rattle.std.proofs.lemmas.List.Elements.{All-map}
use Rattle.std.proofs.lemmas.List.Kept.{AllPairs-cons}
use Rattle.std.proofs.lemmas.Option.{get_or_from_slice_get, none-some, same_Some, slice_get_read, slice_get_within}
use Rattle.std.specs.List.{AllPairs, Contains}
use Rattle.std.specs.Prelude.{slice_get}
use mathlib.Core.Option.{some, some-injective, some-ne-none}
use lib.ListN.{get_elem?}

pub at_front : {X : Type 0} (xs ys : List X) (i : ℕ) (x : X) → slice_get xs i ≡ Some x → slice_get (xs ++ ys) i ≡ Some x
at_front [] ys i x e = absurd (none-some x e)
at_front (y ∷ xs) ys zero x e = e
at_front (y ∷ xs) ys (suc i) x e = at_front xs ys i x e

pub at_seam : {X : Type 0} (xs : List X) (x : X) (ys : List X) → slice_get (xs ++ x ∷ ys) (length xs) ≡ Some x
at_seam [] x ys = refl
at_seam (y ∷ xs) x ys = at_seam xs x ys

-- the element at an index is one of the front, or the last one
pub at_front_or_last : {X : Type 0} (xs : List X) (last x : X) (i : ℕ) → slice_get (xs ++ last ∷ []) i ≡ Some x → (slice_get xs i ≡ Some x) ⊎ ((i ≡ length xs) × (last ≡ x))
at_front_or_last [] last x zero e = inr (refl, same_Some last x e)
at_front_or_last [] last x (suc i) e = absurd (none-some x e)
at_front_or_last (y ∷ xs) last x zero e = inl e
at_front_or_last (y ∷ xs) last x (suc i) e = ⊎_elim (λ front. inl front) (λ h. inr (ap suc h.0, h.1)) (at_front_or_last xs last x i e)

pub contains_at : {X : Type 0} (xs : List X) (i : ℕ) (x : X) → slice_get xs i ≡ Some x → Contains xs x
contains_at xs i x e = (i, slice_get_within xs i x e, get_or_from_slice_get xs i x x e)

pub at_contained : {X : Type 0} (xs : List X) (x : X) → Contains xs x → (i : ℕ) × (slice_get xs i ≡ Some x)
at_contained xs x has = (has.0, slice_get_read xs (length xs) has.0 x refl has.1 (sym has.2))

pub AllPairs-map : {X Y : Type 0} (R : Y → Y → Type 0) (f : X → Y) (xs : List X) → AllPairs (λ a b. R (f a) (f b)) xs → AllPairs R (map f xs)
AllPairs-map R f [] pairs = λ i j d below inside. absurd (omega arith)
AllPairs-map R f (x ∷ xs) pairs =
    AllPairs-cons R (f x) (map f xs) (All-map (R (f x)) f xs (λ k d inside. pairs 0 (suc k) d (omega arith) (omega arith)))
    (AllPairs-map R f xs (λ i j d below inside. pairs (suc i) (suc j) d (omega arith) (omega arith)))

-- ---- by `get_elem?`

pub some_within : {X : Type 0} (xs : List X) (i : ℕ) (x : X) → get_elem? xs i ≡ some x → i < length xs
some_within [] i x e = absurd (some-ne-none x (sym e))
some_within (y ∷ xs) zero x e = omega arith
some_within (y ∷ xs) (suc i) x e = omega (arith, some_within xs i x e)

-- an index is of an element, or past them
pub some_or_past : {X : Type 0} (xs : List X) (i : ℕ) → ((x : X) × (get_elem? xs i ≡ some x)) ⊎ (length xs ≤ i)
some_or_past [] i = inr (omega arith)
some_or_past (x ∷ xs) zero = inl (x, refl)
some_or_past (x ∷ xs) (suc i) = ⊎_elim (λ found. inl found) (λ past. inr (omega (arith, past))) (some_or_past xs i)

-- the element at an index is one of the front, or the last one
pub some_front_or_last : {X : Type 0} (xs : List X) (last x : X) (i : ℕ) → get_elem? (xs ++ last ∷ []) i ≡ some x → (get_elem? xs i ≡ some x) ⊎ ((length xs ≤ i) × (last ≡ x))
some_front_or_last [] last x zero e = inr (omega arith, some-injective last x e)
some_front_or_last [] last x (suc i) e = absurd (some-ne-none x (sym e))
some_front_or_last (y ∷ xs) last x zero e = inl e
some_front_or_last (y ∷ xs) last x (suc i) e = ⊎_elim (λ front. inl front) (λ h. inr (omega (arith, h.0), h.1)) (some_front_or_last xs last x i e)
