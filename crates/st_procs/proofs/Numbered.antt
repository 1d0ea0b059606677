-- The item of a number, in a list that is mapped, changed or appended to.
use Rattle.std.proofs.Common.{◌≡◌, ◌≢◌, zero, suc, ℕ, ◌-◌, ◌<◌, ◌≤◌, ◌==◌, cond, List, [], ◌∷◌, ◌++◌, inl, inr, length, get_or, set, map, refl, ap, sym, ◌∙◌, arith}
use Rattle.std.proofs.Math.ListN.{get_or-eq_default}
use Rattle.std.proofs.lemmas.Bool.{cases_eq, cases_lt, eq-eqb, ne_eqb}
use Rattle.std.proofs.lemmas.List.{get_or-map, get_or-set_same, get_or-set_other, get_or_append_left, get_or_push, length-append, map-set}
use Rattle.st_base.specs.Numbered.{item_at_number_or, with_item_at_number}

module _ {X Y : Type 0} (f : X → Y) (xs : List X) where
  -- the item of a number in a mapped list
  pub at_number-map : (d : Y) (e : X) (n : ℕ) → 0 < n → n ≤ length xs → f (get_or xs (n - 1) e) ≡ item_at_number_or d (map f xs) n
  at_number-map d e zero from to = absurd (omega (arith, from))
  at_number-map d e (suc k) from to = let before : suc k - 1 ≡ k = omega arith in rw before (sym (get_or-map f xs k e d (omega (arith, to))))

  pub put_number-map : (x : X) (n : ℕ) → 0 < n → map f (set xs (n - 1) x) ≡ with_item_at_number (map f xs) n (f x)
  put_number-map x zero from = absurd (omega (arith, from))
  put_number-map x (suc k) from = let before : suc k - 1 ≡ k = omega arith in rw before (map-set f xs k x)

module _ {X : Type 0} (d : X) (xs : List X) (x : X) where
  -- the item of a number after one is put
  put-same : (n : ℕ) → 0 < n → n ≤ length xs → item_at_number_or d (with_item_at_number xs n x) n ≡ x
  put-same zero from to = absurd (omega (arith, from))
  put-same (suc k) from to = get_or-set_same xs k x d (omega (arith, to))

  put-other : (n other : ℕ) → other ≢ n → item_at_number_or d (with_item_at_number xs n x) other ≡ item_at_number_or d xs other
  put-other zero other differ = refl
  put-other (suc k) zero differ = refl
  put-other (suc k) (suc j) differ = get_or-set_other xs k j x d (λ e. differ (ap suc e))

  pub at_number-put : (n other : ℕ) → 0 < n → n ≤ length xs → item_at_number_or d (with_item_at_number xs n x) other ≡ cond (other == n) x (item_at_number_or d xs other)
  at_number-put n other from to = elim (cases_eq other n) [
    | inl e ↦ rw (e, eq-eqb n n refl) (put-same n from to)
    | inr ne ↦ rw (ne_eqb other n ne) (put-other n other ne)
  ]

  -- the item of a number after an append
  push-same : (n : ℕ) → n ≡ suc (length xs) → item_at_number_or d (xs ++ x ∷ []) n ≡ x
  push-same zero is = cc
  push-same (suc k) is = get_or_push xs x d k (omega (arith, is))

  push-other : (n : ℕ) → n ≢ suc (length xs) → item_at_number_or d (xs ++ x ∷ []) n ≡ item_at_number_or d xs n
  push-other zero differ = refl
  push-other (suc k) differ = elim (cases_lt k (length xs)) [
    | inl inside ↦ get_or_append_left xs (x ∷ []) d k inside
    | inr past ↦ get_or-eq_default (xs ++ x ∷ []) d (omega (arith, length-append xs (x ∷ []), past, differ)) ∙ sym (get_or-eq_default xs d past)
  ]

  pub at_number-push : (n : ℕ) → item_at_number_or d (xs ++ x ∷ []) n ≡ cond (n == suc (length xs)) x (item_at_number_or d xs n)
  at_number-push n = elim (cases_eq n (suc (length xs))) [
    | inl e ↦ rw (eq-eqb n (suc (length xs)) e) (push-same n e)
    | inr ne ↦ rw (ne_eqb n (suc (length xs)) ne) (push-other n ne)
  ]
