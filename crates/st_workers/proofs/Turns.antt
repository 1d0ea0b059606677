-- The turn of a worker in the list of turns.
use Rattle.std.proofs.Common.{◌≡◌, ◌<◌, ◌≤◌, ◌-◌, ℕ, zero, suc, ◌==◌, cond, List, ◌++◌, append-nil, length, get_or, set, take, drop, Some, inl, inr, refl, ap, sym, ◌∙◌, arith}
use Rattle.std.proofs.Math.ListN.{drop_of_length-le}
use Rattle.std.proofs.Math.Seq.{take-length}
use Rattle.std.specs.Prelude.{slice_get}
use Rattle.std.proofs.lemmas.Bool.{cases_eq, cases_lt, eq-eqb, ne_eqb}
use Rattle.std.proofs.lemmas.List.{get_or-set_other, get_or-set_same, length-set}
use Rattle.std.proofs.lemmas.Option.{none-some, same_Some, slice_get-get_or, slice_get_past, slice_get_within}
use Rattle.st_base.specs.Numbered.{item_at_number}

module _ {X : Type 0} (items : List X) where
  -- an item that exists has a number in range
  pub number_within : (n : ℕ) (x : X) → item_at_number items n ≡ Some x → (1 ≤ n) × (n ≤ length items)
  number_within zero x is = absurd (none-some x is)
  number_within (suc k) x is = (omega arith, slice_get_within items k x is)

  -- the item at an index is that of the next number
  pub item_here : (n : ℕ) (d : X) → 1 ≤ n → n ≤ length items → item_at_number items n ≡ Some (get_or items (n - 1) d)
  item_here zero d from to = absurd (omega (arith, from))
  item_here (suc k) d from to = let before : suc k - 1 ≡ k = omega arith in rw before (slice_get-get_or items k d (omega (arith, to)))

  set_same : (k : ℕ) (x : X) → k < length items → slice_get (set items k x) k ≡ Some x
  set_same k x inside = slice_get-get_or (set items k x) k x (let len = length-set items k x in omega (arith, len, inside)) ∙ ap Some (get_or-set_same items k x x inside)

  set_other : (k j : ℕ) (x : X) → (j ≡ k → ⊥) → slice_get (set items k x) j ≡ slice_get items j
  set_other k j x ne = elim (cases_lt j (length items)) [
    | inl inside ↦ slice_get-get_or (set items k x) j x (let len = length-set items k x in omega (arith, len, inside)) ∙ ap Some (get_or-set_other items k j x x ne) ∙ sym (slice_get-get_or items j x inside)
    | inr past ↦ slice_get_past (set items k x) j (let len = length-set items k x in omega (arith, len, past)) ∙ sym (slice_get_past items j past)
  ]

  -- the item of a number, after one is replaced
  pub item_put : (n : ℕ) (x : X) → 1 ≤ n → n ≤ length items → (other : ℕ) → item_at_number (set items (n - 1) x) other ≡ cond (other == n) (Some x) (item_at_number items other)
  item_put zero x from to other = absurd (omega (arith, from))
  item_put (suc k) x from to zero = rw (ne_eqb 0 (suc k) (λ e. omega (arith, e))) refl
  item_put (suc k) x from to (suc j) = let before : suc k - 1 ≡ k = omega arith in rw before (elim (cases_eq j k) [
    | inl e ↦ rw (eq-eqb (suc j) (suc k) (ap suc e)) (ap (slice_get (set items k x)) e ∙ set_same k x (omega (arith, to)))
    | inr ne ↦ rw (ne_eqb (suc j) (suc k) (λ e. ne (omega (arith, e)))) (set_other k j x ne)
  ])

  -- what is read at a worker's index is the worker's
  pub read_is : (n : ℕ) (x read : X) → item_at_number items n ≡ Some x → read ≡ get_or items (n - 1) read → read ≡ x
  read_is n x read is here =
      let within = number_within n x is in
      here ∙ same_Some (get_or items (n - 1) read) x (sym (item_here n read within.0 within.1) ∙ is)

module _ {X : Type 0} (new old : List X) (n : ℕ) (is : n ≡ length old) (same : length new ≡ length old) where
  -- as many new items replace all the old ones
  pub whole_again : take n (new ++ drop (length new) old) ≡ new
  whole_again =
      ap (λ (l : List X). take n (new ++ l)) (drop_of_length-le old {i = length new} (omega (arith, same))) ∙ ap (λ (l : List X). take n l) (append-nil new) ∙ ap (λ (m : ℕ). take m new) (is ∙ sym same) ∙ take-length new
