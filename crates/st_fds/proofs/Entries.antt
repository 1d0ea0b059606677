-- An entry that is inserted and removed again, and a value that is overwritten.
use Rattle.std.proofs.Common.{◌≡◌, ◌∙◌, arith, ℕ, true, false, cond, List, [], ◌∷◌, Some, refl, ap, sym, subst}
use Rattle.std.proofs.lemmas.Bool.{true≢false}
use Rattle.std.specs.Prelude.{is_some}
use Rattle.std.specs.Cmp.{IsTotalOrder}
use Rattle.std.specs.Ordering.{nat_cmp, is_eq}
use Rattle.std.specs.declared.cmp.Ordering.{Ordering}
use Rattle.std.specs.declared.cmp.Ordering.TheVariants.{Less, Equal, Greater}
use Rattle.std.specs.Cmp.{nat_cmp_is}
use Rattle.std.specs.Map.{lookup, remove_entry, keys_of, set_value}
use Rattle.std.specs.List.Sorted.{IsStrictlySortedBy}
use Rattle.std.proofs.lemmas.Map.Entries.{lookup_at_gap}
use Rattle.std.specs.BTreeMap.{insert_entry, is_at}

module _ {K X : Type 0} (cmp : K → K → Ordering) (k : K) (v : X) (same : cmp k k ≡ Equal) where
  taken_out-by : (o : Ordering) (e : K × X) (es : List (K × X)) → cmp k e.0 ≡ o → (is_some (lookup (is_at (cmp k)) (e ∷ es)) ≡ false) → (is_some (lookup (is_at (cmp k)) es) ≡ false → remove_entry (is_at (cmp k)) (insert_entry cmp es k v) ≡ es) → remove_entry (is_at (cmp k)) (insert_entry cmp (e ∷ es) k v) ≡ e ∷ es
  taken_out-by Less e es is none more = rw (is, same) refl
  taken_out-by Equal e es is none more = absurd (true≢false (subst (λ o. is_some (cond (is_eq o) (Some e.1) (lookup (is_at (cmp k)) es)) ≡ false) is none))
  taken_out-by Greater e es is none more = rw (is, is) (ap (λ xs. e ∷ xs) (more (subst (λ o. is_some (cond (is_eq o) (Some e.1) (lookup (is_at (cmp k)) es)) ≡ false) is none)))

  taken_out-cmp : (es : List (K × X)) → is_some (lookup (is_at (cmp k)) es) ≡ false → remove_entry (is_at (cmp k)) (insert_entry cmp es k v) ≡ es
  taken_out-cmp [] none = rw same refl
  taken_out-cmp (e ∷ es) none = taken_out-by (cmp k e.0) e es refl none (taken_out-cmp es)

-- an entry that was inserted under a new key and is removed
pub taken_out : {X : Type 0} (k : ℕ) (v : X) (es : List (ℕ × X)) → is_some (lookup (is_at (nat_cmp k)) es) ≡ false → remove_entry (is_at (nat_cmp k)) (insert_entry nat_cmp es k v) ≡ es
taken_out k v es none = taken_out-cmp nat_cmp k v (sym (nat_cmp_is k k Equal refl)) es none

module _ {K X : Type 0} {R : K → K → Ordering} (order : IsTotalOrder R) (k : K) (v : X) where
  written-by : (o : Ordering) (e : K × X) (es : List (K × X)) → R k e.0 ≡ o → IsStrictlySortedBy R (keys_of (e ∷ es)) → is_some (lookup (is_at (R k)) (e ∷ es)) ≡ true → (is_some (lookup (is_at (R k)) es) ≡ true → set_value (is_at (R k)) es v ≡ insert_entry R es k v) → set_value (is_at (R k)) (e ∷ es) v ≡ insert_entry R (e ∷ es) k v
  unfolding IsStrictlySortedBy
  written-by Less e es is sorted found more =
      let none = lookup_at_gap order k (e ∷ es) 0 sorted (λ j each below at. absurd (omega (arith, below))) (λ each at. let same : e ≡ each = cc in subst (λ (x : K × X). R k x.0 ≡ Less) same is) in
      absurd (true≢false (sym found ∙ ap is_some none))
  written-by Equal e es is sorted found more = rw is refl
  written-by Greater e es is sorted found more = rw is (ap (λ xs. e ∷ xs) (more (subst (λ o. is_some (cond (is_eq o) (Some e.1) (lookup (is_at (R k)) es)) ≡ true) is found)))

  -- a value that is written under a key that has one
  pub written : (es : List (K × X)) → IsStrictlySortedBy R (keys_of es) → is_some (lookup (is_at (R k)) es) ≡ true → set_value (is_at (R k)) es v ≡ insert_entry R es k v
  unfolding IsStrictlySortedBy
  written [] sorted found = absurd (true≢false (sym found))
  written (e ∷ es) sorted found = written-by (R k e.0) e es refl sorted found (written es sorted.1)
