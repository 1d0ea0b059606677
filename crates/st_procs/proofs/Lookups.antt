-- Values in a map by number: where a value that passes a test is, and the keys after a value is overwritten.
use Rattle.std.proofs.Common.{◌≡◌, ◌≢◌, ℕ, ◌==◌, Bool, true, false, cond, List, [], ◌∷◌, Some, inl, inr, refl, ap, sym, ◌∙◌, subst, arith}
use Rattle.std.proofs.lemmas.Bool.{cases_eq, eq-eqb, ne_eqb}
use Rattle.std.proofs.lemmas.Cmp.{eq_by_cmp_equiv, nat_cmp_total, ranked}
use Rattle.std.proofs.lemmas.List.Folds.{Any-from_list_any}
use Rattle.std.proofs.lemmas.Map.{lookup-none}
use Rattle.std.proofs.lemmas.Map.Entries.{lookup_from_place, none_below_head}
use Rattle.std.proofs.lemmas.Map.Keys.{IsDistinct-from_sorted}
use Rattle.std.proofs.lemmas.Map.Made.{Contains-from_values_of}
use Rattle.std.proofs.lemmas.Option.{none-some, slice_get-get_or}
use Rattle.std.specs.BTreeMap.{insert_entry, is_at}
use Rattle.std.specs.List.{list_any}
use Rattle.std.specs.List.Sorted.{IsStrictlySortedBy}
use Rattle.std.specs.Map.{keys_of, lookup, values_of}
use Rattle.std.specs.Ordering.{is_eq, match_ordering, nat_cmp}
use Rattle.std.specs.declared.cmp.Ordering.{Ordering}
use Rattle.std.specs.declared.cmp.Ordering.TheVariants.{Less, Equal, Greater}

-- a value that passes the test is found under some key
pub present-any : {X : Type 0} (p : X → Bool) (es : List (ℕ × X)) → IsStrictlySortedBy nat_cmp (keys_of es) → list_any p (values_of es) ≡ true → (k : ℕ) × (x : X) × (lookup (is_at (nat_cmp k)) es ≡ Some x) × (p x ≡ true)
present-any {X} p es sorted some =
    let one = Any-from_list_any p (values_of es) some in
    let entry = Contains-from_values_of es one.1 (one.0, one.2, one.3) in
    let place : _ = entry.1 in
    (entry.0, one.1, lookup_from_place (eq_by_cmp_equiv nat_cmp_total) es place.0 entry.0 one.1 (IsDistinct-from_sorted nat_cmp (keys_of es) sorted) (slice_get-get_or es place.0 (entry.0, one.1) place.1 ∙ ap Some place.2), one.4)

-- overwriting a value leaves the keys as they are
kept-by : {X : Type 0} (k : ℕ) (v x : X) (o : Ordering) (e : ℕ × X) (es : List (ℕ × X)) → o ≡ nat_cmp k e.0 → IsStrictlySortedBy nat_cmp (keys_of (e ∷ es)) → lookup (is_at (nat_cmp k)) (e ∷ es) ≡ Some x → (lookup (is_at (nat_cmp k)) es ≡ Some x → keys_of (insert_entry nat_cmp es k v) ≡ keys_of es) →
    keys_of (match_ordering o ((k, v) ∷ e ∷ es) ((e.0, v) ∷ es) (e ∷ insert_entry nat_cmp es k v)) ≡ keys_of (e ∷ es)
kept-by k v x Less e es is sorted found more = absurd (none-some x (sym (lookup-none (is_at (nat_cmp k)) (e ∷ es) (none_below_head nat_cmp_total k e es sorted (sym is))) ∙ found))
kept-by k v x Equal e es is sorted found more = refl
kept-by k v x Greater e es is sorted found more =
    let tail : lookup (is_at (nat_cmp k)) es ≡ Some x = subst (λ (o : Ordering). cond (is_eq o) (Some e.1) (lookup (is_at (nat_cmp k)) es) ≡ Some x) (sym is) found in
    ap (λ ks. e.0 ∷ ks) (more tail)

pub keys-kept : {X : Type 0} (k : ℕ) (v x : X) (es : List (ℕ × X)) → IsStrictlySortedBy nat_cmp (keys_of es) → lookup (is_at (nat_cmp k)) es ≡ Some x → keys_of (insert_entry nat_cmp es k v) ≡ keys_of es
unfolding IsStrictlySortedBy
keys-kept k v x [] sorted found = cc
keys-kept k v x (e ∷ es) sorted found = kept-by k v x (nat_cmp k e.0) e es refl sorted found (keys-kept k v x es sorted.1)
