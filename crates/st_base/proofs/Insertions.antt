-- Lookups in a list of entries sorted by key, after an insertion.
use Rattle.std.proofs.Common.{◌≡◌, ap, refl, sym, ◌∙◌, subst, ℕ, ◌==◌, Bool, true, false, cond, List, [], ◌∷◌, Some, Option, arith}
use Rattle.std.proofs.lemmas.Bool.{eq-eqb, ne_eqb}
use Rattle.std.proofs.lemmas.Cmp.{alike_right, eq_by_cmp_equiv, nat_cmp_total, ranked}
use Rattle.std.specs.BTreeMap.{insert_entry, is_at}
use Rattle.std.specs.Cmp.{IsTotalOrder}
use Rattle.std.specs.Map.{lookup}
use Rattle.std.specs.Ordering.{is_eq, match_ordering, nat_cmp}
use Rattle.std.specs.declared.cmp.Ordering.{Ordering}
use Rattle.std.specs.declared.cmp.Ordering.TheVariants.{Less, Equal, Greater}

over : {X : Type 0} (b : Bool) (v w : X) (rest : Option X) → cond b (Some v) rest ≡ cond b (Some v) (cond b (Some w) rest)
over true v w rest = refl
over false v w rest = refl

past : {X : Type 0} (b c : Bool) (v w : X) (rest : Option X) → (b ≡ true → c ≡ true → ⊥) → cond b (Some w) (cond c (Some v) rest) ≡ cond c (Some v) (cond b (Some w) rest)
past false c v w rest apart = refl
past true false v w rest apart = refl
past true true v w rest apart = absurd (apart refl refl)

module _ {K X : Type 0} {R : K → K → Ordering} (total : IsTotalOrder R) (k : K) (v : X) where
  found_by : (q : K) (o : Ordering) (e : K × X) (es : List (K × X)) → R k e.0 ≡ o → lookup (is_at (R q)) (insert_entry R es k v) ≡ cond (is_eq (R q k)) (Some v) (lookup (is_at (R q)) es)
      → lookup (is_at (R q)) (match_ordering o ((k, v) ∷ e ∷ es) ((e.0, v) ∷ es) (e ∷ insert_entry R es k v)) ≡ cond (is_eq (R q k)) (Some v) (lookup (is_at (R q)) (e ∷ es))
  found_by q Less e es is more = refl
  found_by q Equal e es is more =
      subst (λ (o : Ordering). cond (is_eq (R q e.0)) (Some v) (lookup (is_at (R q)) es) ≡ cond (is_eq o) (Some v) (cond (is_eq (R q e.0)) (Some e.1) (lookup (is_at (R q)) es)))
      (sym (alike_right total k e.0 q is)) (over (is_eq (R q e.0)) v e.1 (lookup (is_at (R q)) es))
  found_by q Greater e es is more =
      ap (cond (is_eq (R q e.0)) (Some e.1)) more
      ∙ past (is_eq (R q e.0)) (is_eq (R q k)) v e.1 (lookup (is_at (R q)) es) (λ here there.
      let same : is_eq (R q e.0) ≡ is_eq (R k e.0) = (eq_by_cmp_equiv total).congr q k e.0 there in
      let wrong : is_eq Greater ≡ true = sym (ap is_eq is) ∙ sym same ∙ here in
      cc)

  -- a lookup finds the new value at its key, and at every other key what it found before
  pub lookup-insert_entry : (q : K) (es : List (K × X)) → lookup (is_at (R q)) (insert_entry R es k v) ≡ cond (is_eq (R q k)) (Some v) (lookup (is_at (R q)) es)
  lookup-insert_entry q [] = refl
  lookup-insert_entry q (e ∷ es) = found_by q (R k e.0) e es refl (lookup-insert_entry q es)

-- ---- numbers as keys

is_at_number-by : (q k : ℕ) (o : Ordering) → o ≡ nat_cmp q k → is_eq o ≡ (q == k)
is_at_number-by q k Less is = let below = ranked q k Less is in sym (ne_eqb q k (λ e. omega (arith, e, below)))
is_at_number-by q k Equal is = sym (eq-eqb q k (ranked q k Equal is))
is_at_number-by q k Greater is = let above = ranked q k Greater is in sym (ne_eqb q k (λ e. omega (arith, e, above)))

-- an entry's number matches exactly when it equals the number that is looked up
pub is_at_number : (q k : ℕ) → is_at (nat_cmp q) k ≡ (q == k)
is_at_number q k = is_at_number-by q k (nat_cmp q k) refl

pub lookup-insert_number : {X : Type 0} (q k : ℕ) (v : X) (es : List (ℕ × X)) → lookup (is_at (nat_cmp q)) (insert_entry nat_cmp es k v) ≡ cond (q == k) (Some v) (lookup (is_at (nat_cmp q)) es)
lookup-insert_number q k v es =
    lookup-insert_entry nat_cmp_total k v q es ∙ ap (λ (b : Bool). cond b (Some v) (lookup (is_at (nat_cmp q)) es)) (is_at_number q k)

-- the inserted value is found at its key
pub lookup-inserted : {X : Type 0} (k : ℕ) (v : X) (es : List (ℕ × X)) → lookup (is_at (nat_cmp k)) (insert_entry nat_cmp es k v) ≡ Some v
lookup-inserted k v es = lookup-insert_number k k v es ∙ ap (λ (b : Bool). cond b (Some v) (lookup (is_at (nat_cmp k)) es)) (eq-eqb k k refl)
