-- Whether two entries are the same can be decided: each has a code, and codes can be compared.
use base.Stored.{Coded, Gv, gnil, gnum, gcons}
use Rattle.std.proofs.Common.{◌≡◌, ◌⊎◌, inl, inr, ℕ, ◌==◌, Bool, true, false, Option, refl, ap}
use Rattle.std.proofs.lemmas.Bool.{eq-eqb, eqb-true}
use Rattle.std.specs.Coded.{codes}
use Rattle.st_trace.specs.declared.entry.Entry.{Entry}

abbrev pub Same : {A : Type 0} → A → A → Type 0
Same a b = (a ≡ b) ⊎ (a ≡ b → ⊥)

numbers : (n m : ℕ) → Same n m
numbers n m = by (n == m) refl
  where
    by : (is : Bool) → (n == m) ≡ is → Same n m
    by true e = inl (eqb-true n m e)
    by false e = inr (λ same. let clash : (n == m) ≡ true = eq-eqb n m same in cc)

abbrev number_of : Gv → ℕ
number_of (gnum n) = n
number_of _ = 0

pairs : (a b c d : Gv) → Same a c → Same b d → Same (gcons a b) (gcons c d)
pairs a b c d (inl p) (inl q) = inl (cc)
pairs a b c d (inr p) q = inr (λ e. p (cc))
pairs a b c d (inl p) (inr q) = inr (λ e. q (cc))

same_code : (a b : Gv) → Same a b
same_code gnil gnil = inl refl
same_code gnil (gnum n) = inr (λ e. cc)
same_code gnil (gcons c d) = inr (λ e. cc)
same_code (gnum n) gnil = inr (λ e. cc)
same_code (gnum n) (gnum m) = by (numbers n m)
  where
    by : Same n m → Same (gnum n) (gnum m)
    by (inl e) = inl (ap gnum e)
    by (inr differs) = inr (λ e. differs (ap number_of e))
same_code (gnum n) (gcons c d) = inr (λ e. cc)
same_code (gcons a b) gnil = inr (λ e. cc)
same_code (gcons a b) (gnum n) = inr (λ e. cc)
same_code (gcons a b) (gcons c d) = pairs a b c d (same_code a c) (same_code b d)

entries : Coded (Option Entry)
entries = Prim.hlevel codes

pub same_entry : (a b : Option Entry) → Same a b
same_entry a b = by (same_code (entries.code a) (entries.code b))
  where
    by : Same (entries.code a) (entries.code b) → Same a b
    by (inl e) = inl (entries.inj a b e)
    by (inr differs) = inr (λ e. differs (ap (λ (o : Option Entry). entries.code o) e))
