-- Maps whose keys are bytes.
use Rattle.std.proofs.Common.{◌≡◌, ◌<◌, ◌+◌, ◌∙◌, ℕ, suc, Bool, true, false, cond, not, List, [], ◌∷◌, length, Some, None, Vec, Global, refl, ap, sym, subst, arith}
use Rattle.std.proofs.lemmas.Bool.Decides.{Decides-ltb}
use Rattle.std.proofs.lemmas.Cmp.{nat_list_eq_equiv}
use Rattle.std.proofs.lemmas.Slice.Eq.{bytes_eq-Decides}
use Rattle.std.specs.List.{position, position_or_len}
use Rattle.std.specs.Map.{keys_of, lookup}
use Rattle.std.specs.Prelude.{nat_lt}
use Rattle.std.specs.Str.{bytes_eq}
use Rattle.indexmap.proofs.MapLemmas.{Found-position}
use Rattle.indexmap.specs.IndexMap.{insert_entry, set_value_at}
use Rattle.st_filter.proofs.Entries.{is_key, same_key}

-- ---- a value that is set

twice : {X : Type 0} (b : Bool) (x y z : X) → cond b x z ≡ cond b x (cond b y z)
twice true x y z = refl
twice false x y z = refl

module _ {X : Type 0} (key other : List ℕ) (w : X) where
  abbrev Found : List (Vec ℕ Global × X) → Type 0
  Found es = position_or_len (is_key key) (keys_of es) < length es

  abbrev Set : List (Vec ℕ Global × X) → ℕ → Type 0
  Set es i = lookup (is_key other) (set_value_at es i w) ≡ cond (bytes_eq key other) (Some w) (lookup (is_key other) es)

  own : (e : Vec ℕ Global × X) (es : List (Vec ℕ Global × X)) → key ≡ e.0.items → Set (e ∷ es) 0
  own e es same =
      let asks : bytes_eq other e.0.items ≡ bytes_eq key other = ap (bytes_eq other) (sym same) ∙ nat_list_eq_equiv.symm other key in
      twice (bytes_eq other e.0.items) (Some w) (Some e.1) (lookup (is_key other) es)
      ∙ (λ k. cond (asks k) (Some w) (lookup (is_key other) (e ∷ es)))

  later : (e : Vec ℕ Global × X) (es : List (Vec ℕ Global × X)) (i : ℕ) → bytes_eq key e.0.items ≡ false → (b : Bool) → bytes_eq other e.0.items ≡ b → Set es i → Set (e ∷ es) (suc i)
  later e es i differs true same set =
      let apart : bytes_eq key other ≡ false = ap (bytes_eq key) ((bytes_eq-Decides other e.0.items).0 same) ∙ differs in
      (λ k. cond (same k) (Some e.1) (lookup (is_key other) (set_value_at es i w)))
      ∙ (λ k. cond (sym apart k) (Some w) (cond (sym same k) (Some e.1) (lookup (is_key other) es)))
  later e es i differs false same set =
      (λ k. cond (same k) (Some e.1) (lookup (is_key other) (set_value_at es i w)))
      ∙ set
      ∙ (λ k. cond (bytes_eq key other) (Some w) (cond (sym same k) (Some e.1) (lookup (is_key other) es)))

  set_by : (b : Bool) (e : Vec ℕ Global × X) (es : List (Vec ℕ Global × X)) → bytes_eq key e.0.items ≡ b → cond (not b) (1 + position_or_len (is_key key) (keys_of es)) 0 < suc (length es)
      → (Found es → Set es (position_or_len (is_key key) (keys_of es))) → Set (e ∷ es) (cond (not b) (1 + position_or_len (is_key key) (keys_of es)) 0)
  set_by true e es is inside rest = own e es ((bytes_eq-Decides key e.0.items).0 is)
  set_by false e es is inside rest =
      let next : suc (position_or_len (is_key key) (keys_of es)) ≡ 1 + position_or_len (is_key key) (keys_of es) = omega arith in
      subst (Set (e ∷ es)) next (later e es (position_or_len (is_key key) (keys_of es)) is (bytes_eq other e.0.items) refl (rest (omega (arith, inside))))

  set_found : (es : List (Vec ℕ Global × X)) → Found es → Set es (position_or_len (is_key key) (keys_of es))
  set_found [] inside = absurd (omega (arith, inside))
  set_found (e ∷ es) inside = set_by (bytes_eq key e.0.items) e es refl inside (set_found es)

-- the value at a key's index is set, and no other
pub lookup_set : {X : Type 0} (es : List (Vec ℕ Global × X)) (key : List ℕ) (i : ℕ) (w : X) → position (is_key key) (keys_of es) ≡ Some i → (other : List ℕ)
    → lookup (is_key other) (set_value_at es i w) ≡ cond (bytes_eq key other) (Some w) (lookup (is_key other) es)
lookup_set es key i w at other =
    let found = Found-position (is_key key) es i at in
    subst (Set key other w es) found.or_len (set_found key other w es (subst (λ n. n < length es) (sym found.or_len) found.within))

-- ---- a key that is inserted

module _ {X : Type 0} (key : Vec ℕ Global) (v : X) where
  abbrev place : List (Vec ℕ Global × X) → ℕ
  place es = position_or_len (same_key key) (keys_of es)

  abbrev Stands : ℕ → List (Vec ℕ Global × X) → Type 0
  Stands n new = (position_or_len (is_key key.items) (keys_of new) ≡ n) × (n < length (keys_of new))

  stands_by : (b : Bool) (e : Vec ℕ Global × X) (es : List (Vec ℕ Global × X)) → bytes_eq key.items e.0.items ≡ b → Stands (place es) (insert_entry same_key es key v)
      → Stands (cond (not b) (1 + place es) 0) (cond b ((e.0, v) ∷ es) (e ∷ insert_entry same_key es key v))
  stands_by true e es is rest = (ap (λ b. cond (not b) (1 + position_or_len (is_key key.items) (keys_of es)) 0) is, omega arith)
  stands_by false e es is rest =
      (ap (λ b. cond (not b) (1 + position_or_len (is_key key.items) (keys_of (insert_entry same_key es key v))) 0) is ∙ ap (λ n. 1 + n) rest.0, omega (arith, rest.1))

  stands : (es : List (Vec ℕ Global × X)) → Stands (place es) (insert_entry same_key es key v)
  stands [] = (ap (λ b. cond (not b) (1 + 0) 0) ((bytes_eq-Decides key.items key.items).1 refl), omega arith)
  stands (e ∷ es) = stands_by (bytes_eq key.items e.0.items) e es refl (stands es)

  -- the key is where it was, or after the others
  pub key_stands : (es : List (Vec ℕ Global × X)) → position (is_key key.items) (keys_of (insert_entry same_key es key v)) ≡ Some (place es)
  key_stands es =
      let new = keys_of (insert_entry same_key es key v) in
      ap (λ n. cond (nat_lt n (length new)) (Some n) None) (stands es).0
      ∙ ap (λ b. cond b (Some (place es)) None) ((Decides-ltb (place es) (length new)).1 (stands es).1)
