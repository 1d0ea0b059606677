-- The last of distinct keys is found at its own index.
use Rattle.std.proofs.Common.{◌≡◌, ℕ, suc, zero, ◌+◌, Bool, true, false, List, [], ◌∷◌, length, refl, ap, sym, ◌∙◌, arith, Some, None, option_map, Vec, cond, not, nat_lt, Global}
use Rattle.std.proofs.lemmas.Option.{same_Some, slice_get-map}
use Rattle.std.proofs.lemmas.Map.Keys.{IsDistinct-head, IsDistinct-tail}
use Rattle.std.proofs.lemmas.Slice.Eq.{bytes_eq-Decides}
use Rattle.std.specs.Prelude.{slice_get}
use Rattle.std.specs.List.{position, position_or_len, AllByRecursion, IsDistinct}
use Rattle.std.specs.Str.{bytes_eq}
use Rattle.std.specs.Map.{keys_of}
use Rattle.std.proofs.lemmas.Bool.Decides.{Decides-ltb}
use Rattle.std.proofs.lemmas.List.{length-map}
use Rattle.st_filter.proofs.Entries.{is_key, same_key}

-- a key that differs from all keys of a list differs from the one at an index
differs_at : (key : Vec ℕ Global) (keys : List (Vec ℕ Global)) (n : ℕ) (last : Vec ℕ Global) → AllByRecursion (λ other. same_key key other ≡ false) keys → slice_get keys n ≡ Some last → same_key key last ≡ false
differs_at key [] n last all at = absurd (none_is_some at) where
  none_is_some : None ≡ Some last → ⊥
  none_is_some e = cc
differs_at key (k ∷ keys) zero last all at = ap (same_key key) (sym (same_Some k last at)) ∙ all.0
differs_at key (k ∷ keys) (suc n) last all at = differs_at key keys n last all.1 at

-- two keys that are both equal to the same bytes are equal
both_same : (key : List ℕ) (one other : Vec ℕ Global) → bytes_eq key one.items ≡ true → bytes_eq key other.items ≡ true → same_key one other ≡ true
both_same key one other first second =
    (bytes_eq-Decides one.items other.items).1 (sym ((bytes_eq-Decides key one.items).0 first) ∙ (bytes_eq-Decides key other.items).0 second)

pub last_place : (key : List ℕ) (keys : List (Vec ℕ Global)) (n : ℕ) (last : Vec ℕ Global) → IsDistinct same_key keys → slice_get keys n ≡ Some last → suc n ≡ length keys → bytes_eq key last.items ≡ true →
    position_or_len (is_key key) keys ≡ n
last_place key [] n last apart at count is = absurd (omega (arith, count))
last_place key (k ∷ []) zero last apart at count is = ap (λ b. cond (not b) 1 0) (ap (λ v. bytes_eq key v.items) (same_Some k last at) ∙ is)
last_place key (k ∷ []) (suc n) last apart at count is = absurd (omega (arith, count))
last_place key (k ∷ l ∷ keys) zero last apart at count is = absurd (omega (arith, count))
last_place key (k ∷ l ∷ keys) (suc n) last apart at count is = by (bytes_eq key k.items) refl (last_place key (l ∷ keys) n last (IsDistinct-tail same_key k (l ∷ keys) apart) at (omega (arith, count)) is) where
  clash : true ≡ false → ⊥
  clash e = cc

  next : 1 + n ≡ suc n
  next = omega arith

  by : (b : Bool) → bytes_eq key k.items ≡ b → position_or_len (is_key key) (l ∷ keys) ≡ n → position_or_len (is_key key) (k ∷ l ∷ keys) ≡ suc n
  by true here later = absurd (clash (sym (both_same key k last here is) ∙ differs_at k (l ∷ keys) n last (IsDistinct-head same_key k (l ∷ keys) apart) at))
  by false here later = ap (λ b. cond (not b) (1 + position_or_len (is_key key) (l ∷ keys)) 0) here ∙ ap (λ m. 1 + m) later ∙ next

-- the row of the last of distinct keys, if it is the key that is looked for
pub last_row : {X : Type 0} (key : List ℕ) (es : List (Vec ℕ Global × X)) (n : ℕ) (last : Vec ℕ Global) (value : X) → IsDistinct same_key (keys_of es) → Some (last, value) ≡ slice_get es n → suc n ≡ length es → bytes_eq key last.items ≡ true →
    Some n ≡ position (is_key key) (keys_of es)
last_row key es n last value apart at count is =
    let keys = keys_of es in
    let size : length keys ≡ length es = length-map es (λ e. e.0) in
    let found : position_or_len (is_key key) keys ≡ n = last_place key keys n last apart (slice_get-map (λ e. e.0) es n ∙ ap (option_map (λ e. e.0)) (sym at)) (count ∙ sym size) is in
    let inside : nat_lt (position_or_len (is_key key) keys) (length keys) ≡ true = (Decides-ltb (position_or_len (is_key key) keys) (length keys)).1 (omega (arith, found, count, size)) in
    sym (ap (λ b. cond b (Some (position_or_len (is_key key) keys)) None) inside ∙ ap Some found)
