-- The policies that a map stores, looked up by their binaries.
use Rattle.std.proofs.Common.{◌≡◌, ℕ, suc, zero, ◌+◌, Bool, true, false, List, [], ◌∷◌, ◌++◌, length, take, ◌≤◌, refl, ap, sym, ◌∙◌, arith, Option, Some, None, option_map, ◌<◌, nat_eq, nat_lt, not, ◌&&◌, ◌||◌, Vec, cond}
use Rattle.std.proofs.lemmas.Bool.{both_ways, or_left, or_parts}
use Rattle.std.proofs.lemmas.List.{map-append, length-map, take-append-le}
use Rattle.st_filter.proofs.Counts.{filters_in_last, filters_in_first, counted_added}
use Rattle.std.proofs.lemmas.Option.{same_Some, slice_get-map}
use Rattle.std.specs.Prelude.{IfSome, Result, Ok, Err, OnErr, unwrap_or, is_some, slice_get, if◌then◌else◌}
use Rattle.std.specs.List.{position, position_or_len}
use Rattle.std.specs.Str.{bytes_eq}
use Rattle.std.specs.Map.{keys_of, lookup, values_of}
use Rattle.indexmap.specs.IndexMap.{insert_entry, set_value_at}
use Rattle.std.proofs.Common.{Global}
use Rattle.st_filter.specs.Formula.{FilterValue}
use Rattle.st_filter.specs.declared.set.BinaryPolicy.{BinaryPolicy}
use Rattle.st_filter.specs.Policies.{policy_of, add_filter, is_some_policy, has_policy, filters_in}
use Rattle.st_filter.specs.PolicyEntries.{PolicyEntry, represented_policies, policy_of_entry}

nat_eq_sym : (a b : ℕ) → nat_eq a b ≡ nat_eq b a
nat_eq_sym a b = grind arith

bytes_eq_sym : (xs ys : List ℕ) → bytes_eq xs ys ≡ bytes_eq ys xs
bytes_eq_sym [] [] = refl
bytes_eq_sym [] (y ∷ ys) = refl
bytes_eq_sym (x ∷ xs) [] = refl
bytes_eq_sym (x ∷ xs) (y ∷ ys) = ap (λ b. b && bytes_eq xs ys) (nat_eq_sym x y) ∙ ap (λ b. nat_eq y x && b) (bytes_eq_sym xs ys)

abbrev pub is_key : List ℕ → Vec ℕ Global → Bool
is_key binary key = bytes_eq binary key.items

chosen : (b : Bool) (e fs : List FilterValue) (o : Option (List FilterValue)) → unwrap_or o [] ≡ fs → unwrap_or (cond b (Some e) o) [] ≡ cond b e fs
chosen true e fs o h = refl
chosen false e fs o h = h

pub policy_kept : (es : List PolicyEntry) (binary : List ℕ) → unwrap_or (lookup (is_key binary) es) [] ≡ policy_of (represented_policies es) binary
policy_kept [] binary = refl
policy_kept (e ∷ es) binary =
    chosen (bytes_eq binary e.0.items) e.1 (policy_of (represented_policies es) binary) (lookup (is_key binary) es) (policy_kept es binary)
    ∙ ap (λ b. cond b e.1 (policy_of (represented_policies es) binary)) (bytes_eq_sym binary e.0.items)

found : (b : Bool) (e : List FilterValue) (o : Option (List FilterValue)) → is_some (cond b (Some e) o) ≡ (b || is_some o)
found true e o = refl
found false e o = refl

pub has_kept : (es : List PolicyEntry) (binary : List ℕ) → is_some (lookup (is_key binary) es) ≡ has_policy (represented_policies es) binary
has_kept [] binary = refl
has_kept (e ∷ es) binary =
    found (bytes_eq binary e.0.items) e.1 (lookup (is_key binary) es)
    ∙ ap (λ b. b || is_some (lookup (is_key binary) es)) (bytes_eq_sym binary e.0.items)
    ∙ ap (λ b. bytes_eq e.0.items binary || b) (has_kept es binary)

-- ---- the last policy

pub kept_set : (es : List PolicyEntry) (i : ℕ) (v w : List FilterValue) (f : FilterValue) → length es ≡ suc i → slice_get (values_of es) i ≡ Some v → w ≡ v ++ f ∷ [] →
    represented_policies (set_value_at es i w) ≡ add_filter (represented_policies es) f
kept_set [] i v w f n h k = absurd (omega arith)
kept_set (e ∷ []) zero v w f n h k =
    let q : v ≡ e.1 = cc in
    let one : List FilterValue → List BinaryPolicy = λ fs. record { binary = e.0.items; filters = fs } ∷ [] in
    ap one k ∙ ap (λ fs. one (fs ++ f ∷ [])) q
kept_set (e ∷ []) (suc i) v w f n h k = absurd (omega arith)
kept_set (e ∷ g ∷ es) zero v w f n h k = absurd (omega arith)
kept_set (e ∷ g ∷ es) (suc i) v w f n h k = ap (λ ps. policy_of_entry e ∷ ps) (kept_set (g ∷ es) i v w f (omega arith) h k)

pub kept_same : (es : List PolicyEntry) (i : ℕ) (v w : List FilterValue) → slice_get (values_of es) i ≡ Some v → w ≡ v → represented_policies (set_value_at es i w) ≡ represented_policies es
kept_same [] i v w h k = refl
kept_same (e ∷ es) zero v w h k =
    let q : w ≡ e.1 = cc in
    ap (λ fs. record { binary = e.0.items; filters = fs } ∷ represented_policies es) q
kept_same (e ∷ es) (suc i) v w h k = ap (λ ps. policy_of_entry e ∷ ps) (kept_same es i v w h k)

some_kept : (es : List PolicyEntry) (i : ℕ) → length es ≡ suc i → is_some_policy (represented_policies es) ≡ true
some_kept [] i n = absurd (omega arith)
some_kept (e ∷ es) i n = refl

pub kept_counted : (es : List PolicyEntry) (i : ℕ) (f : FilterValue) → length es ≡ suc i → filters_in (add_filter (represented_policies es) f) ≡ filters_in (represented_policies es) + 1
kept_counted es i f n = counted_added (represented_policies es) f (some_kept es i n)

-- ---- a new policy

abbrev pub same_key : Vec ℕ Global → Vec ℕ Global → Bool
same_key x y = bytes_eq x.items y.items

begun_by : (b : Bool) (e : PolicyEntry) (es : List PolicyEntry) (key : Vec ℕ Global) (v : List FilterValue) → b ≡ bytes_eq e.0.items key.items → has_policy (represented_policies (e ∷ es)) key.items ≡ false →
    (has_policy (represented_policies es) key.items ≡ false → represented_policies (insert_entry same_key es key v) ≡ represented_policies es ++ record { binary = key.items; filters = v } ∷ []) →
    represented_policies (if b then (e.0, v) ∷ es else e ∷ insert_entry same_key es key v) ≡ represented_policies (e ∷ es) ++ record { binary = key.items; filters = v } ∷ []
begun_by true e es key v q h k = absurd (both_ways (bytes_eq e.0.items key.items || has_policy (represented_policies es) key.items) h (or_left (bytes_eq e.0.items key.items) (has_policy (represented_policies es) key.items) (sym q)))
begun_by false e es key v q h k = ap (λ ps. policy_of_entry e ∷ ps) (k (or_parts (bytes_eq e.0.items key.items) (has_policy (represented_policies es) key.items) h).1)

pub kept_begun : (es : List PolicyEntry) (key : Vec ℕ Global) (v : List FilterValue) → has_policy (represented_policies es) key.items ≡ false →
    represented_policies (insert_entry same_key es key v) ≡ represented_policies es ++ record { binary = key.items; filters = v } ∷ []
kept_begun [] key v h = refl
kept_begun (e ∷ es) key v h =
    begun_by (bytes_eq key.items e.0.items) e es key v (bytes_eq_sym key.items e.0.items) h (λ k. kept_begun es key v k)

-- ---- the last policy is removed

pub counted_before : (es fs : List PolicyEntry) (e : PolicyEntry) → es ≡ fs ++ e ∷ [] → filters_in (represented_policies es) ≡ filters_in (represented_policies fs) + length e.1
counted_before es fs e h = ap (λ ps. filters_in (represented_policies ps)) h ∙ ap filters_in (map-append policy_of_entry fs (e ∷ [])) ∙ filters_in_last (represented_policies fs) (policy_of_entry e)

pub front_before : (n : ℕ) (es fs : List PolicyEntry) (e : PolicyEntry) → es ≡ fs ++ e ∷ [] → n ≤ length fs → take n (represented_policies fs) ≡ take n (represented_policies es)
front_before n es fs e h lt =
    let front : take n (represented_policies fs ++ policy_of_entry e ∷ []) ≡ take n (represented_policies fs) = take-append-le n (represented_policies fs) (policy_of_entry e ∷ []) (rw length-map lt) in
    sym front ∙ ap (take n) (sym (map-append policy_of_entry fs (e ∷ []))) ∙ ap (λ ps. take n (represented_policies ps)) (sym h)

pub on_err : {T E : Type 0} (r : Result T E) {P : Type 0} → P → OnErr r P
on_err (Ok x) p = tt
on_err (Err e) p = p

-- ---- the index of a policy

abbrev at_index : List PolicyEntry → ℕ → Option (List FilterValue)
at_index es i = option_map (λ (p : BinaryPolicy). p.filters) (slice_get (represented_policies es) i)

filters_at : (es : List PolicyEntry) (i : ℕ) → at_index es i ≡ slice_get (values_of es) i
filters_at [] i = refl
filters_at (e ∷ es) zero = refl
filters_at (e ∷ es) (suc i) = filters_at es i

some_there : (es : List PolicyEntry) (i : ℕ) → i < length es → (v : List FilterValue) × (slice_get (values_of es) i ≡ Some v)
some_there [] i within = absurd (omega (arith, within))
some_there (e ∷ es) zero within = (e.1, refl)
some_there (e ∷ es) (suc i) within = some_there es i (omega (arith, within))

-- what the map has at the index of a binary is the binary's policy
pub policy_at : (es : List PolicyEntry) (binary : List ℕ) (o : Option ℕ) → IfSome o (λ i. i < length es) → IfSome o (λ i. slice_get (values_of es) i ≡ lookup (is_key binary) es)
    → IfSome o (λ i. option_map (λ (p : BinaryPolicy). p.filters) (slice_get (represented_policies es) i) ≡ Some (policy_of (represented_policies es) binary))
policy_at es binary None within at = tt
policy_at es binary (Some i) within at =
    let v = some_there es i within in
    filters_at es i ∙ v.1 ∙ ap Some (ap (λ (o : Option (List FilterValue)). unwrap_or o []) (sym v.1 ∙ at) ∙ policy_kept es binary)

none_there : (o : Option (List FilterValue)) → is_some o ≡ false → unwrap_or o [] ≡ []
none_there None e = refl
none_there (Some v) e = cc

-- a binary that isn't in the map has no filters
pub no_policy : (es : List PolicyEntry) (binary : List ℕ) → is_some (lookup (is_key binary) es) ≡ false → policy_of (represented_policies es) binary ≡ []
no_policy es binary e = sym (policy_kept es binary) ∙ none_there (lookup (is_key binary) es) e

abbrev is_policy_of : List ℕ → BinaryPolicy → Bool
is_policy_of binary p = bytes_eq p.binary binary

place_kept : (es : List PolicyEntry) (binary : List ℕ) → position_or_len (is_key binary) (keys_of es) ≡ position_or_len (is_policy_of binary) (represented_policies es)
place_kept [] binary = refl
place_kept (e ∷ es) binary =
    ap (λ n. cond (not (bytes_eq binary e.0.items)) (1 + n) 0) (place_kept es binary)
    ∙ ap (λ b. cond (not b) (1 + position_or_len (is_policy_of binary) (represented_policies es)) 0) (bytes_eq_sym binary e.0.items)

-- the map has the policy of a binary at the same index as the list
pub index_kept : (es : List PolicyEntry) (binary : List ℕ) → position (is_key binary) (keys_of es) ≡ position (is_policy_of binary) (represented_policies es)
index_kept es binary =
    let place = position_or_len (is_policy_of binary) (represented_policies es) in
    ap (λ n. cond (nat_lt n (length (keys_of es))) (Some n) None) (place_kept es binary)
    ∙ ap (λ len. cond (nat_lt place len) (Some place) None) (length-map es (λ (e : PolicyEntry). e.0) ∙ sym (length-map es policy_of_entry))

-- a policy has at most as many filters as all have
pub few_at : (ps : List BinaryPolicy) (i : ℕ) (fs : List FilterValue) → option_map (λ (p : BinaryPolicy). p.filters) (slice_get ps i) ≡ Some fs → length fs ≤ filters_in ps
few_at [] i fs e = cc
few_at (p ∷ ps) zero fs e = let same : p.filters ≡ fs = same_Some p.filters fs e in let n : length p.filters ≡ length fs = ap length same in omega (arith, n, filters_in_first p ps)
few_at (p ∷ ps) (suc i) fs e = omega (arith, few_at ps i fs e, filters_in_first p ps)

-- the policy at an index has at most as many filters as all have
pub few_there : (es : List PolicyEntry) (i : ℕ) (e : PolicyEntry) → Some e ≡ slice_get es i → length e.1 ≤ filters_in (represented_policies es)
few_there es i e at = few_at (represented_policies es) i e.1 (ap (option_map (λ (p : BinaryPolicy). p.filters)) (slice_get-map policy_of_entry es i ∙ ap (option_map policy_of_entry) (sym at)))
