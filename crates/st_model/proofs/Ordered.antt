-- Names in order: which changes keep the order, the number of a name after a change, and when two lists of names are equal.
use Rattle.std.proofs.Common.{◌≡◌, ◌≢◌, ◌∙◌, ap, refl, sym, subst, ℕ, Bool, true, false, ◌&&◌, cond, if◌then◌else◌, T, List, [], ◌∷◌, ◌++◌, map, Some, None, filter, fold, drop, IsSome, drop_at, length, All}
use Rattle.std.proofs.lemmas.Bool.{false_from_ne_true, false≢true}
use Rattle.std.proofs.lemmas.Cmp.{lists_equiv, lists_total, nat_list_cmp_total, nat_list_eq_equiv}
use Rattle.std.proofs.lemmas.List.Elements.{All-from_recursion, All-head, All-nil, All-tail, All-weaker, recursion_from_All}
use Rattle.std.proofs.lemmas.Map.{lookup-remove_entry}
use Rattle.std.proofs.lemmas.Map.Keys.{IsDistinct-from_sorted}
use Rattle.std.proofs.lemmas.Map.Lookups.{CmpEqualImpliesEq, exact_bytes}
use Rattle.std.proofs.lemmas.Map.Views.{All-keys-insert_entry, All-map-remove_entry, All-keys_from_lookup}
use Rattle.std.proofs.lemmas.Bool.Decides.{Decides-like, same_from_decides}
use Rattle.std.proofs.lemmas.List.{append_cancel_left}
use Rattle.std.proofs.lemmas.Map.Made.{update_all_none}
use Rattle.std.proofs.lemmas.Slice.Eq.{bytes_eq-Decides, starts_is}
use Rattle.std.specs.BTreeMap.{insert_entry, is_at}
use Rattle.std.specs.Cmp.{IsEquivalence, IsTotalOrder}
use Rattle.std.specs.FinMap.{slice_cmp-IsAntisymmetric}
use Rattle.std.specs.FinMap.Entries.{is_sorted, below_all, same_entries}
use Rattle.std.specs.List.{AllByRecursion, IsDistinct}
use Rattle.std.specs.List.Sorted.{IsStrictlySortedBy}
use Rattle.std.specs.Map.{keys_of, lookup, remove_entry, update_all}
use Rattle.std.specs.Option.{option_or}
use Rattle.std.specs.Ordering.{eq_by_cmp, is_lt, match_ordering, ordering_reverse}
use Rattle.std.specs.declared.cmp.Ordering.{Ordering}
use Rattle.std.specs.declared.cmp.Ordering.TheVariants.{Less, Equal, Greater}
use Rattle.st_names.specs.Name.{Components}
use Rattle.st_model.specs.Tree.{IsOrdered, IsBelowRoot, compare_names, sorted_names, number_of_name, is_same_name, with_name, without_name, rename, with_prefix_replaced, is_prefix, Tree}
use Rattle.st_model.proofs.Objects.{is_same_name-Decides, same-compared, number-put}

pub compare_names-total : IsTotalOrder compare_names
compare_names-total = lists_total nat_list_cmp_total

-- names that compare as equal are equal
pub compare_names-exact : CmpEqualImpliesEq compare_names
compare_names-exact = slice_cmp-IsAntisymmetric exact_bytes

-- ---- entries sorted by their keys

both : (a b : Bool) → T a → T b → T (a && b)
both true b p q = q
both false b p q = p

module _ {K X : Type 0} (R : K → K → Ordering) where
  -- inserting an entry keeps sorted entries sorted
  pub sorted-insert_entry : IsTotalOrder R → (es : List (K × X)) (k : K) (v : X) → IsStrictlySortedBy R (keys_of es) → IsStrictlySortedBy R (keys_of (insert_entry R es k v))
  unfolding IsStrictlySortedBy
  sorted-insert_entry o [] k v h = (tt, tt)
  sorted-insert_entry o (e ∷ es) k v h =
      elim (R k e.0) as (λ r. R k e.0 ≡ r → IsStrictlySortedBy R (keys_of (match_ordering r ((k, v) ∷ e ∷ es) ((e.0, v) ∷ es) (e ∷ insert_entry R es k v)))) [
        | Less ↦ λ less. ((less, recursion_from_All _ _ (All-weaker (λ y. R e.0 y ≡ Less) _ (λ y. o.trans k e.0 y less) _ (All-from_recursion _ _ h.0))), h)
        | Equal ↦ λ _. h
        | Greater ↦ λ greater. (recursion_from_All _ _ (All-keys-insert_entry R k v (λ y. R e.0 y ≡ Less) es (All-from_recursion _ _ h.0) (o.antisymm e.0 k ∙ ap ordering_reverse greater)), sorted-insert_entry o es k v h.1)
      ] refl

  -- removing an entry keeps sorted entries sorted
  pub sorted-remove_entry : (test : K → Bool) (es : List (K × X)) → IsStrictlySortedBy R (keys_of es) → IsStrictlySortedBy R (keys_of (remove_entry test es))
  unfolding IsStrictlySortedBy
  sorted-remove_entry test [] h = h
  sorted-remove_entry test (e ∷ es) h =
      elim (test e.0) as (λ b. IsStrictlySortedBy R (keys_of (cond b es (e ∷ remove_entry test es)))) [
        | true ↦ h.1
        | false ↦ (recursion_from_All _ _ (All-map-remove_entry test (λ e. e.0) (λ y. R e.0 y ≡ Less) es (All-from_recursion _ _ h.0)), sorted-remove_entry test es h.1)
      ]

  below_all_from : (k : K) (es : List (K × X)) → AllByRecursion (λ y. R k y ≡ Less) (keys_of es) → T (below_all R k es)
  below_all_from k [] h = tt
  below_all_from k (e ∷ es) h = both (is_lt (R k e.0)) (below_all R k es) (rw h.0 tt) (below_all_from k es h.1)

  is_sorted_from : (es : List (K × X)) → IsStrictlySortedBy R (keys_of es) → T (is_sorted R es)
  unfolding IsStrictlySortedBy
  is_sorted_from [] h = tt
  is_sorted_from (e ∷ es) h = both (below_all R e.0 es) (is_sorted R es) (below_all_from e.0 es h.0) (is_sorted_from es h.1)

  -- two sorted lists in which each lookup finds the same are equal
  pub same_sorted : IsTotalOrder R → CmpEqualImpliesEq R → (es fs : List (K × X)) → IsStrictlySortedBy R (keys_of es) → IsStrictlySortedBy R (keys_of fs) → ((q : K) → lookup (is_at (R q)) es ≡ lookup (is_at (R q)) fs) → es ≡ fs
  same_sorted o exact es fs g h same = same_entries R o exact es fs (is_sorted_from es g) (is_sorted_from fs h) same

-- sorted entries stay sorted when each key is mapped to another key, if the map keeps the order
module _ {J K X : Type 0} (R : K → K → Ordering) (S : J → J → Ordering) (f : K → J) (rises : (x y : K) → R x y ≡ Less → S (f x) (f y) ≡ Less) where
  below_map_keys : (k : K) (es : List (K × X)) → AllByRecursion (λ y. R k y ≡ Less) (keys_of es) → AllByRecursion (λ y. S (f k) y ≡ Less) (keys_of (map (λ e. (f e.0, e.1)) es))
  below_map_keys k [] h = tt
  below_map_keys k (e ∷ es) h = (rises k e.0 h.0, below_map_keys k es h.1)

  pub sorted-map_keys : (es : List (K × X)) → IsStrictlySortedBy R (keys_of es) → IsStrictlySortedBy S (keys_of (map (λ e. (f e.0, e.1)) es))
  unfolding IsStrictlySortedBy
  sorted-map_keys [] h = tt
  sorted-map_keys (e ∷ es) h = (below_map_keys e.0 es h.0, sorted-map_keys es h.1)

-- the keys of entries filtered by key are the filtered keys
pub keys_of-filter : {K X : Type 0} (test : K → Bool) (es : List (K × X)) → keys_of (filter (λ e. test e.0) es) ≡ filter test (keys_of es)
keys_of-filter test [] = refl
keys_of-filter test (e ∷ es) = elim (test e.0) as (λ b. keys_of (cond b (e ∷ filter (λ e. test e.0) es) (filter (λ e. test e.0) es)) ≡ cond b (e.0 ∷ filter test (keys_of es)) (filter test (keys_of es))) [
  | true ↦ ap (λ keys. e.0 ∷ keys) (keys_of-filter test es)
  | false ↦ keys_of-filter test es
]

-- ---- lookups

module _ {K X : Type 0} where
  -- a lookup with a test that is always false finds nothing
  pub lookup_never : (es : List (K × X)) → lookup (λ key. false) es ≡ None
  lookup_never [] = refl
  lookup_never (e ∷ es) = lookup_never es

  -- lookups with tests that agree at each key find the same
  pub lookup_agree : (test other : K → Bool) (es : List (K × X)) → All (λ key. test key ≡ other key) (keys_of es) → lookup test es ≡ lookup other es
  lookup_agree test other [] h = refl
  lookup_agree test other (e ∷ es) h = λ i. cond (All-head (λ key. test key ≡ other key) e.0 (keys_of es) h i) (Some e.1) (lookup_agree test other es (All-tail (λ key. test key ≡ other key) e.0 (keys_of es) h) i)

  pub lookup-append : (test : K → Bool) (es fs : List (K × X)) → lookup test (es ++ fs) ≡ option_or (lookup test es) (lookup test fs)
  lookup-append test [] fs = refl
  lookup-append test (e ∷ es) fs = elim (test e.0) as (λ b. cond b (Some e.1) (lookup test (es ++ fs)) ≡ option_or (cond b (Some e.1) (lookup test es)) (lookup test fs)) [ true ↦ refl | false ↦ lookup-append test es fs ]

  -- a lookup after each key is mapped is a lookup before with the test after the map
  pub lookup-map_keys : {J : Type 0} (f : K → J) (test : J → Bool) (es : List (K × X)) → lookup test (map (λ e. (f e.0, e.1)) es) ≡ lookup (λ key. test (f key)) es
  lookup-map_keys f test [] = refl
  lookup-map_keys f test (e ∷ es) = ap (cond (test (f e.0)) (Some e.1)) (lookup-map_keys f test es)

-- ---- changes that keep names in order and below the root

pub ordered_with_name : (names : List (Components × ℕ)) (name : Components) (number : ℕ) → IsOrdered names → IsOrdered (with_name names name number)
ordered_with_name = sorted-insert_entry compare_names compare_names-total

pub ordered_without_name : (names : List (Components × ℕ)) (name : Components) → IsOrdered names → IsOrdered (without_name names name)
ordered_without_name names name = sorted-remove_entry compare_names (λ other. is_same_name other name) names

pub below_root_with_name : (names : List (Components × ℕ)) (name : Components) (number : ℕ) → name ≢ [] → IsBelowRoot names → IsBelowRoot (with_name names name number)
below_root_with_name names name number named h = All-keys-insert_entry compare_names name number (λ key. key ≢ []) names h named

pub below_root_without_name : (names : List (Components × ℕ)) (name : Components) → IsBelowRoot names → IsBelowRoot (without_name names name)
below_root_without_name names name h = All-map-remove_entry (λ other. is_same_name other name) (λ named. named.0) (λ key. key ≢ []) names h

put_all : (P : List (Components × ℕ) → Type 0) (Q : Components → Type 0) → ((names : List (Components × ℕ)) (name : Components) (number : ℕ) → Q name → P names → P (with_name names name number)) → (pairs names : List (Components × ℕ)) → AllByRecursion Q (keys_of pairs) → P names → P (fold (λ names named. with_name names named.0 named.1) names pairs)
put_all P Q puts [] names q h = h
put_all P Q puts (pair ∷ pairs) names q h = put_all P Q puts pairs (with_name names pair.0 pair.1) q.1 (puts names pair.0 pair.1 q.0 h)

pub ordered_in_order : (pairs : List (Components × ℕ)) → IsOrdered (sorted_names pairs)
unfolding IsStrictlySortedBy
ordered_in_order pairs = put_all IsOrdered (λ name. Unit {0}) (λ names name number _. ordered_with_name names name number) pairs [] (recursion_from_All (λ name. Unit {0}) (keys_of pairs) (λ k d _. tt)) tt

pub below_root_in_order : (pairs : List (Components × ℕ)) → IsBelowRoot pairs → IsBelowRoot (sorted_names pairs)
below_root_in_order pairs h = put_all IsBelowRoot (λ name. name ≢ []) below_root_with_name pairs [] (recursion_from_All (λ name. name ≢ []) (keys_of pairs) h) (All-nil (λ name. name ≢ []))

-- ---- the number of a name

-- whether two names are equal, with the arguments in the order of a lookup
abbrev is_named : Components → Components → Bool
is_named name other = is_same_name other name

flipped : (name other : Components) → is_same_name name other ≡ is_same_name other name
flipped = (lists_equiv nat_list_eq_equiv).symm

is_named-laws : IsEquivalence is_named
is_named-laws = record {
  refl = λ name. (is_same_name-Decides name name).1 refl;
  symm = λ name other. flipped other name;
  congr = λ name other third same. ap (is_same_name third) (sym ((is_same_name-Decides other name).0 same));
}

named-compared : (name other : Components) → eq_by_cmp compare_names name other ≡ is_named name other
named-compared name other = sym (same-compared name other) ∙ flipped name other

-- names in order occur once each
pub distinct_ordered : (names : List (Components × ℕ)) → IsOrdered names → IsDistinct is_named (keys_of names)
distinct_ordered names h = subst (λ (eq : Components → Components → Bool). IsDistinct eq (keys_of names)) (λ i name other. named-compared name other i) (IsDistinct-from_sorted compare_names (keys_of names) h)

-- a name that is removed has no number, and each other name keeps the number that it had
pub number-without : (names : List (Components × ℕ)) (name other : Components) → IsOrdered names → number_of_name (without_name names name) other ≡ (if is_same_name name other then None else number_of_name names other)
number-without names name other h =
    lookup-remove_entry is_named-laws (λ key. is_same_name key name) (λ key third same. ap (is_same_name third) (sym ((is_same_name-Decides key name).0 same))) other names (distinct_ordered names h) ∙
    ap (λ (b : Bool). if b then None else number_of_name names other) (flipped other name)

-- the root's name isn't among the names
pub no_number_at_root : (names : List (Components × ℕ)) → IsBelowRoot names → number_of_name names [] ≡ None
no_number_at_root [] h = refl
no_number_at_root (pair ∷ pairs) h =
    let here : is_same_name pair.0 [] ≡ false = false_from_ne_true (is_same_name pair.0 []) (λ same. All-head (λ name. name ≢ []) pair.0 (keys_of pairs) h ((is_same_name-Decides pair.0 []).0 same)) in
    rw here (no_number_at_root pairs (All-tail (λ name. name ≢ []) pair.0 (keys_of pairs) h))

-- lists of names in which each name has the same number are equal
pub same_names : (xs ys : List (Components × ℕ)) → IsOrdered xs → IsOrdered ys → IsBelowRoot xs → IsBelowRoot ys → ((part : List ℕ) (rest : Components) → number_of_name xs (part ∷ rest) ≡ number_of_name ys (part ∷ rest)) → xs ≡ ys
same_names xs ys g h below under same = same_sorted compare_names compare_names-total compare_names-exact xs ys g h (λ name. compared xs name ∙ at name ∙ sym (compared ys name)) where
  at : (name : Components) → number_of_name xs name ≡ number_of_name ys name
  at [] = no_number_at_root xs below ∙ sym (no_number_at_root ys under)
  at (part ∷ rest) = same part rest

  compared : (names : List (Components × ℕ)) (name : Components) → lookup (is_at (compare_names name)) names ≡ number_of_name names name
  compared names name = λ i. lookup (λ other. named-compared name other i) names

-- ---- names that are sorted, and moved

number_put_all : (pairs names : List (Components × ℕ)) (name : Components) → number_of_name (fold (λ names named. with_name names named.0 named.1) names pairs) name ≡ update_all is_same_name (number_of_name names) pairs name
number_put_all [] names name = refl
number_put_all (pair ∷ pairs) names name =
    number_put_all pairs (with_name names pair.0 pair.1) name ∙
    (λ i. update_all is_same_name (λ other. number-put pair.0 pair.1 other names i) pairs name)

-- names of pairs with different names keep their numbers when the pairs are sorted
pub number-in_order : (pairs : List (Components × ℕ)) (name : Components) → IsDistinct is_named (keys_of pairs) → number_of_name (sorted_names pairs) name ≡ number_of_name pairs name
number-in_order pairs name distinct = number_put_all pairs [] name ∙ update_all_none is_named-laws is_same_name flipped pairs name distinct

-- different keys stay different when each key is mapped to another key, if the map keeps keys different
module _ {K X : Type 0} (eq : K → K → Bool) (f : K → K) (P : K → Type 0) (apart : (x y : K) → P x → P y → eq x y ≡ false → eq (f x) (f y) ≡ false) where
  apart_from_others : (x : K) → P x → (es : List (K × X)) → All P (keys_of es) → AllByRecursion (λ y. eq x y ≡ false) (keys_of es) → AllByRecursion (λ y. eq (f x) y ≡ false) (keys_of (map (λ e. (f e.0, e.1)) es))
  apart_from_others x p [] h g = tt
  apart_from_others x p (e ∷ es) h g = (apart x e.0 p (All-head P e.0 (keys_of es) h) g.0, apart_from_others x p es (All-tail P e.0 (keys_of es) h) g.1)

  distinct-map_keys : (es : List (K × X)) → All P (keys_of es) → IsDistinct eq (keys_of es) → IsDistinct eq (keys_of (map (λ e. (f e.0, e.1)) es))
  unfolding IsDistinct
  distinct-map_keys [] h g = tt
  distinct-map_keys (e ∷ es) h g = (apart_from_others e.0 (All-head P e.0 (keys_of es) h) es (All-tail P e.0 (keys_of es) h) g.0, distinct-map_keys es (All-tail P e.0 (keys_of es) h) g.1)

-- a name with a prefix is the prefix followed by the rest
pub begins_rest : (name other : Components) → is_prefix name other ≡ true → other ≡ name ++ drop (length name) other
begins_rest name other = (starts_is bytes_eq-Decides other name (is_prefix name other) refl).0

pub begins_longer : (name rest : Components) → is_prefix name (name ++ rest) ≡ true
begins_longer name rest = (starts_is bytes_eq-Decides (name ++ rest) name (is_prefix name (name ++ rest)) refl).1 rest refl

module _ (old new : Components) where
  moved_begun : (name : Components) → is_prefix old name ≡ true → with_prefix_replaced old new name ≡ new ++ drop (length old) name
  moved_begun name begun = rw begun refl

  -- a name with the old prefix has the new prefix instead
  pub moved_longer : (rest : Components) → with_prefix_replaced old new (old ++ rest) ≡ new ++ rest
  moved_longer rest = moved_begun (old ++ rest) (begins_longer old rest) ∙ ap (λ (end : Components). new ++ end) (drop_at old rest (length old) refl)

  -- each other name doesn't change
  pub moved_other : (name : Components) → is_prefix old name ≡ false → with_prefix_replaced old new name ≡ name
  moved_other name other = rw other refl

  -- a name doesn't have the new prefix, unless it has the old prefix
  abbrev IsFree : Components → Type 0
  IsFree name = is_prefix old name ≡ false → is_prefix new name ≡ false

  clash : (name other : Components) → is_prefix old name ≡ true → is_prefix old other ≡ false → IsFree other → with_prefix_replaced old new name ≡ with_prefix_replaced old new other → ⊥
  clash name other here elsewhere free same =
      let at : new ++ drop (length old) name ≡ other = sym (moved_begun name here) ∙ same ∙ moved_other other elsewhere in
      false≢true (sym (free elsewhere) ∙ ap (is_prefix new) (sym at) ∙ begins_longer new (drop (length old) name))

  -- different names stay different
  moved_once : (name other : Components) → IsFree name → IsFree other → with_prefix_replaced old new name ≡ with_prefix_replaced old new other → name ≡ other
  moved_once name other free released same = by (is_prefix old name) (is_prefix old other) refl refl where
    by : (b c : Bool) → is_prefix old name ≡ b → is_prefix old other ≡ c → name ≡ other
    by true true one two =
        let rest : drop (length old) name ≡ drop (length old) other = append_cancel_left new _ _ (rw (one, two) at same) in
        begins_rest old name one ∙ ap (λ (end : Components). old ++ end) rest ∙ sym (begins_rest old other two)
    by true false one two = absurd (clash name other one two released same)
    by false true one two = absurd (clash other name two one free (sym same))
    by false false one two = rw (one, two) at same

  -- a lookup of a moved name after the move is a lookup of the name before
  asked_before : (name other key : Components) → IsFree other → with_prefix_replaced old new other ≡ name → IsFree key → is_same_name (with_prefix_replaced old new key) name ≡ is_same_name key other
  asked_before name other key free is released =
      same_from_decides (is_same_name (with_prefix_replaced old new key) name) (is_same_name key other) (is_same_name-Decides (with_prefix_replaced old new key) name)
      (Decides-like (is_same_name key other) (λ same. ap (with_prefix_replaced old new) same ∙ is) (λ same. moved_once key other released free (same ∙ sym is)) (is_same_name-Decides key other))

  -- after a move, a name with the new prefix has the number that it had with the old prefix, a name with the old prefix has none, and
  -- each other name keeps its number, if no name had the new prefix before
  pub number-moved : (tree : Tree) (name : Components) → IsOrdered tree.names → ((other : Components) → is_prefix new other ≡ true → number_of_name tree.names other ≡ None) → number_of_name (rename tree old new).names name ≡ (if is_prefix new name then number_of_name tree.names (old ++ drop (length new) name) else if is_prefix old name then None else number_of_name tree.names name)
  number-moved tree name ordered none =
      number-in_order (map (λ named. (with_prefix_replaced old new named.0, named.1)) tree.names) name (distinct-map_keys is_named (with_prefix_replaced old new) IsFree apart tree.names all_free (distinct_ordered tree.names ordered)) ∙
      lookup-map_keys (with_prefix_replaced old new) (λ other. is_same_name other name) tree.names ∙
      by (is_prefix new name) (is_prefix old name) refl refl where
        all_free : All IsFree (keys_of tree.names)
        all_free = All-keys_from_lookup is_named-laws IsFree tree.names (λ other some _. false_from_ne_true (is_prefix new other) (λ begun. false≢true (subst IsSome (none other begun) some)))

        apart : (one other : Components) → IsFree one → IsFree other → is_named one other ≡ false → is_named (with_prefix_replaced old new one) (with_prefix_replaced old new other) ≡ false
        apart one other free released differ = asked_before (with_prefix_replaced old new one) one other free refl released ∙ differ

        asks : (test : Components → Bool) → ((key : Components) → IsFree key → is_same_name (with_prefix_replaced old new key) name ≡ test key) → lookup (λ key. is_same_name (with_prefix_replaced old new key) name) tree.names ≡ lookup test tree.names
        asks test agree = lookup_agree (λ key. is_same_name (with_prefix_replaced old new key) name) test tree.names (All-weaker IsFree (λ key. is_same_name (with_prefix_replaced old new key) name ≡ test key) agree (keys_of tree.names) all_free)

        gone : is_prefix new name ≡ false → is_prefix old name ≡ true → (key : Components) → with_prefix_replaced old new key ≡ name → ⊥
        gone outside begun key same = elim (is_prefix old key) as (λ b. is_prefix old key ≡ b → ⊥) [
          | true ↦ λ here. false≢true (sym outside ∙ ap (is_prefix new) (sym same ∙ moved_begun key here) ∙ begins_longer new (drop (length old) key))
          | false ↦ λ elsewhere. false≢true (sym elsewhere ∙ ap (is_prefix old) (sym (moved_other key elsewhere) ∙ same) ∙ begun)
        ] refl

        by : (b c : Bool) → is_prefix new name ≡ b → is_prefix old name ≡ c → lookup (λ key. is_same_name (with_prefix_replaced old new key) name) tree.names ≡ (if b then number_of_name tree.names (old ++ drop (length new) name) else if c then None else number_of_name tree.names name)
        by true c under _ =
            asks (λ key. is_same_name key (old ++ drop (length new) name)) (λ key. asked_before name (old ++ drop (length new) name) key
            (λ elsewhere. absurd (false≢true (sym elsewhere ∙ begins_longer old (drop (length new) name))))
            (moved_longer (drop (length new) name) ∙ sym (begins_rest new name under)))
        by false true outside begun =
            asks (λ key. false) (λ key _. false_from_ne_true (is_same_name (with_prefix_replaced old new key) name) (λ same. gone outside begun key ((is_same_name-Decides (with_prefix_replaced old new key) name).0 same))) ∙ lookup_never tree.names
        by false false outside kept =
            asks (λ key. is_same_name key name) (λ key. asked_before name name key (λ _. outside) (moved_other name kept))
