-- The names that directories form: the object to which each name leads, and their order.
use Rattle.std.proofs.Common.{◌≡◌, ◌≢◌, ◌∙◌, ap, refl, sym, subst, ℕ, zero, suc, ◌+◌, ◌-◌, ◌≤◌, ◌<◌, Bool, true, false, ◌&&◌, cond, if◌then◌else◌, List, [], ◌∷◌, ◌++◌, length, drop, take, map, flat_map, bytes_eq, Option, Some, None, option_and_then, unwrap_or, arith, get_or, eqb, ne_eqb, zero-add, All, ⊎_elim, length-drop, take-append-drop, length-take-le, filter, take_at, take_all, eqb-true, eq-eqb}
use Rattle.std.proofs.lemmas.Bool.{cases_lt, false≢true, true_from_ne_false, false_from_ne_true}
use Rattle.std.proofs.lemmas.Cmp.{eq_by_cmp_equiv, nat_list_cmp_total, nat_list_eq_equiv, tied_itself}
use Rattle.std.proofs.lemmas.List.Elements.{All-contains, All-from_recursion, All-weaker, recursion_from_All, All-cons, All-filter, All-head, All-nil, All-same, filter_passes}
use Rattle.std.proofs.lemmas.List.FromFn.{get_or-map-range_with_len, length-map-range_with_len}
use Rattle.std.proofs.lemmas.Map.{lookup-none}
use Rattle.std.proofs.lemmas.Map.Entries.{none_past_head, lookup-filter-keys, lookup_head}
use Rattle.std.proofs.lemmas.Map.Keys.{IsDistinct-from_apart, IsDistinct-from_sorted, sorted_head, sorted_tail}
use Rattle.std.proofs.lemmas.Map.Steps.{length-le_from_distinct_below}
use Rattle.std.proofs.lemmas.Map.Views.{Contains-from_any, exact_unsigned_eq}
use Rattle.std.proofs.lemmas.Option.{none-some, option_and_then_some, same_Some}
use Rattle.std.proofs.lemmas.Bool.Decides.{Decides-like, same_from_decides}
use Rattle.std.proofs.lemmas.List.{length-map, length_push, same_from_push, take_more}
use Rattle.std.proofs.lemmas.List.Kept.{IsStrictlySortedBy-filter}
use Rattle.std.proofs.lemmas.Slice.Eq.{bytes_eq-Decides}
use Rattle.std.specs.BTreeMap.{is_at}
use Rattle.std.specs.Cmp.Lexicographic.{slice_cmp, texts_ties}
use Rattle.std.specs.List.{AllByRecursion, range_with_len}
use Rattle.std.specs.List.Sorted.{IsStrictlySortedBy}
use Rattle.std.specs.Map.{keys_of, lookup}
use Rattle.std.specs.Option.{option_or}
use Rattle.std.specs.Ordering.{is_eq, nat_cmp}
use Rattle.std.specs.declared.cmp.Ordering.TheVariants.{Less}
use Rattle.st_names.specs.Name.{Components, parent}
use Rattle.st_model.specs.Tree.{Tree, IsOrdered, IsBelowRoot, compare_names, number_of_name, object_of, is_same_name, entry_count, is_number}
use Rattle.st_model.proofs.Objects.{is_same_name-Decides}
use Rattle.st_model.proofs.Ordered.{lookup-append, lookup-map_keys, lookup_never, keys_of-filter, lookup_agree, same_names, sorted-map_keys}
use Rattle.st_tree.specs.Paths.{AreDirectories, Entries, dir_entry, object_from, names_under}

-- each directory's entries are sorted by component
abbrev AreSorted : (ℕ → Entries) → Type 0
AreSorted dirs = (number : ℕ) → IsStrictlySortedBy (slice_cmp nat_cmp) (keys_of (dirs number))

-- names after a component
abbrev following : List ℕ → List (Components × ℕ) → List (Components × ℕ)
following part names = map (λ named. (part ∷ named.0, named.1)) names

-- the object itself, and the names that lead on from it
abbrev names_from : ℕ → (ℕ → Entries) → ℕ → List (Components × ℕ)
names_from depth dirs from = ([], from) ∷ names_under depth dirs from

-- ---- the object to which a name leads

number-following : (part : List ℕ) (names : List (Components × ℕ)) (other : List ℕ) (rest : Components) → number_of_name (following part names) (other ∷ rest) ≡ (if bytes_eq part other then number_of_name names rest else None)
number-following part names other rest = lookup-map_keys (λ name. part ∷ name) (λ name. is_same_name name (other ∷ rest)) names ∙ by (bytes_eq part other) where
  by : (b : Bool) → lookup (λ name. b && is_same_name name rest) names ≡ (if b then number_of_name names rest else None)
  by true = refl
  by false = lookup_never names

same_part : (part other : List ℕ) → is_eq (slice_cmp nat_cmp part other) ≡ bytes_eq other part
same_part part other = sym (texts_ties part other) ∙ nat_list_eq_equiv.symm part other

option_or-None : {A : Type 0} (o : Option A) → option_or o None ≡ o
option_or-None None = refl
option_or-None (Some x) = refl

-- among the names after the entries of a directory, a name has the number that its rest has after the entry of its first component
number-flat_map : (f : ℕ → List (Components × ℕ)) (es : Entries) (part : List ℕ) (rest : Components) → IsStrictlySortedBy (slice_cmp nat_cmp) (keys_of es) → number_of_name (flat_map (λ held. following held.0 (f held.1)) es) (part ∷ rest) ≡ option_and_then (λ number. number_of_name (f number) rest) (lookup (is_at (slice_cmp nat_cmp part)) es)
number-flat_map f [] part rest sorted = refl
number-flat_map f (e ∷ es) part rest sorted =
    let later = number-flat_map f es part rest (sorted_tail (slice_cmp nat_cmp) e.0 (keys_of es) sorted) in
    lookup-append (λ name. is_same_name name (part ∷ rest)) (following e.0 (f e.1)) (flat_map (λ held. following held.0 (f held.1)) es) ∙
    (λ i. option_or (number-following e.0 (f e.1) part rest i) (later i)) ∙
    by (bytes_eq e.0 part) (same_part part e.0) where
      by : (b : Bool) → is_eq (slice_cmp nat_cmp part e.0) ≡ b → option_or (cond b (number_of_name (f e.1) rest) None) (option_and_then (λ number. number_of_name (f number) rest) (lookup (is_at (slice_cmp nat_cmp part)) es)) ≡ option_and_then (λ number. number_of_name (f number) rest) (cond (is_eq (slice_cmp nat_cmp part e.0)) (Some e.1) (lookup (is_at (slice_cmp nat_cmp part)) es))
      by true here =
          let none : lookup (is_at (slice_cmp nat_cmp part)) es ≡ None = lookup-none _ es (none_past_head (eq_by_cmp_equiv nat_list_cmp_total) part e es (IsDistinct-from_sorted (slice_cmp nat_cmp) (keys_of (e ∷ es)) sorted) here) in
          rw (here, none) (option_or-None (number_of_name (f e.1) rest))
      by false here = rw here refl

number_from : (depth : ℕ) (dirs : ℕ → Entries) (from : ℕ) (name : Components) → AreSorted dirs → length name ≤ depth → number_of_name (names_from depth dirs from) name ≡ object_from dirs from name
number_from depth dirs from [] sorted short = refl
number_from zero dirs from (part ∷ rest) sorted short = absurd (omega arith)
number_from (suc depth) dirs from (part ∷ rest) sorted short =
    number-flat_map (names_from depth dirs) (dirs from) part rest (sorted from) ∙
    (λ i. option_and_then (λ number. number_from depth dirs number rest sorted (omega arith) i) (dir_entry dirs from part))

number_beyond : (depth : ℕ) (dirs : ℕ → Entries) (from : ℕ) (name : Components) → AreSorted dirs → depth < length name → number_of_name (names_from depth dirs from) name ≡ None
number_beyond depth dirs from [] sorted long = absurd (omega arith)
number_beyond zero dirs from (part ∷ rest) sorted long = refl
number_beyond (suc depth) dirs from (part ∷ rest) sorted long =
    number-flat_map (names_from depth dirs) (dirs from) part rest (sorted from) ∙
    (λ i. option_and_then (λ number. number_beyond depth dirs number rest sorted (omega arith) i) (dir_entry dirs from part)) ∙
    none (dir_entry dirs from part) where
      none : (o : Option ℕ) → option_and_then {T = ℕ} {U = ℕ} (λ number. None) o ≡ None
      none None = refl
      none (Some number) = refl

-- a name that is no longer than the depth has the number of the object to which it leads
pub number-names_under : (depth : ℕ) (dirs : ℕ → Entries) (from : ℕ) (part : List ℕ) (rest : Components) → AreSorted dirs → length (part ∷ rest) ≤ depth → number_of_name (names_under depth dirs from) (part ∷ rest) ≡ object_from dirs from (part ∷ rest)
number-names_under depth dirs from part rest = number_from depth dirs from (part ∷ rest)

-- a longer name has no number
pub no_number_beyond : (depth : ℕ) (dirs : ℕ → Entries) (from : ℕ) (part : List ℕ) (rest : Components) → AreSorted dirs → depth < length (part ∷ rest) → number_of_name (names_under depth dirs from) (part ∷ rest) ≡ None
no_number_beyond depth dirs from part rest = number_beyond depth dirs from (part ∷ rest)

-- ---- the order of the names

module _ (P : Components → Type 0) where
  all_after : (part : List ℕ) (names rest : List (Components × ℕ)) → AllByRecursion (λ name. P (part ∷ name)) (keys_of names) → AllByRecursion P (keys_of rest) → AllByRecursion P (keys_of (following part names ++ rest))
  all_after part [] rest h g = g
  all_after part (named ∷ names) rest h g = (h.0, all_after part names rest h.1 g)

  all_joined : (Q : List ℕ → Type 0) → ((part : List ℕ) (name : Components) → Q part → P (part ∷ name)) → (f : ℕ → List (Components × ℕ)) (es : Entries) → AllByRecursion Q (keys_of es) → AllByRecursion P (keys_of (flat_map (λ held. following held.0 (f held.1)) es))
  all_joined Q leads_on f [] h = tt
  all_joined Q leads_on f (e ∷ es) h =
      all_after e.0 (f e.1) _ (recursion_from_All _ (keys_of (f e.1)) (λ k d _. leads_on e.0 _ h.0)) (all_joined Q leads_on f es h.1)

-- names after a component keep their order
after_keeps : (part : List ℕ) (name other : Components) → compare_names (part ∷ name) (part ∷ other) ≡ compare_names name other
after_keeps part name other = rw (tied_itself nat_list_cmp_total part) refl

-- names after a component come before names that begin with a later component
ordered_after : (part : List ℕ) (names rest : List (Components × ℕ)) → IsOrdered names → AllByRecursion (λ name. (more : Components) → compare_names (part ∷ more) name ≡ Less) (keys_of rest) → IsOrdered rest → IsOrdered (following part names ++ rest)
unfolding IsStrictlySortedBy
ordered_after part [] rest h after g = g
ordered_after part (named ∷ names) rest h after g = (
  all_after (λ name. compare_names (part ∷ named.0) name ≡ Less) part names rest
      (recursion_from_All _ (keys_of names) (All-weaker (λ name. compare_names named.0 name ≡ Less) _ (λ name less. after_keeps part named.0 name ∙ less) (keys_of names) (All-from_recursion _ _ h.0)))
      (recursion_from_All _ (keys_of rest) (All-weaker (λ name. (more : Components) → compare_names (part ∷ more) name ≡ Less) _ (λ name less. less named.0) (keys_of rest) (All-from_recursion _ _ after))),
  ordered_after part names rest h.1 after g,
)

ordered_joined : (f : ℕ → List (Components × ℕ)) → ((number : ℕ) → IsOrdered (f number)) → (es : Entries) → IsStrictlySortedBy (slice_cmp nat_cmp) (keys_of es) → IsOrdered (flat_map (λ held. following held.0 (f held.1)) es)
unfolding IsStrictlySortedBy
ordered_joined f ordered [] sorted = tt
ordered_joined f ordered (e ∷ es) sorted =
    ordered_after e.0 (f e.1) _ (ordered e.1)
    (all_joined (λ name. (more : Components) → compare_names (e.0 ∷ more) name ≡ Less) (λ part. slice_cmp nat_cmp e.0 part ≡ Less) (λ part name less more. rw less refl) f es sorted.0)
    (ordered_joined f ordered es sorted.1)

ordered_from : (depth : ℕ) (dirs : ℕ → Entries) (from : ℕ) → AreSorted dirs → IsOrdered (names_from depth dirs from)
unfolding IsStrictlySortedBy
ordered_from zero dirs from sorted = (tt, tt)
ordered_from (suc depth) dirs from sorted = (
  all_joined (λ name. compare_names [] name ≡ Less) (λ part. Unit {0}) (λ part name _. refl) (names_from depth dirs) (dirs from) (recursion_from_All _ (keys_of (dirs from)) (λ k d _. tt)),
  ordered_joined (names_from depth dirs) (λ number. ordered_from depth dirs number sorted) (dirs from) (sorted from),
)

-- the names are in order
pub ordered_names_under : (depth : ℕ) (dirs : ℕ → Entries) (from : ℕ) → AreSorted dirs → IsOrdered (names_under depth dirs from)
ordered_names_under depth dirs from sorted = sorted_tail compare_names [] (keys_of (names_under depth dirs from)) (ordered_from depth dirs from sorted)

-- none of the names is the root's
pub below_root_names_under : (depth : ℕ) (dirs : ℕ → Entries) (from : ℕ) → AreSorted dirs → IsBelowRoot (names_under depth dirs from)
below_root_names_under depth dirs from sorted =
    All-weaker (λ name. compare_names [] name ≡ Less) (λ name. name ≢ []) (λ name less root. let at : compare_names [] [] ≡ Less = ap (compare_names []) (sym root) ∙ less in cc) (keys_of (names_under depth dirs from))
    (All-from_recursion _ _ (sorted_head compare_names [] (keys_of (names_under depth dirs from)) (ordered_from depth dirs from sorted)))

-- equal entries of each directory form the same names
pub same_names_under : (dirs others : ℕ → Entries) → ((number : ℕ) → dirs number ≡ others number) → (depth from : ℕ) → names_under depth dirs from ≡ names_under depth others from
same_names_under dirs others same depth from = λ i. names_under depth (λ number. same number i) from

-- ---- the depth is enough

-- a name in two parts leads on from the object to which its first part leads
pub leads-append : (dirs : ℕ → Entries) (from : ℕ) (name more : Components) → object_from dirs from (name ++ more) ≡ option_and_then (λ number. object_from dirs number more) (object_from dirs from name)
leads-append dirs from [] more = refl
leads-append dirs from (part ∷ rest) more = by (dir_entry dirs from part) (λ number. leads-append dirs number rest more) where
  by : (o : Option ℕ) → ((number : ℕ) → object_from dirs number (rest ++ more) ≡ option_and_then (λ last. object_from dirs last more) (object_from dirs number rest)) → option_and_then (λ number. object_from dirs number (rest ++ more)) o ≡ option_and_then (λ last. object_from dirs last more) (option_and_then (λ number. object_from dirs number rest) o)
  by None following = refl
  by (Some number) following = following number

-- if `n` numbers below a bound all differ, `n` is at most the bound
differing_below : (f : ℕ → ℕ) (n bound : ℕ) → ((k : ℕ) → k < n → f k < bound) → ((i j : ℕ) → i < j → j < n → f i ≢ f j) → n ≤ bound
differing_below f n bound below apart =
    let long : length (map f (range_with_len 0 n)) ≡ n = length-map-range_with_len f 0 n in
    let read : (k d : ℕ) → k < n → get_or (map f (range_with_len 0 n)) k d ≡ f k = λ k d h. get_or-map-range_with_len f 0 n k k d h (zero-add k) in
    let all : All (λ x. x < bound) (map f (range_with_len 0 n)) = λ k d h. rw (read k d (omega arith)) (below k (omega arith)) in
    let within = length-le_from_distinct_below (map f (range_with_len 0 n)) bound
    (IsDistinct-from_apart eqb (map f (range_with_len 0 n)) (λ i j d h l. ne_eqb _ _ (λ same. apart i j h (omega arith) (sym (read i d (omega arith)) ∙ same ∙ read j d (omega arith)))))
    (λ q any. All-contains (λ x. x < bound) _ q all (Contains-from_any exact_unsigned_eq q _ any)) in
    omega arith

module _ (count : ℕ) (is_dir : ℕ → Bool) (dirs : ℕ → Entries) (law : AreDirectories count is_dir dirs) where
  numbered_from : (from : ℕ) (name : Components) (number : ℕ) → (1 ≤ from) × (from ≤ count) → object_from dirs from name ≡ Some number → (1 ≤ number) × (number ≤ count)
  numbered_from from [] number h is = subst (λ other. (1 ≤ other) × (other ≤ count)) (same_Some from number is) h
  numbered_from from (part ∷ rest) number h is =
      option_and_then_some (λ held. object_from dirs held rest) (dir_entry dirs from part) number is (λ held here on. let given = law.numbered from part held here in numbered_from held rest number (omega arith) on)

  -- the number to which a name leads is that of an object
  pub reached_numbered : (name : Components) (number : ℕ) → object_from dirs 1 name ≡ Some number → (1 ≤ number) × (number ≤ count)
  reached_numbered name number = numbered_from 1 name number (omega (arith, law.made))

  -- an object with an entry is a directory
  pub entry_in_directory : (number : ℕ) (part : List ℕ) (held : ℕ) → dir_entry dirs number part ≡ Some held → is_dir number ≡ true
  entry_in_directory number part held here =
      true_from_ne_false (is_dir number) (λ other.
      let bare : dirs number ≡ [] = law.only number (λ yes. false≢true (sym other ∙ yes)) in
      none-some held (sym (ap (lookup (is_at (slice_cmp nat_cmp part))) bare) ∙ here))

  -- a proper prefix of a name that leads to an object leads to a directory
  prefix_reaches : (name : Components) (last k : ℕ) → object_from dirs 1 name ≡ Some last → k < length name → (number : ℕ) × (object_from dirs 1 (take k name) ≡ Some number) × (is_dir number ≡ true)
  prefix_reaches name last k is within = by (drop k name) refl where
    by : (rest : Components) → drop k name ≡ rest → (number : ℕ) × (object_from dirs 1 (take k name) ≡ Some number) × (is_dir number ≡ true)
    by [] none = absurd (omega (arith, length-drop k name, ap length none))
    by (part ∷ rest) more =
        let whole : option_and_then (λ number. object_from dirs number (part ∷ rest)) (object_from dirs 1 (take k name)) ≡ Some last =
        sym (leads-append dirs 1 (take k name) (part ∷ rest)) ∙ ap (λ end. object_from dirs 1 (take k name ++ end)) (sym more) ∙ ap (object_from dirs 1) (take-append-drop k name) ∙ is in
        option_and_then_some (λ number. object_from dirs number (part ∷ rest)) (object_from dirs 1 (take k name)) last whole (λ number here on.
        option_and_then_some (λ held. object_from dirs held rest) (dir_entry dirs number part) last on (λ held there _. (number, here, entry_in_directory number part held there)))

  -- a name that leads to an object has at most as many components as there are objects
  pub name_within : (name : Components) (number : ℕ) → object_from dirs 1 name ≡ Some number → length name ≤ count
  name_within name last is =
      differing_below (λ k. unwrap_or (object_from dirs 1 (take k name)) 0 - 1) (length name) count
      (λ k within. let at = prefix_reaches name last k is within in let given = reached_numbered (take k name) at.0 at.1 in rw at.1 (omega arith))
      (λ i j before within same.
      let a = prefix_reaches name last i is (omega arith) in
      let b = prefix_reaches name last j is within in
      let given_a = reached_numbered (take i name) a.0 a.1 in
      let given_b = reached_numbered (take j name) b.0 b.1 in
      let minus : a.0 - 1 ≡ b.0 - 1 = sym (ap (λ o. unwrap_or o 0 - 1) a.1) ∙ same ∙ ap (λ o. unwrap_or o 0 - 1) b.1 in
      let one : a.0 ≡ b.0 = omega arith in
      let prefixes : take i name ≡ take j name = law.single a.0 (take i name) (take j name) a.2 a.1 (b.1 ∙ ap Some (sym one)) in
      omega (arith, ap length prefixes, length-take-le i name (omega arith), length-take-le j name (omega arith)))

  -- each name has the number of the object to which it leads
  pub number-names : (part : List ℕ) (rest : Components) → number_of_name (names_under count dirs 1) (part ∷ rest) ≡ object_from dirs 1 (part ∷ rest)
  number-names part rest = ⊎_elim
      (λ long. no_number_beyond count dirs 1 part rest law.sorted long ∙ sym (none (object_from dirs 1 (part ∷ rest)) refl long))
      (λ short. number-names_under count dirs 1 part rest law.sorted short)
      (cases_lt count (length (part ∷ rest))) where
        none : (o : Option ℕ) → object_from dirs 1 (part ∷ rest) ≡ o → count < length (part ∷ rest) → o ≡ None
        none None is long = refl
        none (Some number) is long = absurd (omega (arith, name_within (part ∷ rest) number is))

  -- the same for the names of a tree
  pub object_reached : (tree : Tree) → tree.names ≡ names_under count dirs 1 → (name : Components) → object_of tree name ≡ object_from dirs 1 name
  object_reached tree is [] = refl
  object_reached tree is (part ∷ rest) = ap (λ names. number_of_name names (part ∷ rest)) is ∙ number-names part rest

-- ---- the number of entries of a directory

-- a name with one more component leads to that component's entry in the object to which the name leads
pub leads_last : (dirs : ℕ → Entries) (from : ℕ) (name : Components) (last : List ℕ) → object_from dirs from (name ++ last ∷ []) ≡ option_and_then (λ number. dir_entry dirs number last) (object_from dirs from name)
leads_last dirs from name last = leads-append dirs from name (last ∷ []) ∙ (λ i. option_and_then (λ number. itself (dir_entry dirs number last) i) (object_from dirs from name)) where
  itself : (o : Option ℕ) → option_and_then (λ number. Some number) o ≡ o
  itself None = refl
  itself (Some number) = refl

-- the parent of a name with one more component
pub parent_push : (name : Components) (last : List ℕ) → parent (name ++ last ∷ []) ≡ name
parent_push name last =
    let short : length (name ++ last ∷ []) - 1 ≡ length name = omega (arith, length_push name last) in
    rw short (take_at name (last ∷ []) (length name) refl)

-- each name but the root's is its parent with one more component
parent_last : (part : List ℕ) (rest : Components) → (last : List ℕ) × (part ∷ rest ≡ parent (part ∷ rest) ++ last ∷ [])
parent_last part rest =
    let short : length (part ∷ rest) - 1 ≡ length rest = omega arith in (
      get_or (part ∷ rest) (length rest) [],
      sym (take_all (length rest + 1) (part ∷ rest) (omega arith)) ∙ take_more (part ∷ rest) (length rest) [] (omega arith) ∙ ap (λ n. take n (part ∷ rest) ++ get_or (part ∷ rest) (length rest) [] ∷ []) (sym short),
    )

same_last : (name : Components) (one other : List ℕ) → is_same_name (name ++ one ∷ []) (name ++ other ∷ []) ≡ is_eq (slice_cmp nat_cmp other one)
same_last name one other =
    same_from_decides (is_same_name (name ++ one ∷ []) (name ++ other ∷ [])) (bytes_eq one other) (is_same_name-Decides (name ++ one ∷ []) (name ++ other ∷ []))
    (Decides-like (bytes_eq one other) (ap (λ part. name ++ part ∷ [])) (λ same. (same_from_push name name one other same).1) (bytes_eq-Decides one other)) ∙
    sym (same_part other one)

last_rises : (name : Components) (one other : List ℕ) → slice_cmp nat_cmp one other ≡ Less → compare_names (name ++ one ∷ []) (name ++ other ∷ []) ≡ Less
last_rises [] one other less = rw less refl
last_rises (part ∷ rest) one other less = after_keeps part (rest ++ one ∷ []) (rest ++ other ∷ []) ∙ last_rises rest one other less

is_numbered_is : (number : ℕ) (o : Option ℕ) → is_number number o ≡ true → o ≡ Some number
is_numbered_is number None h = absurd (false≢true h)
is_numbered_is number (Some other) h = ap Some (eqb-true other number h)

is_numbered_itself : (number : ℕ) → is_number number (Some number) ≡ true
is_numbered_itself number = eq-eqb number number refl

module _ (count : ℕ) (is_dir : ℕ → Bool) (dirs : ℕ → Entries) (law : AreDirectories count is_dir dirs) (number : ℕ) where
  abbrev all_names : List (Components × ℕ)
  all_names = names_under count dirs 1

  -- whether a name's parent is the directory with this number
  abbrev is_held : Components → Bool
  is_held name = is_number number (object_from dirs 1 (parent name))

  abbrev held_names : List (Components × ℕ)
  held_names = filter (λ named. is_held named.0) all_names

  -- the directory's entries as names, each after the directory's name
  abbrev entry_names : Components → List (Components × ℕ)
  entry_names name = map (λ held. (name ++ held.0 ∷ [], held.1)) (dirs number)

  is_held_in : (name other : Components) → object_from dirs 1 name ≡ Some number → parent other ≡ name → is_held other ≡ true
  is_held_in name other there is = ap (λ above. is_number number (object_from dirs 1 above)) is ∙ ap (is_number number) there ∙ is_numbered_itself number

  number_held : (name : Components) → number_of_name held_names name ≡ (if is_held name then number_of_name all_names name else None)
  number_held name = lookup-filter-keys (λ other. is_same_name other name) is_held (is_held name) (λ other same. ap is_held ((is_same_name-Decides other name).0 same)) all_names

  keys_held : keys_of held_names ≡ filter is_held (keys_of all_names)
  keys_held = keys_of-filter is_held all_names

  ordered_held : IsOrdered held_names
  ordered_held = subst (IsStrictlySortedBy compare_names) (sym keys_held) (IsStrictlySortedBy-filter compare_names is_held (keys_of all_names) (ordered_names_under count dirs 1 law.sorted))

  below_root_held : IsBelowRoot held_names
  below_root_held = subst (All (λ name. name ≢ [])) (sym keys_held) (All-filter is_held (λ name. name ≢ []) (keys_of all_names) (below_root_names_under count dirs 1 law.sorted))

  below_root_entries : (name : Components) (es : Entries) → IsBelowRoot (map (λ held. (name ++ held.0 ∷ [], held.1)) es)
  below_root_entries name [] = All-nil (λ other. other ≢ [])
  below_root_entries name (e ∷ es) =
      All-cons (λ other. other ≢ []) (name ++ e.0 ∷ []) (keys_of (map (λ held. (name ++ held.0 ∷ [], held.1)) es))
      (λ root. absurd (omega (arith, length_push name e.0, ap length root))) (below_root_entries name es)

  -- among the names of a directory's entries, a lookup by another name of the directory finds the same entries
  entry_found : (name other : Components) (last : List ℕ) → object_from dirs 1 name ≡ Some number → object_from dirs 1 other ≡ Some number → lookup (λ part. is_same_name (name ++ part ∷ []) (other ++ last ∷ [])) (dirs number) ≡ dir_entry dirs number last
  entry_found name other last here there = by (is_dir number) refl where
    by : (b : Bool) → is_dir number ≡ b → lookup (λ part. is_same_name (name ++ part ∷ []) (other ++ last ∷ [])) (dirs number) ≡ dir_entry dirs number last
    by true dir = rw (law.single number other name dir there here) (λ i. lookup (λ part. same_last name part last i) (dirs number))
    by false other_kind = rw (law.only number (λ dir. false≢true (sym other_kind ∙ dir))) refl

  -- the names whose parent is a directory are its entries
  held_are_entries : (name : Components) → object_from dirs 1 name ≡ Some number → held_names ≡ entry_names name
  held_are_entries name there =
      same_names held_names (entry_names name) ordered_held (sorted-map_keys (slice_cmp nat_cmp) compare_names (λ part. name ++ part ∷ []) (last_rises name) (dirs number) (law.sorted number)) below_root_held (below_root_entries name (dirs number))
      (λ part rest. number_held (part ∷ rest) ∙ by part rest (is_held (part ∷ rest)) refl ∙ sym (lookup-map_keys (λ last. name ++ last ∷ []) (λ other. is_same_name other (part ∷ rest)) (dirs number))) where
        by : (part : List ℕ) (rest : Components) (b : Bool) → is_held (part ∷ rest) ≡ b → (if b then number_of_name all_names (part ∷ rest) else None) ≡ lookup (λ last. is_same_name (name ++ last ∷ []) (part ∷ rest)) (dirs number)
        by part rest true held =
            let split = parent_last part rest in
            let above : object_from dirs 1 (parent (part ∷ rest)) ≡ Some number = is_numbered_is number _ held in
            number-names count is_dir dirs law part rest ∙ ap (object_from dirs 1) split.1 ∙ leads_last dirs 1 (parent (part ∷ rest)) split.0 ∙ ap (option_and_then (λ other. dir_entry dirs other split.0)) above ∙
            sym (entry_found name (parent (part ∷ rest)) split.0 there above) ∙ ap (λ whole. lookup (λ last. is_same_name (name ++ last ∷ []) whole) (dirs number)) (sym split.1)
        by part rest false elsewhere =
            sym (lookup_agree (λ last. is_same_name (name ++ last ∷ []) (part ∷ rest)) (λ last. false) (dirs number) (λ k d _. none (get_or (keys_of (dirs number)) k d)) ∙ lookup_never (dirs number)) where
              none : (last : List ℕ) → is_same_name (name ++ last ∷ []) (part ∷ rest) ≡ false
              none last = false_from_ne_true _ (λ same. false≢true (sym elsewhere ∙ is_held_in name (part ∷ rest) there (ap parent (sym ((is_same_name-Decides (name ++ last ∷ []) (part ∷ rest)).0 same)) ∙ parent_push name last)))

  number_last : (name : Components) (last : List ℕ) → number_of_name all_names (name ++ last ∷ []) ≡ object_from dirs 1 (name ++ last ∷ [])
  number_last [] last = number-names count is_dir dirs law last []
  number_last (part ∷ rest) last = number-names count is_dir dirs law part (rest ++ last ∷ [])

  -- a directory that is the parent of no name has no entries
  bare : held_names ≡ [] → dirs number ≡ []
  bare none = by (dirs number) refl where
    by : (es : Entries) → dirs number ≡ es → es ≡ []
    by [] is = refl
    by (e ∷ es) is = sym is ∙ law.lost number (λ name there.
        let first : dir_entry dirs number e.0 ≡ Some e.1 = ap (lookup (is_at (slice_cmp nat_cmp e.0))) is ∙ lookup_head (is_at (slice_cmp nat_cmp e.0)) e es (ap is_eq (tied_itself nat_list_cmp_total e.0)) in
        let found : number_of_name held_names (name ++ e.0 ∷ []) ≡ Some e.1 =
        number_held (name ++ e.0 ∷ []) ∙ ap (λ (b : Bool). if b then number_of_name all_names (name ++ e.0 ∷ []) else None) (is_held_in name (name ++ e.0 ∷ []) there (parent_push name e.0)) ∙
        number_last name e.0 ∙ leads_last dirs 1 name e.0 ∙ ap (option_and_then (λ other. dir_entry dirs other e.0)) there ∙ first in
        none-some e.1 (sym (ap (λ names. number_of_name names (name ++ e.0 ∷ [])) none) ∙ found))

  -- the number of names whose parent is a directory is the number of its entries
  pub entries_counted : (tree : Tree) → tree.names ≡ names_under count dirs 1 → entry_count tree number ≡ length (dirs number)
  entries_counted tree is = (λ i. length (filter (λ named. is_number number (object_reached count is_dir dirs law tree is (parent named.0) i)) (is i))) ∙ by held_names refl where
    by : (held : List (Components × ℕ)) → held_names ≡ held → length held_names ≡ length (dirs number)
    by [] none = ap length none ∙ ap length (sym (bare none))
    by (named ∷ others) some =
        let first : is_held named.0 ≡ true = All-head (λ one. is_held one.0 ≡ true) named others (All-same (λ one. is_held one.0 ≡ true) (named ∷ others) held_names (sym some) (filter_passes (λ one. is_held one.0) all_names)) in
        ap length (held_are_entries (parent named.0) (is_numbered_is number _ first)) ∙ length-map (dirs number) (λ held. (parent named.0 ++ held.0 ∷ [], held.1))
