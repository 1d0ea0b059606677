-- The names that directories form after an object is added, linked, removed or renamed.
use Rattle.std.proofs.Common.{◌≡◌, ◌≢◌, ◌≤◌, ◌<◌, ap, refl, sym, ◌∙◌, ℕ, suc, Bool, true, false, cond, if◌then◌else◌, List, [], ◌∷◌, ◌++◌, map, length, drop, Some, None}
use Rattle.std.proofs.lemmas.Bool.{cond-true, cond-false, cond_both, false_from_ne_true}
use Rattle.std.proofs.lemmas.List.{append-nil, append_cancel_left}
use Rattle.std.proofs.lemmas.List.Elements.{All-cons, All-head, All-nil, All-tail}
use Rattle.std.specs.Map.{keys_of}
use Rattle.st_names.specs.Name.{Components}
use Rattle.st_model.specs.Tree.{IsOrdered, IsBelowRoot, is_prefix, sorted_names, with_prefix_replaced, number_of_name, is_same_name, with_name, without_name}
use Rattle.st_model.proofs.Objects.{number-put, is_same_name-Decides}
use Rattle.st_model.proofs.Ordered.{begins_rest, below_root_in_order, below_root_with_name, below_root_without_name, number-moved, number-without, ordered_in_order, ordered_with_name, ordered_without_name, same_names}
use Rattle.st_tree.proofs.Flat.{below_root_names_under, number-names, ordered_names_under}
use Rattle.st_tree.proofs.Moves.{directories-added, directories-linked, directories-removed, leads-added, leads-linked, leads-removed}
use Rattle.st_tree.proofs.Leads.{apart_from}
use Rattle.st_tree.proofs.Renames.{bare_beyond, beyond, directories-renamed, leads-renamed, with_moved}
use Rattle.st_tree.specs.Paths.{Entries, AreDirectories, dir_entry, object_from, names_under, with_entry, without_entry}

-- names in order are those that directories form, if each name has the object to which it leads
pub names_are : {count : ℕ} {is_dir : ℕ → Bool} {dirs : ℕ → Entries} → AreDirectories count is_dir dirs → (names : List (Components × ℕ)) → IsOrdered names → IsBelowRoot names
    → ((part : List ℕ) (rest : Components) → number_of_name names (part ∷ rest) ≡ object_from dirs 1 (part ∷ rest)) → names_under count dirs 1 ≡ names
names_are {count} {is_dir} {dirs} are names ordered below same =
    same_names (names_under count dirs 1) names (ordered_names_under count dirs 1 are.sorted) ordered (below_root_names_under count dirs 1 are.sorted) below
    (λ part rest. number-names count is_dir dirs are part rest ∙ sym (same part rest))

-- a name with one more component isn't the root's
pub named_more : (place : Components) (part : List ℕ) → place ++ part ∷ [] ≢ []
named_more [] part none = cc
named_more (first ∷ place) part none = cc

module _ {count : ℕ} {is_dir : ℕ → Bool} {dirs : ℕ → Entries} (are : AreDirectories count is_dir dirs) (place : Components) (part : List ℕ) where
  ordered : IsOrdered (names_under count dirs 1)
  ordered = ordered_names_under count dirs 1 are.sorted

  below : IsBelowRoot (names_under count dirs 1)
  below = below_root_names_under count dirs 1 are.sorted

  -- if one more name leads to an object, the names have one more name
  with_name_leads : {more : ℕ} {is_dir_now : ℕ → Bool} {others : ℕ → Entries} (now : AreDirectories more is_dir_now others) (number : ℕ)
      → ((name : Components) → object_from others 1 name ≡ cond (is_same_name (place ++ part ∷ []) name) (Some number) (object_from dirs 1 name))
      → names_under more others 1 ≡ with_name (names_under count dirs 1) (place ++ part ∷ []) number
  with_name_leads now number led =
      names_are now _ (ordered_with_name (names_under count dirs 1) (place ++ part ∷ []) number ordered) (below_root_with_name (names_under count dirs 1) (place ++ part ∷ []) number (named_more place part) below)
      (λ next rest.
      number-put (place ++ part ∷ []) number (next ∷ rest) (names_under count dirs 1)
      ∙ ap (cond (is_same_name (place ++ part ∷ []) (next ∷ rest)) (Some number)) (number-names count is_dir dirs are next rest)
      ∙ sym (led (next ∷ rest)))

  module _ {holder : ℕ} (reach : object_from dirs 1 place ≡ Some holder) where
    module _ (dir : is_dir holder ≡ true) (absent : dir_entry dirs holder part ≡ None) where
      -- a new object's name is added to the names
      pub names-added : names_under (suc count) (with_entry dirs holder part (suc count)) 1 ≡ with_name (names_under count dirs 1) (place ++ part ∷ []) (suc count)
      names-added = with_name_leads (directories-added are place part reach dir absent {is_dir_now = is_dir} (λ number low. refl)) (suc count) (leads-added are place part reach dir absent)

      -- one more name of an object that is no directory is added to the names
      pub names-linked : (held : ℕ) → 1 < held → held ≤ count → is_dir held ≢ true → names_under count (with_entry dirs holder part held) 1 ≡ with_name (names_under count dirs 1) (place ++ part ∷ []) held
      names-linked held above low plain = with_name_leads (directories-linked are place part reach dir absent held above low plain) held (leads-linked are place part reach dir absent held above low plain)

    -- a removed name is removed from the names
    pub names-removed : {held : ℕ} → dir_entry dirs holder part ≡ Some held → dirs held ≡ [] → names_under count (without_entry dirs holder part) 1 ≡ without_name (names_under count dirs 1) (place ++ part ∷ [])
    names-removed has bare =
        names_are (directories-removed are place part reach has bare) _ (ordered_without_name (names_under count dirs 1) (place ++ part ∷ []) ordered) (below_root_without_name (names_under count dirs 1) (place ++ part ∷ []) below)
        (λ next rest.
        number-without (names_under count dirs 1) (place ++ part ∷ []) (next ∷ rest) ordered
        ∙ ap (cond (is_same_name (place ++ part ∷ []) (next ∷ rest)) None) (number-names count is_dir dirs are next rest)
        ∙ sym (leads-removed are place part reach has bare (next ∷ rest)))

-- ---- a rename

append_named : (name rest : Components) → name ≢ [] → name ++ rest ≢ []
append_named [] rest named is = named refl
append_named (part ∷ name) rest named is = cc

moved_named : (old new name : Components) → new ≢ [] → name ≢ [] → with_prefix_replaced old new name ≢ []
moved_named old new name fresh named = cond_both (is_prefix old name) (new ++ drop (length old) name) name (λ other. other ≢ []) (λ _. append_named new (drop (length old) name) fresh) (λ _. named)

-- names that get another prefix stay below the root
pub below_root_moved : (old new : Components) (names : List (Components × ℕ)) → new ≢ [] → IsBelowRoot names → IsBelowRoot (map (λ named. (with_prefix_replaced old new named.0, named.1)) names)
below_root_moved old new [] fresh under = All-nil (λ name. name ≢ [])
below_root_moved old new (pair ∷ names) fresh under =
    All-cons (λ name. name ≢ []) (with_prefix_replaced old new pair.0) (keys_of (map (λ named. (with_prefix_replaced old new named.0, named.1)) names))
    (moved_named old new pair.0 fresh (All-head (λ name. name ≢ []) pair.0 (keys_of names) under))
    (below_root_moved old new names fresh (All-tail (λ name. name ≢ []) pair.0 (keys_of names) under))

module _ {count : ℕ} {is_dir : ℕ → Bool} {dirs : ℕ → Entries} (are : AreDirectories count is_dir dirs)
    (source : Components) {from : ℕ} (part : List ℕ) (reach : object_from dirs 1 source ≡ Some from) {held : ℕ} (has : dir_entry dirs from part ≡ Some held)
    (target : Components) {to : ℕ} (other : List ℕ) (reach_to : object_from dirs 1 target ≡ Some to) (dir_to : is_dir to ≡ true)
    (bare : (number : ℕ) → dir_entry dirs to other ≡ Some number → dirs number ≡ [])
    (outside : is_prefix (source ++ part ∷ []) (target ++ other ∷ []) ≡ false) where
  -- the names without the new name of the object
  abbrev others : List (Components × ℕ)
  others = without_name (names_under count dirs 1) (target ++ other ∷ [])

  others_ordered : IsOrdered others
  others_ordered = ordered_without_name (names_under count dirs 1) (target ++ other ∷ []) (ordered_names_under count dirs 1 are.sorted)

  number_there : (name : Components) → name ≢ [] → number_of_name (names_under count dirs 1) name ≡ object_from dirs 1 name
  number_there [] named = absurd (named refl)
  number_there (next ∷ rest) named = number-names count is_dir dirs are next rest

  -- each of these names keeps its object
  number_others : (name : Components) → name ≢ [] → target ++ other ∷ [] ≢ name → number_of_name others name ≡ object_from dirs 1 name
  number_others name named differs =
      number-without (names_under count dirs 1) (target ++ other ∷ []) name (ordered_names_under count dirs 1 are.sorted)
      ∙ cond-false _ _ _ (false_from_ne_true _ (λ same. differs ((is_same_name-Decides (target ++ other ∷ []) name).0 same)))
      ∙ number_there name named

  -- none of these names has the object's new name as a prefix
  none_others : (name : Components) → is_prefix (target ++ other ∷ []) name ≡ true → number_of_name others name ≡ None
  none_others name within = by (drop (length (target ++ other ∷ [])) name) (begins_rest (target ++ other ∷ []) name within) where
    by : (rest : Components) → name ≡ (target ++ other ∷ []) ++ rest → number_of_name others name ≡ None
    by [] is =
        number-without (names_under count dirs 1) (target ++ other ∷ []) name (ordered_names_under count dirs 1 are.sorted)
        ∙ cond-true _ _ _ ((is_same_name-Decides (target ++ other ∷ []) name).1 (sym (is ∙ append-nil (target ++ other ∷ []))))
    by (next ∷ rest) is =
        let longer : target ++ other ∷ [] ≢ name = λ same.
        let none : [] ≡ next ∷ rest = append_cancel_left (target ++ other ∷ []) [] (next ∷ rest) (append-nil (target ++ other ∷ []) ∙ same ∙ is) in cc in
        number_others name (λ root. append_named (target ++ other ∷ []) (next ∷ rest) (named_more target other) (sym is ∙ root)) longer
        ∙ ap (object_from dirs 1) is ∙ bare_beyond are source part reach has target other reach_to dir_to bare outside next rest

  -- each name with the old prefix gets the new prefix, and the new name's old entry is replaced
  pub names-renamed : names_under count (with_moved dirs from part to other held) 1 ≡ sorted_names (map (λ named. (with_prefix_replaced (source ++ part ∷ []) (target ++ other ∷ []) named.0, named.1)) (without_name (names_under count dirs 1) (target ++ other ∷ [])))
  names-renamed =
      names_are (directories-renamed are source part reach has target other reach_to dir_to bare outside) _
      (ordered_in_order (map (λ named. (with_prefix_replaced (source ++ part ∷ []) (target ++ other ∷ []) named.0, named.1)) others))
      (below_root_in_order (map (λ named. (with_prefix_replaced (source ++ part ∷ []) (target ++ other ∷ []) named.0, named.1)) others)
      (below_root_moved (source ++ part ∷ []) (target ++ other ∷ []) others (named_more target other) (below_root_without_name (names_under count dirs 1) (target ++ other ∷ []) (below_root_names_under count dirs 1 are.sorted))))
      (λ next rest.
      number-moved (source ++ part ∷ []) (target ++ other ∷ []) (record { names = others; objects = [] }) (next ∷ rest) others_ordered none_others
      ∙ by (next ∷ rest) (λ root. cc) (is_prefix (target ++ other ∷ []) (next ∷ rest)) (is_prefix (source ++ part ∷ []) (next ∷ rest)) refl
      ∙ sym (leads-renamed are source part reach has target other reach_to dir_to bare outside (next ∷ rest))) where
        by : (name : Components) → name ≢ [] → (to_new to_old : Bool) → is_prefix (target ++ other ∷ []) name ≡ to_new
            → (if to_new then number_of_name others ((source ++ part ∷ []) ++ drop (length (target ++ other ∷ [])) name) else if to_old then None else number_of_name others name)
            ≡ (if to_new then object_from dirs 1 ((source ++ part ∷ []) ++ drop (length (target ++ other ∷ [])) name) else if to_old then None else object_from dirs 1 name)
        by name named true to_old is =
            number_others _ (append_named (source ++ part ∷ []) (drop (length (target ++ other ∷ [])) name) (named_more source part))
            (beyond are source part reach has target other reach_to dir_to bare outside (drop (length (target ++ other ∷ [])) name))
        by name named false true is = refl
        by name named false false is = number_others name named (λ same. apart_from (target ++ other ∷ []) name [] is (sym same ∙ sym (append-nil (target ++ other ∷ []))))
