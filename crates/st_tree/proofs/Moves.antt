-- Where names lead after one entry of one directory is inserted or removed.
use Rattle.std.proofs.Common.{◌≡◌, ◌≢◌, ⊎_elim, ◌≤◌, ◌<◌, ap, refl, sym, ◌∙◌, subst, ℕ, suc, Bool, true, false, if◌then◌else◌, List, [], ◌∷◌, ◌++◌, length, drop, Option, Some, None, option_and_then, arith}
use Rattle.std.proofs.lemmas.Bool.{both_ways, cases_eq, cases_lt, cases_Bool, cond-true, cond-false, false_from_ne_true}
use Rattle.std.proofs.lemmas.List.{append-nil, append_cancel_left}
use Rattle.std.specs.Cmp.Lexicographic.{slice_cmp}
use Rattle.std.specs.List.Sorted.{IsStrictlySortedBy}
use Rattle.std.specs.Map.{keys_of}
use Rattle.std.specs.Ordering.{nat_cmp}
use Rattle.st_names.specs.Name.{Components}
use Rattle.st_model.specs.Tree.{is_prefix, is_same_name}
use Rattle.st_model.proofs.Objects.{is_same_name-Decides}
use Rattle.st_model.proofs.Ordered.{begins_rest}
use Rattle.st_tree.proofs.Flat.{entry_in_directory, reached_numbered}
use Rattle.st_tree.proofs.Leads.{leads_alike, leads_on, leads_end, ends_there, bare_end, has_or_not, unmade, apart_from, longer_apart, append-end}
use Rattle.st_tree.proofs.Puts.{is_here, is_here-Decides, entry-with_here, entry-with_apart, with_entry_apart, sorted-with_entry, entry-without_here, entry-without_apart, without_entry_apart, sorted-without_entry}
use Rattle.st_tree.specs.Paths.{Entries, AreDirectories, dir_entry, object_from, with_entry, without_entry}

-- ---- where names lead

-- one entry has another object or none now; its object before and its object now have no entries
pub record OneEntry (dirs others : ℕ → Entries) (holder : ℕ) (part : List ℕ) (now : Option ℕ) : Type 0 where
  pub kept : (number : ℕ) → number ≢ holder → others number ≡ dirs number
  pub apart : (number : ℕ) (q : List ℕ) → (number ≡ holder → q ≡ part → ⊥) → dir_entry others number q ≡ dir_entry dirs number q
  pub here : dir_entry others holder part ≡ now
  pub was_bare : (number : ℕ) → dir_entry dirs holder part ≡ Some number → dirs number ≡ []
  pub is_bare : (number : ℕ) → now ≡ Some number → others number ≡ []

module _ {count : ℕ} {is_dir : ℕ → Bool} {dirs others : ℕ → Entries} (are : AreDirectories count is_dir dirs) (place : Components) {holder : ℕ} {part : List ℕ} {now : Option ℕ} (reach : object_from dirs 1 place ≡ Some holder) (dir : is_dir holder ≡ true) (one : OneEntry dirs others holder part now) where
  -- a name that doesn't have the entry's name as a prefix leads where it led before
  pub leads_elsewhere : (name : Components) → is_prefix (place ++ part ∷ []) name ≡ false → object_from others 1 name ≡ object_from dirs 1 name
  leads_elsewhere name outside = leads_alike dirs others 1 name (λ front q back number split there.
      one.apart number q (λ at same.
      let met : front ≡ place = are.single holder front place dir (there ∙ ap (λ (n : ℕ). Some n) at) reach in
      apart_from (place ++ part ∷ []) name back outside (split ∙ ap (λ (a : Components). a ++ q ∷ back) met ∙ ap (λ (p : List ℕ). place ++ p ∷ back) same ∙ sym (append-end place part back))))

  -- the directory is reached as before
  pub reach_kept : object_from others 1 place ≡ Some holder
  reach_kept = leads_elsewhere place (ap (λ (a : Components). is_prefix a place) (sym (append-nil (place ++ part ∷ []))) ∙ longer_apart place part []) ∙ reach

  -- a name with the entry's name as a prefix leads on from the entry's object now
  pub leads_later : (rest : Components) → object_from others 1 ((place ++ part ∷ []) ++ rest) ≡ option_and_then (λ number. object_from others number rest) now
  leads_later rest =
      ap (object_from others 1) (append-end place part rest) ∙ leads_on others 1 holder place (part ∷ rest) reach_kept
      ∙ ap (option_and_then (λ number. object_from others number rest)) one.here

  -- the entry's own name leads to the entry's object now, and any other name leads where it led before
  pub leads_one : (name : Components) → object_from others 1 name ≡ (if is_same_name (place ++ part ∷ []) name then now else object_from dirs 1 name)
  leads_one name = ⊎_elim following outside (cases_Bool (is_prefix (place ++ part ∷ []) name)) where
    outside : is_prefix (place ++ part ∷ []) name ≡ false → object_from others 1 name ≡ (if is_same_name (place ++ part ∷ []) name then now else object_from dirs 1 name)
    outside apart =
        let differs : is_same_name (place ++ part ∷ []) name ≡ false = false_from_ne_true _ (λ same. apart_from (place ++ part ∷ []) name [] apart (sym ((is_same_name-Decides (place ++ part ∷ []) name).0 same) ∙ sym (append-nil (place ++ part ∷ [])))) in
        leads_elsewhere name apart ∙ sym (cond-false _ _ _ differs)

    by : (rest : Components) → name ≡ (place ++ part ∷ []) ++ rest → object_from others 1 name ≡ (if is_same_name (place ++ part ∷ []) name then now else object_from dirs 1 name)
    by [] is =
        let same : is_same_name (place ++ part ∷ []) name ≡ true = (is_same_name-Decides (place ++ part ∷ []) name).1 (sym (is ∙ append-nil (place ++ part ∷ []))) in
        ap (object_from others 1) is ∙ leads_later [] ∙ ends_there others now ∙ sym (cond-true _ _ _ same)
    by (next ∷ rest) is =
        let differs : is_same_name (place ++ part ∷ []) name ≡ false = false_from_ne_true _ (λ same.
        let none : [] ≡ next ∷ rest = append_cancel_left (place ++ part ∷ []) [] (next ∷ rest) (append-nil (place ++ part ∷ []) ∙ (is_same_name-Decides (place ++ part ∷ []) name).0 same ∙ is) in cc) in
        let nowhere : object_from others 1 name ≡ None = ap (object_from others 1) is ∙ leads_later (next ∷ rest) ∙ bare_end others now next rest one.is_bare in
        let before : object_from dirs 1 name ≡ None =
        ap (object_from dirs 1) (is ∙ append-end place part (next ∷ rest)) ∙ leads_on dirs 1 holder place (part ∷ next ∷ rest) reach ∙ bare_end dirs (dir_entry dirs holder part) next rest one.was_bare in
        nowhere ∙ sym before ∙ sym (cond-false _ _ _ differs)

    following : is_prefix (place ++ part ∷ []) name ≡ true → object_from others 1 name ≡ (if is_same_name (place ++ part ∷ []) name then now else object_from dirs 1 name)
    following within = by (drop (length (place ++ part ∷ [])) name) (begins_rest (place ++ part ∷ []) name within)

  -- the objects with old numbers keep their kinds; the entry's object now has a number, and is a directory only if no name led to it
  module _ {more : ℕ} {is_dir_now : ℕ → Bool} (at_least : count ≤ more) (alike : (number : ℕ) → number ≤ count → is_dir_now number ≡ is_dir number)
      (in_order : IsStrictlySortedBy (slice_cmp nat_cmp) (keys_of (others holder)))
      (numbers : (number : ℕ) → now ≡ Some number → (1 < number) × (number ≤ more))
      (fresh : (number : ℕ) → now ≡ Some number → is_dir_now number ≡ true → (name : Components) → object_from dirs 1 name ≢ Some number) where
    -- ---- `AreDirectories` after the change

    low : holder ≤ count
    low = (reached_numbered _ _ _ are place holder reach).1

    numbered_one : (number : ℕ) (q : List ℕ) (held : ℕ) → dir_entry others number q ≡ Some held → (1 < held) × (held ≤ more)
    numbered_one number q held is = ⊎_elim
        (λ same. numbers held (sym one.here ∙ ap (λ (n : ℕ). dir_entry others n part) (sym ((is_here-Decides holder part number q).0 same).0) ∙ ap (dir_entry others number) (sym ((is_here-Decides holder part number q).0 same).1) ∙ is))
        (λ differs.
        let before = are.numbered number q held (sym (one.apart number q (λ at same. both_ways _ differs ((is_here-Decides holder part number q).1 (at, same)))) ∙ is) in
        (before.0, omega (arith, before.1)))
        (cases_Bool (is_here holder part number q))

    only_one : (number : ℕ) → is_dir_now number ≢ true → others number ≡ []
    only_one number plain = ⊎_elim
        (λ at. absurd (plain (alike number (omega (arith, low)) ∙ ap is_dir at ∙ dir)))
        (λ apart. one.kept number apart ∙ ⊎_elim
        (λ past. unmade are number (λ inside. omega arith))
        (λ inside. are.only number (λ t. plain (alike number inside ∙ t)))
        (cases_lt count number))
        (cases_eq number holder)

    single_by : (number : ℕ) (name other : Components) (b c : Bool) → is_same_name (place ++ part ∷ []) name ≡ b → is_same_name (place ++ part ∷ []) other ≡ c → is_dir_now number ≡ true
        → (if b then now else object_from dirs 1 name) ≡ Some number → (if c then now else object_from dirs 1 other) ≡ Some number → name ≡ other
    single_by number name other true true p q d h k = sym ((is_same_name-Decides (place ++ part ∷ []) name).0 p) ∙ (is_same_name-Decides (place ++ part ∷ []) other).0 q
    single_by number name other true false p q d h k = absurd (fresh number h d other k)
    single_by number name other false true p q d h k = absurd (fresh number k d name h)
    single_by number name other false false p q d h k = are.single number name other (sym (alike number ((reached_numbered _ _ _ are name number h).1)) ∙ d) h k

    single_one : (number : ℕ) (name other : Components) → is_dir_now number ≡ true → object_from others 1 name ≡ Some number → object_from others 1 other ≡ Some number → name ≡ other
    single_one number name other d h k = single_by number name other _ _ refl refl d (sym (leads_one name) ∙ h) (sym (leads_one other) ∙ k)

    lost_one : (number : ℕ) → ((name : Components) → object_from others 1 name ≢ Some number) → others number ≡ []
    lost_one number none =
        one.kept number (λ at. none place (reach_kept ∙ ap (λ (n : ℕ). Some n) (sym at))) ∙ ⊎_elim
        (λ was. one.was_bare number was)
        (λ differs. are.lost number (λ name is. ⊎_elim
        (λ same. differs (sym (leads_end dirs 1 holder place part reach) ∙ ap (object_from dirs 1) ((is_same_name-Decides (place ++ part ∷ []) name).0 same) ∙ is))
        (λ apart. none name (leads_one name ∙ cond-false _ _ _ apart ∙ is))
        (cases_Bool (is_same_name (place ++ part ∷ []) name))))
        (has_or_not (dir_entry dirs holder part) number)

    -- the entries still form a tree
    pub directories_one : AreDirectories more is_dir_now others
    directories_one = record {
      root = alike 1 are.made ∙ are.root;
      made = omega (arith, are.made);
      sorted = λ number. ⊎_elim
          (λ at. subst (λ (n : ℕ). IsStrictlySortedBy (slice_cmp nat_cmp) (keys_of (others n))) (sym at) in_order)
          (λ apart. subst (λ (es : Entries). IsStrictlySortedBy (slice_cmp nat_cmp) (keys_of es)) (sym (one.kept number apart)) (are.sorted number))
          (cases_eq number holder);
      numbered = numbered_one;
      only = only_one;
      single = single_one;
      lost = lost_one;
    }

-- ---- entries that are inserted

-- an object without entries gets a name that led to no object
bare_put : (dirs : ℕ → Entries) (holder : ℕ) (part : List ℕ) (held : ℕ) → dir_entry dirs holder part ≡ None → held ≢ holder → dirs held ≡ [] → OneEntry dirs (with_entry dirs holder part held) holder part (Some held)
bare_put dirs holder part held absent differs bare = record {
  kept = with_entry_apart dirs holder part held;
  apart = entry-with_apart dirs holder part held;
  here = entry-with_here dirs holder part held;
  was_bare = λ number is. cc;
  is_bare = λ number is. let same : held ≡ number = cc in subst (λ (n : ℕ). with_entry dirs holder part held n ≡ []) same (with_entry_apart dirs holder part held held differs ∙ bare);
}

module _ {count : ℕ} {is_dir : ℕ → Bool} {dirs : ℕ → Entries} (are : AreDirectories count is_dir dirs) (place : Components) {holder : ℕ} (part : List ℕ) (reach : object_from dirs 1 place ≡ Some holder) where
  module _ (dir : is_dir holder ≡ true) (absent : dir_entry dirs holder part ≡ None) where
    added : OneEntry dirs (with_entry dirs holder part (suc count)) holder part (Some (suc count))
    added = bare_put dirs holder part (suc count) absent (λ same. let low : holder ≤ count = (reached_numbered _ _ _ are place holder reach).1 in omega arith) (unmade are (suc count) (λ low. omega arith))

    -- a new object has its name, and each other name leads where it led before
    pub leads-added : (name : Components) → object_from (with_entry dirs holder part (suc count)) 1 name ≡ (if is_same_name (place ++ part ∷ []) name then Some (suc count) else object_from dirs 1 name)
    leads-added = leads_one are place reach dir added

    -- the entries form a tree after a new object of any kind is added
    pub directories-added : {is_dir_now : ℕ → Bool} → ((number : ℕ) → number ≤ count → is_dir_now number ≡ is_dir number) → AreDirectories (suc count) is_dir_now (with_entry dirs holder part (suc count))
    directories-added alike = directories_one are place reach dir added (omega arith) alike
        (sorted-with_entry dirs holder part (suc count) holder (are.sorted holder))
        (λ number is. let same : suc count ≡ number = cc in omega (arith, are.made))
        (λ number is d name led. let same : suc count ≡ number = cc in let low : number ≤ count = (reached_numbered _ _ _ are name number led).1 in omega arith)

    module _ (held : ℕ) (above : 1 < held) (low : held ≤ count) (plain : is_dir held ≢ true) where
      linked : OneEntry dirs (with_entry dirs holder part held) holder part (Some held)
      linked = bare_put dirs holder part held absent (λ same. plain (ap is_dir same ∙ dir)) (are.only held plain)

      -- an object that is no directory gets one more name
      pub leads-linked : (name : Components) → object_from (with_entry dirs holder part held) 1 name ≡ (if is_same_name (place ++ part ∷ []) name then Some held else object_from dirs 1 name)
      leads-linked = leads_one are place reach dir linked

      -- the entries still form a tree
      pub directories-linked : AreDirectories count is_dir (with_entry dirs holder part held)
      directories-linked = directories_one are place reach dir linked (omega arith) (λ number inside. refl)
          (sorted-with_entry dirs holder part held holder (are.sorted holder))
          (λ number is. let same : held ≡ number = cc in omega arith)
          (λ number is d name led. let same : held ≡ number = cc in absurd (plain (ap is_dir same ∙ d)))

  module _ {held : ℕ} (has : dir_entry dirs holder part ≡ Some held) (bare : dirs held ≡ []) where
    -- ---- entries that are removed

    removed : OneEntry dirs (without_entry dirs holder part) holder part None
    removed = record {
      kept = without_entry_apart dirs holder part;
      apart = λ number q. entry-without_apart dirs holder part number q (are.sorted number);
      here = entry-without_here dirs holder part (are.sorted holder);
      was_bare = λ number is. let same : held ≡ number = cc in subst (λ (n : ℕ). dirs n ≡ []) same bare;
      is_bare = λ number is. cc;
    }

    -- the removed name leads to no object, and each other name leads where it led before
    pub leads-removed : (name : Components) → object_from (without_entry dirs holder part) 1 name ≡ (if is_same_name (place ++ part ∷ []) name then None else object_from dirs 1 name)
    leads-removed = leads_one are place reach (entry_in_directory _ _ _ are holder part held has) removed

    -- the entries still form a tree
    pub directories-removed : AreDirectories count is_dir (without_entry dirs holder part)
    directories-removed = directories_one are place reach (entry_in_directory _ _ _ are holder part held has) removed (omega arith) (λ number inside. refl)
        (sorted-without_entry dirs holder part holder (are.sorted holder))
        (λ number is. cc)
        (λ number is. cc)
