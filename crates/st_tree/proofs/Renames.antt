-- Where names lead after an object is renamed.
use Rattle.std.proofs.Common.{◌≡◌, ◌≢◌, ⊎_elim, ◌≤◌, ◌<◌, ap, refl, sym, ◌∙◌, subst, ℕ, Bool, true, false, if◌then◌else◌, List, [], ◌∷◌, ◌++◌, length, drop, Option, Some, None, option_and_then}
use Rattle.std.proofs.lemmas.Bool.{both_ways, cases_Bool, false_from_ne_true}
use Rattle.std.proofs.lemmas.List.{append-nil, append_assoc, append_cancel_left}
use Rattle.st_names.specs.Name.{Components}
use Rattle.st_model.specs.Tree.{is_prefix}
use Rattle.st_model.proofs.Ordered.{begins_rest}
use Rattle.st_tree.proofs.Flat.{entry_in_directory}
use Rattle.st_tree.proofs.Leads.{leads_alike, leads_on, leads_end, bare_end, has_or_not, entry_none, apart_from, longer_apart, append-end}
use Rattle.st_tree.proofs.Puts.{is_here, is_here-Decides, entry-with_here, entry-with_apart, with_entry_apart, sorted-with_entry, entry-without_here, entry-without_apart, without_entry_apart, sorted-without_entry}
use Rattle.st_tree.specs.Paths.{Entries, AreDirectories, dir_entry, object_from, with_entry, without_entry}

-- ---- two entries and their directories

-- the directories after the object of one entry is moved to another entry, and replaces the object of that entry
abbrev pub with_moved : (ℕ → Entries) → ℕ → List ℕ → ℕ → List ℕ → ℕ → ℕ → Entries
with_moved dirs from part to other held = without_entry (with_entry dirs to other held) from part

module _ {count : ℕ} {is_dir : ℕ → Bool} {dirs : ℕ → Entries} (are : AreDirectories count is_dir dirs)
    (source : Components) {from : ℕ} (part : List ℕ) (reach : object_from dirs 1 source ≡ Some from) {held : ℕ} (has : dir_entry dirs from part ≡ Some held)
    (target : Components) {to : ℕ} (other : List ℕ) (reach_to : object_from dirs 1 target ≡ Some to) (dir_to : is_dir to ≡ true)
    (bare : (number : ℕ) → dir_entry dirs to other ≡ Some number → dirs number ≡ [])
    (outside : is_prefix (source ++ part ∷ []) (target ++ other ∷ []) ≡ false) where
  dir : is_dir from ≡ true
  dir = entry_in_directory _ _ _ are from part held has

  -- the new name doesn't have the old name as a prefix
  pub beyond : (rest : Components) → target ++ other ∷ [] ≢ (source ++ part ∷ []) ++ rest
  beyond rest = apart_from (source ++ part ∷ []) (target ++ other ∷ []) rest outside

  differ : to ≡ from → other ≡ part → ⊥
  differ at same =
      let met : target ≡ source = are.single from target source dir (reach_to ∙ ap (λ (n : ℕ). Some n) at) reach in
      beyond [] (ap (λ (a : Components). a ++ other ∷ []) met ∙ ap (λ (p : List ℕ). source ++ p ∷ []) same ∙ sym (append-nil (source ++ part ∷ [])))

  moved_apart : (number : ℕ) (q : List ℕ) → (number ≡ from → q ≡ part → ⊥) → (number ≡ to → q ≡ other → ⊥) → dir_entry (with_moved dirs from part to other held) number q ≡ dir_entry dirs number q
  moved_apart number q here there =
      entry-without_apart (with_entry dirs to other held) from part number q (sorted-with_entry dirs to other held number (are.sorted number)) here
      ∙ entry-with_apart dirs to other held number q there

  moved_gone : dir_entry (with_moved dirs from part to other held) from part ≡ None
  moved_gone = entry-without_here (with_entry dirs to other held) from part (sorted-with_entry dirs to other held from (are.sorted from))

  moved_there : dir_entry (with_moved dirs from part to other held) to other ≡ Some held
  moved_there =
      entry-without_apart (with_entry dirs to other held) from part to other (sorted-with_entry dirs to other held to (are.sorted to)) differ
      ∙ entry-with_here dirs to other held

  moved_kept : (number : ℕ) → number ≢ from → number ≢ to → with_moved dirs from part to other held number ≡ dirs number
  moved_kept number here there = without_entry_apart (with_entry dirs to other held) from part number here ∙ with_entry_apart dirs to other held number there

  -- ---- names that have neither name as a prefix

  -- a name whose way has neither entry leads where it led before
  alike_from : (base : Components) (at : ℕ) (name : Components) → object_from dirs 1 base ≡ Some at
      → ((front back : Components) → name ≡ front ++ part ∷ back → base ++ front ≢ source) → ((front back : Components) → name ≡ front ++ other ∷ back → base ++ front ≢ target)
      → object_from (with_moved dirs from part to other held) at name ≡ object_from dirs at name
  alike_from base at name based not_source not_target = leads_alike dirs (with_moved dirs from part to other held) at name (λ front q back number split there.
      let led : object_from dirs 1 (base ++ front) ≡ Some number = leads_on dirs 1 at base front based ∙ there in
      moved_apart number q
      (λ here same. not_source front back (split ∙ ap (λ (p : List ℕ). front ++ p ∷ back) same) (are.single from (base ++ front) source dir (led ∙ ap (λ (n : ℕ). Some n) here) reach))
      (λ here same. not_target front back (split ∙ ap (λ (p : List ℕ). front ++ p ∷ back) same) (are.single to (base ++ front) target dir_to (led ∙ ap (λ (n : ℕ). Some n) here) reach_to)))

  -- a name that has neither name as a prefix leads where it led before
  pub moved_elsewhere : (name : Components) → is_prefix (source ++ part ∷ []) name ≡ false → is_prefix (target ++ other ∷ []) name ≡ false → object_from (with_moved dirs from part to other held) 1 name ≡ object_from dirs 1 name
  moved_elsewhere name not_old not_new = alike_from [] 1 name refl
      (λ front back split met. apart_from (source ++ part ∷ []) name back not_old (split ∙ ap (λ (a : Components). a ++ part ∷ back) met ∙ sym (append-end source part back)))
      (λ front back split met. apart_from (target ++ other ∷ []) name back not_new (split ∙ ap (λ (a : Components). a ++ other ∷ back) met ∙ sym (append-end target other back)))

  -- ---- names that have one of the two names as a prefix

  -- before the rename no longer name with the new name as a prefix led to an object
  pub bare_beyond : (next : List ℕ) (rest : Components) → object_from dirs 1 ((target ++ other ∷ []) ++ next ∷ rest) ≡ None
  bare_beyond next rest =
      ap (object_from dirs 1) (append-end target other (next ∷ rest)) ∙ leads_on dirs 1 to target (other ∷ next ∷ rest) reach_to ∙ bare_end dirs (dir_entry dirs to other) next rest bare

  -- if a name with the new name as a prefix led to an object, it was the new name's own object
  bare_target : (rest : Components) (number : ℕ) → object_from dirs 1 ((target ++ other ∷ []) ++ rest) ≡ Some number → dir_entry dirs to other ≡ Some number
  bare_target [] number is = sym (leads_end dirs 1 to target other reach_to) ∙ ap (object_from dirs 1) (sym (append-nil (target ++ other ∷ []))) ∙ is
  bare_target (next ∷ rest) number is = let none = bare_beyond next rest in cc

  short_source : is_prefix (source ++ part ∷ []) source ≡ false
  short_source = ap (λ (a : Components). is_prefix a source) (sym (append-nil (source ++ part ∷ []))) ∙ longer_apart source part []

  short_target : is_prefix (target ++ other ∷ []) target ≡ false
  short_target = ap (λ (a : Components). is_prefix a target) (sym (append-nil (target ++ other ∷ []))) ∙ longer_apart target other []

  -- the name of the old name's directory leads where it led before
  pub source_kept : object_from (with_moved dirs from part to other held) 1 source ≡ Some from
  source_kept = moved_elsewhere source short_source (false_from_ne_true _ (λ within.
      let was : dir_entry dirs to other ≡ Some from = bare_target (drop (length (target ++ other ∷ [])) source) from (ap (object_from dirs 1) (sym (begins_rest (target ++ other ∷ []) source within)) ∙ reach) in
      let none : dir_entry dirs from part ≡ None = entry_none dirs from part (bare from was) in
      cc)) ∙ reach

  -- the name of the new name's directory leads where it led before
  pub target_kept : object_from (with_moved dirs from part to other held) 1 target ≡ Some to
  target_kept = moved_elsewhere target (false_from_ne_true _ (λ within.
      beyond (drop (length (source ++ part ∷ [])) target ++ other ∷ [])
      (ap (λ (a : Components). a ++ other ∷ []) (begins_rest (source ++ part ∷ []) target within) ∙ append_assoc (source ++ part ∷ []) (drop (length (source ++ part ∷ [])) target) (other ∷ [])))) short_target ∙ reach_to

  -- a name with the new prefix leads where it led with the old prefix
  pub moved_after : (rest : Components) → object_from (with_moved dirs from part to other held) 1 ((target ++ other ∷ []) ++ rest) ≡ object_from dirs 1 ((source ++ part ∷ []) ++ rest)
  moved_after rest =
      let named : object_from dirs 1 (source ++ part ∷ []) ≡ Some held = leads_end dirs 1 from source part reach ∙ has in
      ap (object_from (with_moved dirs from part to other held) 1) (append-end target other rest)
      ∙ leads_on (with_moved dirs from part to other held) 1 to target (other ∷ rest) target_kept
      ∙ ap (option_and_then (λ number. object_from (with_moved dirs from part to other held) number rest)) moved_there
      ∙ alike_from (source ++ part ∷ []) held rest named
      (λ front back split met. apart_from ((source ++ part ∷ []) ++ front) source [] (longer_apart source part front) (sym met ∙ sym (append-nil ((source ++ part ∷ []) ++ front))))
      (λ front back split met. beyond (front ++ other ∷ []) (ap (λ (a : Components). a ++ other ∷ []) (sym met) ∙ append_assoc (source ++ part ∷ []) front (other ∷ [])))
      ∙ sym (leads_on dirs 1 held (source ++ part ∷ []) rest named)

  -- a name with the old prefix leads to no object
  pub moved_away : (rest : Components) → object_from (with_moved dirs from part to other held) 1 ((source ++ part ∷ []) ++ rest) ≡ None
  moved_away rest =
      ap (object_from (with_moved dirs from part to other held) 1) (append-end source part rest)
      ∙ leads_on (with_moved dirs from part to other held) 1 from source (part ∷ rest) source_kept
      ∙ ap (option_and_then (λ number. object_from (with_moved dirs from part to other held) number rest)) moved_gone

  -- ---- every name

  abbrev leads_after : Bool → Bool → Components → Option ℕ
  leads_after to_new to_old name = if to_new then object_from dirs 1 ((source ++ part ∷ []) ++ drop (length (target ++ other ∷ [])) name) else if to_old then None else object_from dirs 1 name

  -- a name with the new prefix leads where it led with the old prefix, a name with the old prefix leads to no object, and each other
  -- name leads where it led before
  pub leads-renamed : (name : Components) → object_from (with_moved dirs from part to other held) 1 name
      ≡ (if is_prefix (target ++ other ∷ []) name then object_from dirs 1 ((source ++ part ∷ []) ++ drop (length (target ++ other ∷ [])) name) else if is_prefix (source ++ part ∷ []) name then None else object_from dirs 1 name)
  leads-renamed name = by (is_prefix (target ++ other ∷ []) name) (is_prefix (source ++ part ∷ []) name) refl refl where
    by : (to_new to_old : Bool) → is_prefix (target ++ other ∷ []) name ≡ to_new → is_prefix (source ++ part ∷ []) name ≡ to_old → object_from (with_moved dirs from part to other held) 1 name ≡ leads_after to_new to_old name
    by true to_old p q =
        ap (object_from (with_moved dirs from part to other held) 1) (begins_rest (target ++ other ∷ []) name p) ∙ moved_after (drop (length (target ++ other ∷ [])) name)
    by false true p q =
        ap (object_from (with_moved dirs from part to other held) 1) (begins_rest (source ++ part ∷ []) name q) ∙ moved_away (drop (length (source ++ part ∷ [])) name)
    by false false p q = moved_elsewhere name q p

  -- ---- `AreDirectories` after the rename

  moved_numbered : (number : ℕ) (q : List ℕ) (kept : ℕ) → dir_entry (with_moved dirs from part to other held) number q ≡ Some kept → (1 < kept) × (kept ≤ count)
  moved_numbered number q kept is = ⊎_elim
      (λ there.
      let same = (is_here-Decides to other number q).0 there in
      let stands : dir_entry (with_moved dirs from part to other held) number q ≡ Some held =
      ap (λ (n : ℕ). dir_entry (with_moved dirs from part to other held) n q) same.0 ∙ ap (dir_entry (with_moved dirs from part to other held) to) same.1 ∙ moved_there in
      let one : held ≡ kept = cc in
      subst (λ (n : ℕ). (1 < n) × (n ≤ count)) one (are.numbered from part held has))
      (λ not_there. ⊎_elim
      (λ here.
      let same = (is_here-Decides from part number q).0 here in
      let none : dir_entry (with_moved dirs from part to other held) number q ≡ None =
      ap (λ (n : ℕ). dir_entry (with_moved dirs from part to other held) n q) same.0 ∙ ap (dir_entry (with_moved dirs from part to other held) from) same.1 ∙ moved_gone in
      cc)
      (λ not_here. are.numbered number q kept (sym (moved_apart number q
      (λ at same. both_ways _ not_here ((is_here-Decides from part number q).1 (at, same)))
      (λ at same. both_ways _ not_there ((is_here-Decides to other number q).1 (at, same)))) ∙ is))
      (cases_Bool (is_here from part number q)))
      (cases_Bool (is_here to other number q))

  -- a name with the new prefix and a name without the old prefix led to one directory only if they are equal
  moved_two : (number : ℕ) (name second : Components) → is_prefix (target ++ other ∷ []) name ≡ true → is_prefix (source ++ part ∷ []) second ≡ false → is_dir number ≡ true
      → object_from dirs 1 ((source ++ part ∷ []) ++ drop (length (target ++ other ∷ [])) name) ≡ Some number → object_from dirs 1 second ≡ Some number → name ≡ second
  moved_two number name second p q d h k = absurd (apart_from (source ++ part ∷ []) second (drop (length (target ++ other ∷ [])) name) q (are.single number second _ d k h))

  single_by : (number : ℕ) (name second : Components) (a b c e : Bool) → is_prefix (target ++ other ∷ []) name ≡ a → is_prefix (source ++ part ∷ []) name ≡ b → is_prefix (target ++ other ∷ []) second ≡ c → is_prefix (source ++ part ∷ []) second ≡ e
      → is_dir number ≡ true → leads_after a b name ≡ Some number → leads_after c e second ≡ Some number → name ≡ second
  single_by number name second true b true e p q r s d h k =
      begins_rest (target ++ other ∷ []) name p
      ∙ ap (λ (rest : Components). (target ++ other ∷ []) ++ rest) (append_cancel_left (source ++ part ∷ []) (drop (length (target ++ other ∷ [])) name) (drop (length (target ++ other ∷ [])) second) (are.single number _ _ d h k))
      ∙ sym (begins_rest (target ++ other ∷ []) second r)
  single_by number name second true b false true p q r s d h k = cc
  single_by number name second true b false false p q r s d h k = moved_two number name second p s d h k
  single_by number name second false true c e p q r s d h k = cc
  single_by number name second false false true e p q r s d h k = sym (moved_two number second name r q d k h)
  single_by number name second false false false true p q r s d h k = cc
  single_by number name second false false false false p q r s d h k = are.single number name second d h k

  moved_lost : (number : ℕ) → ((name : Components) → object_from (with_moved dirs from part to other held) 1 name ≢ Some number) → with_moved dirs from part to other held number ≡ []
  moved_lost number none =
      moved_kept number (λ at. none source (source_kept ∙ ap (λ (n : ℕ). Some n) (sym at))) (λ at. none target (target_kept ∙ ap (λ (n : ℕ). Some n) (sym at)))
      ∙ ⊎_elim
      (bare number)
      (λ differs. are.lost number (λ name is. by name is (is_prefix (target ++ other ∷ []) name) (is_prefix (source ++ part ∷ []) name) refl refl (λ was. differs was)))
      (has_or_not (dir_entry dirs to other) number) where
        by : (name : Components) → object_from dirs 1 name ≡ Some number → (to_new to_old : Bool) → is_prefix (target ++ other ∷ []) name ≡ to_new → is_prefix (source ++ part ∷ []) name ≡ to_old → (dir_entry dirs to other ≡ Some number → ⊥) → ⊥
        by name is to_new true p q differs =
            none ((target ++ other ∷ []) ++ drop (length (source ++ part ∷ [])) name) (moved_after (drop (length (source ++ part ∷ [])) name) ∙ ap (object_from dirs 1) (sym (begins_rest (source ++ part ∷ []) name q)) ∙ is)
        by name is true false p q differs = differs (bare_target (drop (length (target ++ other ∷ [])) name) number (ap (object_from dirs 1) (sym (begins_rest (target ++ other ∷ []) name p)) ∙ is))
        by name is false false p q differs = none name (moved_elsewhere name q p ∙ is)

  -- the entries still form a tree after a rename
  pub directories-renamed : AreDirectories count is_dir (with_moved dirs from part to other held)
  directories-renamed = record {
    root = are.root;
    made = are.made;
    sorted = λ number. sorted-without_entry (with_entry dirs to other held) from part number (sorted-with_entry dirs to other held number (are.sorted number));
    numbered = moved_numbered;
    only = λ number plain.
        moved_kept number (λ at. plain (ap is_dir at ∙ dir)) (λ at. plain (ap is_dir at ∙ dir_to)) ∙ are.only number plain;
    single = λ number name second d h k. single_by number name second _ _ _ _ refl refl refl refl d (sym (leads-renamed name) ∙ h) (sym (leads-renamed second) ∙ k);
    lost = moved_lost;
  }
