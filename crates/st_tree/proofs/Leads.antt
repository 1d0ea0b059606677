-- Where names lead, and names that have others as prefixes.
use Rattle.std.proofs.Common.{◌≡◌, ◌≢◌, ◌⊎◌, inl, inr, ⊎_elim, ◌≤◌, ap, refl, sym, ◌∙◌, subst₂, ℕ, Bool, false, List, [], ◌∷◌, ◌++◌, length, drop, Option, Some, None, option_and_then, arith}
use Rattle.std.proofs.lemmas.Bool.{cases_eq, false≢true, false_from_ne_true}
use Rattle.std.proofs.lemmas.List.{append_assoc, length-append}
use Rattle.std.specs.BTreeMap.{is_at}
use Rattle.std.specs.Cmp.Lexicographic.{slice_cmp}
use Rattle.std.specs.Map.{lookup}
use Rattle.std.specs.Ordering.{nat_cmp}
use Rattle.st_names.specs.Name.{Components}
use Rattle.st_model.specs.Tree.{is_prefix}
use Rattle.st_model.proofs.Ordered.{begins_longer, begins_rest}
use Rattle.st_tree.proofs.Flat.{leads-append, reached_numbered}
use Rattle.st_tree.specs.Paths.{Entries, AreDirectories, dir_entry, object_from}

-- a name in two parts leads where its second part leads from the object of the first
pub leads_on : (dirs : ℕ → Entries) (from at : ℕ) (name rest : Components) → object_from dirs from name ≡ Some at → object_from dirs from (name ++ rest) ≡ object_from dirs at rest
leads_on dirs from at name rest is = leads-append dirs from name rest ∙ ap (option_and_then (λ number. object_from dirs number rest)) is

-- the empty name leads from an object to itself
pub ends_there : (dirs : ℕ → Entries) (held : Option ℕ) → option_and_then (λ number. object_from dirs number []) held ≡ held
ends_there dirs None = refl
ends_there dirs (Some number) = refl

-- a name with one more component leads to that component's object in the directory to which the name leads
pub leads_end : (dirs : ℕ → Entries) (from at : ℕ) (name : Components) (part : List ℕ) → object_from dirs from name ≡ Some at → object_from dirs from (name ++ part ∷ []) ≡ dir_entry dirs at part
leads_end dirs from at name part is = leads_on dirs from at name (part ∷ []) is ∙ ends_there dirs (dir_entry dirs at part)

-- a name leads to the same object if each of its components has the same object in both
pub leads_alike : (dirs others : ℕ → Entries) (from : ℕ) (name : Components)
    → ((front : Components) (part : List ℕ) (back : Components) (number : ℕ) → name ≡ front ++ part ∷ back → object_from dirs from front ≡ Some number → dir_entry others number part ≡ dir_entry dirs number part)
    → object_from others from name ≡ object_from dirs from name
leads_alike dirs others from [] same = refl
leads_alike dirs others from (part ∷ rest) same =
    ap (option_and_then (λ number. object_from others number rest)) (same [] part rest from refl refl)
    ∙ by (dir_entry dirs from part) (λ number is. leads_alike dirs others number rest (λ front next back at split there.
    same (part ∷ front) next back at (ap (λ (tail : Components). part ∷ tail) split) (ap (option_and_then (λ other. object_from dirs other front)) is ∙ there))) where
      by : (held : Option ℕ) → ((number : ℕ) → held ≡ Some number → object_from others number rest ≡ object_from dirs number rest) → option_and_then (λ number. object_from others number rest) held ≡ option_and_then (λ number. object_from dirs number rest) held
      by None more = refl
      by (Some number) more = more number refl

-- no component has an object in an object without entries
pub entry_none : (dirs : ℕ → Entries) (number : ℕ) (part : List ℕ) → dirs number ≡ [] → dir_entry dirs number part ≡ None
entry_none dirs number part bare = ap (lookup (is_at (slice_cmp nat_cmp part))) bare

-- no name leads on from an object without entries
pub leads_none : (dirs : ℕ → Entries) (number : ℕ) (part : List ℕ) (rest : Components) → dirs number ≡ [] → object_from dirs number (part ∷ rest) ≡ None
leads_none dirs number part rest bare = ap (option_and_then (λ other. object_from dirs other rest)) (entry_none dirs number part bare)

-- no name leads on from an object without entries, or from none
pub bare_end : (dirs : ℕ → Entries) (held : Option ℕ) (next : List ℕ) (rest : Components) → ((number : ℕ) → held ≡ Some number → dirs number ≡ []) → option_and_then (λ number. object_from dirs number (next ∷ rest)) held ≡ None
bare_end dirs None next rest bare = refl
bare_end dirs (Some number) next rest bare = leads_none dirs number next rest (bare number refl)

-- an option is this number, or it isn't
pub has_or_not : (o : Option ℕ) (number : ℕ) → (o ≡ Some number) ⊎ (o ≡ Some number → ⊥)
has_or_not None number = inr (λ e. cc)
has_or_not (Some other) number = ⊎_elim (λ same. inl (ap (λ (n : ℕ). Some n) same)) (λ differs. inr (λ (e : Some other ≡ Some number). differs cc)) (cases_eq other number)

-- a number of no object has no entries
pub unmade : {count : ℕ} {is_dir : ℕ → Bool} {dirs : ℕ → Entries} → AreDirectories count is_dir dirs → (number : ℕ) → ¬ (number ≤ count) → dirs number ≡ []
unmade are number above = are.lost number (λ name is. above (reached_numbered _ _ _ are name number is).1)

-- names lead to the same objects if the entries of each directory are equal
pub leads_equal : (dirs others : ℕ → Entries) → ((number : ℕ) → others number ≡ dirs number) → (from : ℕ) (name : Components) → object_from others from name ≡ object_from dirs from name
leads_equal dirs others same from name = λ i. object_from (λ number. same number i) from name

-- `AreDirectories` holds of equal entries too
pub same_directories : {count : ℕ} {is_dir is_dir_now : ℕ → Bool} {dirs others : ℕ → Entries} → ((number : ℕ) → is_dir_now number ≡ is_dir number) → ((number : ℕ) → others number ≡ dirs number) → AreDirectories count is_dir dirs → AreDirectories count is_dir_now others
same_directories {count} alike same are = subst₂ (AreDirectories count) (λ i number. sym (alike number) i) (λ i number. sym (same number) i) are

-- ---- names that have others as prefixes

-- a name that doesn't have a prefix isn't that prefix followed by a rest
pub apart_from : (name other rest : Components) → is_prefix name other ≡ false → other ≢ name ++ rest
apart_from name other rest refused is = false≢true (sym refused ∙ ap (is_prefix name) is ∙ begins_longer name rest)

-- a longer name is no prefix of a name
pub longer_apart : (name : Components) (part : List ℕ) (rest : Components) → is_prefix ((name ++ part ∷ []) ++ rest) name ≡ false
longer_apart name part rest = false_from_ne_true _ (λ yes.
    let longer : length name ≡ length (((name ++ part ∷ []) ++ rest) ++ drop (length ((name ++ part ∷ []) ++ rest)) name) = ap length (begins_rest ((name ++ part ∷ []) ++ rest) name yes) in
    omega (arith, simp length-append at longer))

-- a last component and the rest after it can be joined first
pub append-end : (name : Components) (part : List ℕ) (rest : Components) → (name ++ part ∷ []) ++ rest ≡ name ++ part ∷ rest
append-end name part rest = append_assoc name (part ∷ []) rest
