-- Undoing the last open.
use Rattle.std.proofs.Common.{◌≡◌, ◌∙◌, ℕ, ◌-◌, ◌<◌, Bool, true, false, List, [], ◌∷◌, ◌++◌, Option, Some, None, length, get_or, set, take, refl, ap, sym, subst, arith}
use Rattle.std.proofs.Math.Seq.{take-append_seam}
use Rattle.std.proofs.lemmas.Bool.{true≢false}
use Rattle.std.proofs.lemmas.Cmp.{nat_cmp_total}
use Rattle.std.proofs.lemmas.List.{length-append, set-set, set-get_or}
use Rattle.std.proofs.lemmas.List.Quantifiers.{position-Some}
use Rattle.std.proofs.lemmas.Map.{keys-set_value}
use Rattle.std.proofs.lemmas.Map.Steps.{set_value_same}
use Rattle.std.specs.Prelude.{is_none, is_some}
use Rattle.std.specs.Option.{unwrap_or}
use Rattle.std.specs.Ordering.{nat_cmp}
use Rattle.std.specs.Map.{lookup, keys_of, set_value}
use Rattle.std.specs.List.Sorted.{IsStrictlySortedBy}
use Rattle.std.specs.BTreeMap.{insert_entry, is_at}
use Rattle.st_model.specs.DescriptorCalls.{table_after_open_at}
use Rattle.st_model.specs.Descriptors.{Table, has_table, places_in}
use Rattle.st_base.proofs.Insertions.{lookup-inserted}
use Rattle.st_fds.specs.Table.{WasOpened}
use Rattle.st_fds.proofs.Entries.{written}

module _ {K X : Type 0} (test : K → Bool) (v w : X) where
  twice_by : (b : Bool) (e : K × X) (es : List (K × X)) → test e.0 ≡ b → set_value test (set_value test es v) w ≡ set_value test es w → set_value test (set_value test (e ∷ es) v) w ≡ set_value test (e ∷ es) w
  twice_by true e es is more = rw (is, is) refl
  twice_by false e es is more = rw (is, is) (ap (λ xs. e ∷ xs) more)

  -- a value that is written twice
  twice : (es : List (K × X)) → set_value test (set_value test es v) w ≡ set_value test es w
  twice [] = refl
  twice (e ∷ es) = twice_by (test e.0) e es refl (twice es)

there : (o : Option (List (Option ℕ))) → is_some o ≡ true → o ≡ Some (unwrap_or o [])
there None has = absurd (true≢false (sym has))
there (Some places) has = refl

none_is : (place : Option ℕ) → is_none place ≡ true → place ≡ None
none_is None free = refl
none_is (Some number) free = absurd (true≢false (sym free))

-- the places of a process that are replaced and then restored
put_back : (es : List (ℕ × List (Option ℕ))) (pid : ℕ) (new : List (Option ℕ)) → IsStrictlySortedBy nat_cmp (keys_of es) → is_some (lookup (is_at (nat_cmp pid)) es) ≡ true
    → insert_entry nat_cmp (insert_entry nat_cmp es pid new) pid (places_in es pid) ≡ es
put_back es pid new sorted has =
    let test = is_at (nat_cmp pid) in
    let old = places_in es pid in
    let first = written nat_cmp_total pid new es sorted has in
    let sorted_then : IsStrictlySortedBy nat_cmp (keys_of (insert_entry nat_cmp es pid new)) =
    subst (λ ks. IsStrictlySortedBy nat_cmp ks) (sym (keys-set_value test es new) ∙ ap keys_of first) sorted in
    let has_then : is_some (lookup test (insert_entry nat_cmp es pid new)) ≡ true = ap is_some (lookup-inserted pid new es) in
    sym (written nat_cmp_total pid old (insert_entry nat_cmp es pid new) sorted_then has_then)
    ∙ ap (λ xs. set_value test xs old) (sym first)
    ∙ twice test new old es
    ∙ set_value_same test es old (there (lookup test es) has)

-- a free place that is taken and then freed
freed : (es : List (ℕ × List (Option ℕ))) (pid fd : ℕ) (number : Option ℕ) → IsStrictlySortedBy nat_cmp (keys_of es) → is_some (lookup (is_at (nat_cmp pid)) es) ≡ true → get_or (places_in es pid) fd None ≡ None
    → insert_entry nat_cmp (insert_entry nat_cmp es pid (set (places_in es pid) fd number)) pid (set (places_in (insert_entry nat_cmp es pid (set (places_in es pid) fd number)) pid) fd None) ≡ es
freed es pid fd number sorted has free =
    let places = places_in es pid in
    let opened = insert_entry nat_cmp es pid (set places fd number) in
    let at : places_in opened pid ≡ set places fd number = ap (λ found. unwrap_or found []) (lookup-inserted pid (set places fd number) es) in
    let back : set (places_in opened pid) fd None ≡ places =
    ap (λ these. set these fd None) at ∙ set-set places fd number None ∙ ap (λ place. set places fd place) (sym free) ∙ set-get_or places fd None in
    ap (insert_entry nat_cmp opened pid) back ∙ put_back es pid (set places fd number) sorted has

module _ (before : Table) (pid fd : ℕ) (after : Table) (was : WasOpened before pid fd after) where
  place : (fd < length (places_in before.processes pid)) × (is_none (get_or (places_in before.processes pid) fd None) ≡ true) × ((k : ℕ) → k < fd → is_none (get_or (places_in before.processes pid) k None) ≡ false)
  place = position-Some is_none (places_in before.processes pid) fd None was.descriptor

  opened : after ≡ table_after_open_at before pid was.file (Some fd)
  opened = was.is ∙ ap (table_after_open_at before pid was.file) was.descriptor

  processes_are : after.processes ≡ insert_entry nat_cmp before.processes pid (set (places_in before.processes pid) fd (Some (length before.files)))
  processes_are = ap (λ (t : Table). t.processes) opened

  files_are : after.files ≡ before.files ++ was.file ∷ []
  files_are = ap (λ (t : Table). t.files) opened

  pub still_has : has_table after pid ≡ true
  still_has = ap (λ es. is_some (lookup (is_at (nat_cmp pid)) es)) processes_are ∙ ap is_some (lookup-inserted pid (set (places_in before.processes pid) fd (Some (length before.files))) before.processes)

  pub processes_back : insert_entry nat_cmp after.processes pid (set (places_in after.processes pid) fd None) ≡ before.processes
  processes_back =
      ap (λ es. insert_entry nat_cmp es pid (set (places_in es pid) fd None)) processes_are
      ∙ freed before.processes pid fd (Some (length before.files)) was.ordered was.has (none_is (get_or (places_in before.processes pid) fd None) place.1)

  pub files_back : take (length after.files - 1) after.files ≡ before.files
  files_back =
      let count : length after.files - 1 ≡ length before.files = omega (arith, ap length files_are, length-append before.files (was.file ∷ [])) in
      ap (λ n. take n after.files) count ∙ ap (take (length before.files)) files_are ∙ take-append_seam before.files (was.file ∷ [])

-- a descriptor that was given is below the limit of a process
pub given_within : (count : ℕ) (before : Table) (pid fd : ℕ) (after : Table) → WasOpened before pid fd after → length (places_in before.processes pid) ≡ count → fd < count
given_within count before pid fd after was are = omega (arith, (place before pid fd after was).0, are)
