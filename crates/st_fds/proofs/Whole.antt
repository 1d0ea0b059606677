-- What keeps a table whole, and what a whole table says about its descriptors.
use Rattle.std.proofs.Common.{◌≡◌, ℕ, ◌+◌, ◌<◌, ◌≤◌, Bool, true, false, cond, List, [], ◌∷◌, Option, Some, None, inl, inr, length, get_or, set, replicate, refl, ap, sym, ◌∙◌, subst, arith}
use Rattle.std.proofs.lemmas.Bool.{true≢false, ltb-true, ltb-false, not-false}
use Rattle.std.proofs.lemmas.List.{length-set}
use Rattle.std.proofs.lemmas.List.Elements.{All-set, All-cons, All-replicate}
use Rattle.std.proofs.lemmas.List.Sums.{prefix_len_passes, prefix_len_stops}
use Rattle.std.proofs.lemmas.Map.Views.{All-values-insert_entry, All-map-remove_entry, IfSome-lookup_from_All}
use Rattle.std.proofs.lemmas.Option.{cond_some, none-some, slice_get_cases}
use Rattle.std.specs.Prelude.{is_some, is_none, not, IfSome, IfNone, slice_get, nat_lt}
use Rattle.std.specs.Option.{unwrap_or}
use Rattle.std.specs.Ordering.{nat_cmp}
use Rattle.std.specs.Map.{lookup, remove_entry, values_of}
use Rattle.std.specs.BTreeMap.{insert_entry, is_at}
use Rattle.std.specs.List.{prefix_len}
use Rattle.st_model.specs.declared.open_file.OpenFile.{OpenFile}
use Rattle.st_model.specs.declared.open_file.TheConstants.{DESCRIPTORS}
use Rattle.st_model.specs.DescriptorCalls.{all_free, first_three_places}
use Rattle.st_model.specs.Descriptors.{Table, has_table, places_in, file_of_number, least_free, file_number_at}
use Rattle.st_fds.specs.Table.{IsDescriptorPlace, ArePlaces, IsValidTable, IsLeastFree, AreOpenBelow}

-- a place is still one when there are more open files
place_more : (m n : ℕ) (place : Option ℕ) → m ≤ n → IsDescriptorPlace m place → IsDescriptorPlace n place
place_more m n None more is = tt
place_more m n (Some number) more is = omega arith

pub places_more : (m n : ℕ) (places : List (Option ℕ)) → m ≤ n → ArePlaces m places → ArePlaces n places
places_more m n places more are = (are.0, λ k d inside. place_more m n (get_or places k d) more (are.1 k d inside))

pub whole-more_files : (m n : ℕ) (es : List (ℕ × List (Option ℕ))) → m ≤ n → IsValidTable es m → IsValidTable es n
whole-more_files m n es larger whole = λ k d inside. places_more m n (get_or (values_of es) k d) larger (whole k d inside)

-- the places of a process are still such after one of them changes
pub places-set : (count : ℕ) (places : List (Option ℕ)) (fd : ℕ) (place : Option ℕ) → IsDescriptorPlace count place → ArePlaces count places → ArePlaces count (set places fd place)
places-set count places fd place is are = (length-set places fd place ∙ are.0, All-set (IsDescriptorPlace count) places fd place is are.1)

-- a table is still whole after the places of one process change
pub whole-put : (count : ℕ) (es : List (ℕ × List (Option ℕ))) (pid : ℕ) (places : List (Option ℕ)) → IsValidTable es count → ArePlaces count places → IsValidTable (insert_entry nat_cmp es pid places) count
whole-put count es pid places whole are = All-values-insert_entry nat_cmp pid places (ArePlaces count) es whole are

pub taken_away : (count : ℕ) (es : List (ℕ × List (Option ℕ))) (pid : ℕ) → IsValidTable es count → IsValidTable (remove_entry (is_at (nat_cmp pid)) es) count
taken_away count es pid whole = All-map-remove_entry (is_at (nat_cmp pid)) (λ e. e.1) (ArePlaces count) es whole

-- all descriptors free, and the three that a process starts with
pub free_places : (count : ℕ) → ArePlaces count all_free
free_places count = (refl, All-replicate (IsDescriptorPlace count) 64 None tt)

pub three_places : (first : ℕ) → ArePlaces (first + 3) (first_three_places first)
three_places first =
    let none : List (Option ℕ) = replicate 61 None in
    let Is : Option ℕ → Type 0 = IsDescriptorPlace (first + 3) in
    let third = All-cons Is (Some (first + 2)) none (omega arith) (All-replicate Is 61 None tt) in
    let second = All-cons Is (Some (first + 1)) (Some (first + 2) ∷ none) (omega arith) third in
    (refl, All-cons Is (Some first) (Some (first + 1) ∷ Some (first + 2) ∷ none) (omega arith) second)

-- the places of a process that has a table
found : (count : ℕ) (o : Option (List (Option ℕ))) → is_some o ≡ true → IfSome o (ArePlaces count) → ArePlaces count (unwrap_or o [])
found count None has are = absurd (true≢false (sym has))
found count (Some places) has are = are

pub places_at : (count : ℕ) (es : List (ℕ × List (Option ℕ))) (pid : ℕ) → is_some (lookup (is_at (nat_cmp pid)) es) ≡ true → IsValidTable es count → ArePlaces count (places_in es pid)
places_at count es pid has whole = found count (lookup (is_at (nat_cmp pid)) es) has (IfSome-lookup_from_All (ArePlaces count) (is_at (nat_cmp pid)) es whole)

-- a process that has a table in one of two equal tables has one in the other
pub fields_have : (t u : Table) (pid : ℕ) → t ≡ u → has_table u pid ≡ true → has_table t pid ≡ true
fields_have t u pid is has = subst (λ v. has_table v pid ≡ true) (sym is) has

-- one place of a process changes, and there may be more open files
pub one_place : (m n : ℕ) (es new : List (ℕ × List (Option ℕ))) (pid fd : ℕ) (place : Option ℕ) (places : List (Option ℕ)) → IsValidTable es m → is_some (lookup (is_at (nat_cmp pid)) es) ≡ true → places ≡ places_in es pid → new ≡ insert_entry nat_cmp es pid (set places fd place) → m ≤ n → IsDescriptorPlace n place → IsValidTable new n
one_place m n es new pid fd place places whole has places_are new_is larger is =
    let before = places_more m n places larger (subst (ArePlaces m) (sym places_are) (places_at m es pid has whole)) in
    subst (λ es. IsValidTable es n) (sym new_is) (whole-put n es pid (set places fd place) (whole-more_files m n es larger whole) (places-set n places fd place is before))

-- a number below the count of open files has one
there : (files : List OpenFile) (number : ℕ) → number < length files → is_some (slice_get files number) ≡ true
there files number inside = elim (slice_get_cases files number).1 [
  | inl at ↦ ap is_some at.2
  | inr past ↦ absurd (omega (arith, past.0, inside))
]

leads : (files : List OpenFile) (place : Option ℕ) → IsDescriptorPlace (length files) place → not (is_none place) ≡ true → is_some (file_of_number files place) ≡ true
leads files None is taken = absurd (true≢false (sym taken))
leads files (Some number) is taken = there files number is

free_leads : (files : List OpenFile) (place : Option ℕ) → is_none place ≡ true → file_of_number files place ≡ None
free_leads files None free = refl
free_leads files (Some number) free = absurd (true≢false (sym free))

module _ (t : Table) (pid : ℕ) (are : ArePlaces (length t.files) (places_in t.processes pid)) where
  -- each descriptor below the first free place is open
  open_below : (fd : ℕ) → fd ≤ prefix_len (λ place. not (is_none place)) (places_in t.processes pid) → fd ≤ 64 → AreOpenBelow t pid fd
  open_below fd place_within most other below = leads t.files (file_number_at t pid other) (are.1 other None (omega (arith, are.0))) (prefix_len_passes (λ place. not (is_none place)) (places_in t.processes pid) other None (omega arith))

  pub least : (fd : ℕ) → least_free t pid ≡ Some fd → IsLeastFree t pid fd
  least fd is =
      let places = places_in t.processes pid in
      let n = prefix_len (λ place. not (is_none place)) places in
      let first = cond_some (nat_lt n (length places)) n fd is in
      let inside : n < length places = ltb-true n (length places) first.0 in
      let free : is_none (get_or places n None) ≡ true = not-false (is_none (get_or places n None)) (prefix_len_stops (λ place. not (is_none place)) places None inside) in
      subst (λ fd. IsLeastFree t pid fd) first.1 record {
        within = omega (arith, inside, are.0);
        free = free_leads t.files (get_or places n None) free;
        least = open_below n (omega arith) (omega (arith, inside, are.0));
      }

  full_by : (b : Bool) (n : ℕ) → nat_lt n (length (places_in t.processes pid)) ≡ b → n ≡ prefix_len (λ place. not (is_none place)) (places_in t.processes pid) → cond b (Some n) None ≡ None → AreOpenBelow t pid 64
  full_by true n is n_is none = absurd (none-some n (sym none))
  full_by false n is n_is none = open_below 64 (omega (arith, are.0, n_is, ltb-false n (length (places_in t.processes pid)) is)) (omega arith)

  pub full : least_free t pid ≡ None → AreOpenBelow t pid 64
  full is = full_by _ (prefix_len (λ place. not (is_none place)) (places_in t.processes pid)) refl refl is

-- a place in one of two equal tables is one in the other
pub place_within : (t u : Table) (place : Option ℕ) → t ≡ u → IsDescriptorPlace (length t.files) place → IfSome place (λ number. number < length u.files)
place_within t u None same is = tt
place_within t u (Some number) same is = subst (λ v. number < length v.files) same is

pub least_of : (t u : Table) (pid : ℕ) (found : Option ℕ) → t ≡ u → ArePlaces (length t.files) (places_in t.processes pid) → least_free t pid ≡ found → IfSome found (λ fd. IsLeastFree u pid fd)
least_of t u pid None same are is = tt
least_of t u pid (Some fd) same are is = subst (λ v. IsLeastFree v pid fd) same (least t pid are fd is)

pub full_of : (t u : Table) (pid : ℕ) (found : Option ℕ) → t ≡ u → ArePlaces (length t.files) (places_in t.processes pid) → least_free t pid ≡ found → IfNone found (AreOpenBelow u pid DESCRIPTORS)
full_of t u pid None same are is = subst (λ v. AreOpenBelow v pid DESCRIPTORS) same (full t pid are is)
full_of t u pid (Some fd) same are is = tt
