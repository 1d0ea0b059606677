-- Descriptors that refer to one open file, and how a change of that file affects others.
use Rattle.std.proofs.Common.{◌≡◌, ◌≢◌, zero, suc, ℕ, ◌<◌, List, [], ◌∷◌, Option, Some, None, length, get_or, set, refl, ap, sym, ◌∙◌, subst, arith}
use Rattle.std.proofs.lemmas.List.{get_or-set_same, get_or-set_other, length-set}
use Rattle.std.proofs.lemmas.Option.{none-some, slice_get_within, slice_get-get_or}
use Rattle.std.specs.Prelude.{slice_get}
use Rattle.std.specs.Option.{unwrap_or}
use Rattle.std.specs.declared.result.Result.TheVariants.{Ok}
use Rattle.std.specs.Ordering.{nat_cmp}
use Rattle.std.specs.BTreeMap.{insert_entry}
use Rattle.st_model.specs.declared.open_file.OpenFile.{OpenFile}
use Rattle.st_model.specs.DescriptorCalls.{table_unless_refused, with_changed_file_at, table_after_dup_at, bad_descriptor, table_after_seek}
use Rattle.st_fds.specs.Calls.{dup_result_at}
use Rattle.st_fds.specs.Laws.{ChildrenShare, DuplicatesShare, OffsetsAreShared, OthersStay}
use Rattle.st_model.specs.Descriptors.{Table, file_at, least_free, file_number_at, file_of_number, places_in, with_place}
use Rattle.st_fds.specs.Table.{ArePlaces}
use Rattle.st_base.proofs.Insertions.{lookup-inserted}
use Rattle.st_fds.proofs.Whole.{least, places_at}

put_places : (t : Table) (pid : ℕ) (places : List (Option ℕ)) → places_in (insert_entry nat_cmp t.processes pid places) pid ≡ places
put_places t pid places = ap (λ found. unwrap_or found []) (lookup-inserted pid places t.processes)

pub children_share : ChildrenShare
children_share t from to fd = ap (λ places. get_or places fd None) (put_places t to (places_in t.processes from))

duplicate : (t : Table) (pid fd free : ℕ) → free < length (places_in t.processes pid) → fd ≢ free → file_number_at (with_place t pid free (file_number_at t pid fd)) pid free ≡ file_number_at (with_place t pid free (file_number_at t pid fd)) pid fd
duplicate t pid fd free inside differ =
    let places = places_in t.processes pid in
    let number = file_number_at t pid fd in
    let now = put_places t pid (set places free number) in
    ap (λ these. get_or these free None) now ∙ get_or-set_same places free number None inside
    ∙ sym (ap (λ these. get_or these fd None) now ∙ get_or-set_other places free fd number None differ)

duplicates_by : (t : Table) (pid fd free : ℕ) → ArePlaces (length t.files) (places_in t.processes pid) → (f : Option OpenFile) (l : Option ℕ) → file_at t pid fd ≡ f → least_free t pid ≡ l → dup_result_at f l ≡ Ok free → file_number_at (table_after_dup_at t pid (file_number_at t pid fd) f l) pid free ≡ file_number_at (table_after_dup_at t pid (file_number_at t pid fd) f l) pid fd
duplicates_by t pid fd free are None l f_is l_is answer = cc
duplicates_by t pid fd free are (Some file) None f_is l_is answer = cc
duplicates_by t pid fd free are (Some file) (Some least_one) f_is l_is answer =
    let same : least_one ≡ free = cc in
    let is = least t pid are least_one l_is in
    let differ : fd ≢ least_one = λ e. none-some file (sym is.free ∙ ap (file_at t pid) (sym e) ∙ f_is) in
    subst (λ n. file_number_at (with_place t pid least_one (file_number_at t pid fd)) pid n ≡ file_number_at (with_place t pid least_one (file_number_at t pid fd)) pid fd) same (duplicate t pid fd least_one (omega (arith, is.within, are.0)) differ)

pub duplicates_share : DuplicatesShare
duplicates_share t pid fd free whole has answer =
    duplicates_by t pid fd free (places_at (length t.files) t.processes pid has whole) (file_at t pid fd) (least_free t pid) refl refl answer

slice_get-set_other : {A : Type 0} (xs : List A) (i k : ℕ) (y : A) → k ≢ i → slice_get (set xs i y) k ≡ slice_get xs k
slice_get-set_other [] i k y differ = refl
slice_get-set_other (x ∷ xs) zero zero y differ = absurd (differ refl)
slice_get-set_other (x ∷ xs) zero (suc k) y differ = refl
slice_get-set_other (x ∷ xs) (suc i) zero y differ = refl
slice_get-set_other (x ∷ xs) (suc i) (suc k) y differ = slice_get-set_other xs i k y (λ e. differ (ap suc e))

slice_get-set_same : {A : Type 0} (xs : List A) (i : ℕ) (y : A) → i < length xs → slice_get (set xs i y) i ≡ Some y
slice_get-set_same xs i y inside =
    slice_get-get_or (set xs i y) i y (omega (arith, length-set xs i y, inside)) ∙ ap Some (get_or-set_same xs i y y inside)

offsets_by : (t : Table) (offset : ℕ) (p q : Option ℕ) (number : ℕ) (f : Option OpenFile) (file : OpenFile) → p ≡ Some number → q ≡ Some number → f ≡ Some file → file_of_number t.files p ≡ f → file_of_number (table_unless_refused (bad_descriptor f) t (with_changed_file_at t p f (λ file. record file { offset = offset }))).files q ≡ Some (record file { offset = offset })
offsets_by t offset None q number f file p_is q_is f_is file_is = absurd (none-some number p_is)
offsets_by t offset (Some m) q number None file p_is q_is f_is file_is = absurd (none-some file f_is)
offsets_by t offset (Some m) None number (Some g) file p_is q_is f_is file_is = absurd (none-some number q_is)
offsets_by t offset (Some m) (Some n) number (Some g) file p_is q_is f_is file_is =
    let same : n ≡ m = cc in
    let is : g ≡ file = cc in
    let new : OpenFile = record g { offset = offset } in
    subst (λ k. slice_get (set t.files m new) k ≡ Some (record file { offset = offset })) (sym same)
    (slice_get-set_same t.files m new (slice_get_within t.files m g file_is) ∙ ap (λ (h : OpenFile). Some (record h { offset = offset })) is)

kept : (t : Table) (offset : ℕ) (p : Option ℕ) (f : Option OpenFile) → (table_unless_refused (bad_descriptor f) t (with_changed_file_at t p f (λ file. record file { offset = offset }))).processes ≡ t.processes
kept t offset p None = refl
kept t offset None (Some file) = refl
kept t offset (Some m) (Some file) = refl

-- a descriptor still refers to the same open file
still : (t : Table) (pid fd offset other_pid other : ℕ) → file_at (table_after_seek t pid fd offset) other_pid other ≡ file_of_number (table_after_seek t pid fd offset).files (file_number_at t other_pid other)
still t pid fd offset other_pid other =
    ap (λ processes. file_of_number (table_after_seek t pid fd offset).files (get_or (places_in processes other_pid) other None)) (kept t offset (file_number_at t pid fd) (file_at t pid fd))

pub offsets_are_shared : OffsetsAreShared
offsets_are_shared t pid fd offset other_pid other number file p_is q_is f_is = still t pid fd offset other_pid other ∙ offsets_by t offset (file_number_at t pid fd) (file_number_at t other_pid other) number (file_at t pid fd) file p_is q_is f_is refl

others_by : (t : Table) (offset : ℕ) (p q : Option ℕ) (f : Option OpenFile) → q ≢ p → file_of_number (table_unless_refused (bad_descriptor f) t (with_changed_file_at t p f (λ file. record file { offset = offset }))).files q ≡ file_of_number t.files q
others_by t offset p q None differ = refl
others_by t offset None q (Some file) differ = refl
others_by t offset (Some m) None (Some file) differ = refl
others_by t offset (Some m) (Some n) (Some file) differ = slice_get-set_other t.files m n (record file { offset = offset }) (λ e. differ (ap Some e))

pub others_stay : OthersStay
others_stay t pid fd offset other_pid other differ = still t pid fd offset other_pid other ∙ others_by t offset (file_number_at t pid fd) (file_number_at t other_pid other) (file_at t pid fd) differ
