-- How names lead from object to object.
use Rattle.std.proofs.Common.{◌≡◌, ◌≢◌, ap, refl, sym, ◌∙◌, ℕ, Bool, true, false, List, [], ◌∷◌, ◌++◌, Option, Some, None, Result, Ok, Err, IfOk, arith}
use Rattle.std.proofs.lemmas.Bool.{true≢false}
use Rattle.std.specs.BTreeMap.{is_at}
use Rattle.std.specs.Cmp.Lexicographic.{slice_cmp}
use Rattle.std.specs.Map.{lookup}
use Rattle.std.specs.Option.{option_and_then}
use Rattle.std.specs.Ordering.{nat_cmp}
use Rattle.std.specs.Result.{result_ok}
use Rattle.st_names.specs.Name.{Components}
use Rattle.st_tree.specs.Objects.{dirs_of, is_dir_of, IsNumber, IsValidTree}
use Rattle.st_tree.specs.Paths.{dir_entry, object_from}
use Rattle.st_tree.specs.Reached.{and_then_from, object_or_gap, gap_or_entry}
use Rattle.st_tree.specs.declared.object.Object.{Object}
use Rattle.st_tree.specs.declared.places.Gap.{Gap}

pub stepped-ok : (dir : Bool) (found : Option ℕ) (number : ℕ) → gap_or_entry dir found ≡ Ok number → (dir ≡ true) × (found ≡ Some number)
stepped-ok false found number is = cc
stepped-ok true None number is = cc
stepped-ok true (Some other) number is = (refl, cc)

pub entry_within : (objects : List Object) (from number : ℕ) (part : List ℕ) → IsValidTree objects → dir_entry (dirs_of objects) from part ≡ Some number → IsNumber objects number
entry_within objects from number part whole is =
    let held = whole.directories.numbered from part number is in
    (omega (arith, held.0), held.1)

-- a step leads to the number of an object
pub step_within : (objects : List Object) (from number : ℕ) (part : List ℕ) → IsValidTree objects → Ok number ≡ gap_or_entry (is_dir_of objects from) (dir_entry (dirs_of objects) from part) → IsNumber objects number
step_within objects from number part whole is = entry_within objects from number part whole (stepped-ok _ _ number (sym is)).1

-- one more component
pub reached_step : (objects : List Object) (at : ℕ) (left rest : Components) (part : List ℕ) (step : Result ℕ Gap) → left ≡ part ∷ rest
    → step ≡ gap_or_entry (is_dir_of objects at) (dir_entry (dirs_of objects) at part)
    → object_or_gap objects at left ≡ and_then_from step (λ number. object_or_gap objects number rest)
reached_step objects at left rest part step is stepped_is =
    ap (object_or_gap objects at) is ∙ ap (λ (s : Result ℕ Gap). and_then_from s (λ number. object_or_gap objects number rest)) (sym stepped_is)

pub and_on-twice : (step : Result ℕ Gap) (f g : ℕ → Result ℕ Gap) → and_then_from step (λ number. and_then_from (f number) g) ≡ and_then_from (and_then_from step f) g
and_on-twice (Ok number) f g = refl
and_on-twice (Err gap) f g = refl

pub and_on-same : (step : Result ℕ Gap) (f g : ℕ → Result ℕ Gap) → ((number : ℕ) → f number ≡ g number) → and_then_from step f ≡ and_then_from step g
and_on-same (Ok number) f g same = same number
and_on-same (Err gap) f g same = refl

-- a name in two parts leads where its second part leads from the object of the first
pub reached-append : (objects : List Object) (from : ℕ) (name rest : Components) → object_or_gap objects from (name ++ rest) ≡ and_then_from (object_or_gap objects from name) (λ number. object_or_gap objects number rest)
reached-append objects from [] rest = refl
reached-append objects from (part ∷ name) rest =
    let step : Result ℕ Gap = gap_or_entry (is_dir_of objects from) (dir_entry (dirs_of objects) from part) in
    and_on-same step (λ number. object_or_gap objects number (name ++ rest)) (λ number. and_then_from (object_or_gap objects number name) (λ number. object_or_gap objects number rest)) (λ number. reached-append objects number name rest)
    ∙ and_on-twice step (λ number. object_or_gap objects number name) (λ number. object_or_gap objects number rest)

step_leads : (objects : List Object) (rest : Components) (dir : Bool) (found : Option ℕ) → (dir ≢ true → found ≡ None) → ((number : ℕ) → result_ok (object_or_gap objects number rest) ≡ object_from (dirs_of objects) number rest)
    → result_ok (and_then_from (gap_or_entry dir found) (λ number. object_or_gap objects number rest)) ≡ option_and_then (λ number. object_from (dirs_of objects) number rest) found
step_leads objects rest false None only more = refl
step_leads objects rest false (Some number) only more =
    let none : Some number ≡ None = only (λ e. true≢false (sym e)) in
    cc
step_leads objects rest true None only more = refl
step_leads objects rest true (Some number) only more = more number

-- the object that is reached is the object to which the name leads
pub leads_reached : (objects : List Object) → IsValidTree objects → (from : ℕ) (name : Components) → result_ok (object_or_gap objects from name) ≡ object_from (dirs_of objects) from name
leads_reached objects whole from [] = refl
leads_reached objects whole from (part ∷ rest) =
    step_leads objects rest (is_dir_of objects from) (dir_entry (dirs_of objects) from part) (λ plain. ap (lookup (is_at (slice_cmp nat_cmp part))) (whole.directories.only from plain)) (λ number. leads_reached objects whole number rest)

number_on : (objects : List Object) (step : Result ℕ Gap) (f : ℕ → Result ℕ Gap) → ((number : ℕ) → step ≡ Ok number → IfOk (f number) (IsNumber objects)) → IfOk (and_then_from step f) (IsNumber objects)
number_on objects (Ok number) f more = more number refl
number_on objects (Err gap) f more = tt

pub reached_within : (objects : List Object) → IsValidTree objects → (from : ℕ) (name : Components) → IsNumber objects from → IfOk (object_or_gap objects from name) (IsNumber objects)
reached_within objects whole from [] is = is
reached_within objects whole from (part ∷ rest) is =
    number_on objects (gap_or_entry (is_dir_of objects from) (dir_entry (dirs_of objects) from part)) (λ number. object_or_gap objects number rest)
    (λ number step. reached_within objects whole number rest (step_within objects from number part whole (sym step)))
