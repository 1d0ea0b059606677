-- The reasons why changes are refused, by where their names lead.
use Rattle.std.proofs.Common.{◌≡◌, ap, refl, sym, ◌∙◌, ℕ, suc, ◌-◌, ◌<◌, Bool, true, false, List, [], ◌∷◌, ◌++◌, length, get_or, take, Option, Some, None, Result, Ok, Err, IfOk, arith}
use Rattle.std.proofs.Math.Seq.{take-suc, take-length}
use Rattle.std.proofs.Math.Bool.{beq}
use Rattle.std.proofs.lemmas.Bool.{false_from_ne_true, ltb-false, true≢false}
use Rattle.std.proofs.lemmas.List.{get_or_default}
use Rattle.std.specs.Option.{option_map}
use Rattle.std.specs.Prelude.{◌&&◌, ◌↔◌, not, is_some, if◌then◌else◌, nat_lt}
use Rattle.std.specs.Bool.{IsTrue}
use Rattle.std.specs.Result.{result_ok, result_err}
use Rattle.st_base.specs.Errno.{first_error, error_if}
use Rattle.st_base.specs.declared.errno.Errno.{Errno}
use Rattle.st_base.specs.declared.errno.Errno.TheVariants.{EEXIST, EISDIR, ENOENT, ENOTDIR, ENOTEMPTY}
use Rattle.st_names.specs.Name.{Components, last_part, parent, is_root}
use Rattle.st_model.specs.Tree.{Node, is_prefix, is_directory, node_with_number, object_of, seen_of, seen_of_kind}
use Rattle.st_names.specs.declared.seen.SeenText.{SeenText}
use Rattle.st_model.proofs.Objects.{is_same_name-Decides}
use Rattle.st_tree.specs.Objects.{content_of_body, dirs_of, is_dir_of, is_dir_at, kind_of_body, object_node, tree_of, IsNumber, IsValidTree}
use Rattle.st_base.specs.Numbered.{item_at_number}
use Rattle.st_tree.specs.Paths.{Entries, dir_entry, object_from}
use Rattle.st_tree.specs.Reached.{and_then_from, directory_reached, errno_of_gap, object_or_gap, gap_or_entry, IsFree, IsTaken}
use Rattle.st_tree.specs.Refusals.{has_entries, is_not_dir, no_object, replace_refused}
use Rattle.st_model.specs.Adding.{is_missing, is_no_directory, no_directory, place_refused}
use Rattle.st_tree.specs.declared.object.Body.{Body}
use Rattle.st_tree.specs.declared.object.Body.TheVariants.{Dir, File, Link}
use Rattle.st_tree.specs.declared.object.Object.{Object}
use Rattle.st_tree.specs.declared.places.Gap.{Gap}
use Rattle.st_tree.specs.declared.places.Gap.TheVariants.{Missing, NotDir}
use Rattle.st_tree.proofs.Leads.{leads_end}
use Rattle.st_tree.proofs.Numbers.{is_dir_at_number}
use Rattle.st_tree.proofs.Trees.{entries_at_number, node_at_number, is_there, look_reached, object_led, root_is, seen_reached}
use Rattle.st_tree.proofs.Ways.{entry_within, leads_reached, reached-append, reached_within, stepped-ok}

-- ---- names that have to exist, and their directories

-- a name other than the root's is its parent with one more component
pub parent-last_part : (name : Components) → 0 < length name → parent name ++ last_part name ∷ [] ≡ name
parent-last_part name named =
    let before : suc (length name - 1) ≡ length name = omega arith in
    sym (take-suc name (length name - 1) [] (omega arith)) ∙ ap (λ (n : ℕ). take n name) before ∙ take-length name

-- the reason for refusal by a look at a name that has to be a directory's
directory_reason : SeenText → Option Errno
directory_reason seen = first_error (error_if (is_missing seen) ENOENT ∷ error_if (is_no_directory seen) ENOTDIR ∷ [])

-- the reason for refusal by a look at a name that has to exist
name_reason : SeenText → Option Errno
name_reason seen = first_error (error_if (is_missing seen) ENOENT ∷ error_if (is_not_dir seen) ENOTDIR ∷ [])

directory_of_body : (number : ℕ) (body : Body) → directory_reason (seen_of_kind (kind_of_body body) (content_of_body body)) ≡ option_map errno_of_gap (result_err (if is_directory (kind_of_body body) then Ok number else Err NotDir))
unfolding directory_reason
directory_of_body number (Dir entries) = refl
directory_of_body number (File content) = refl
directory_of_body number (Link target) = refl

directory_of_object : (number : ℕ) (at : Option Object) → is_some at ≡ true → directory_reason (seen_of (option_map object_node at)) ≡ option_map errno_of_gap (result_err (if is_dir_at at then Ok number else Err NotDir))
directory_of_object number None there = absurd (true≢false (sym there))
directory_of_object number (Some object) there = directory_of_body number object.body

directory_of_reached : (objects : List Object) (found : Result ℕ Gap) → IfOk found (IsNumber objects)
    → directory_reason (seen_reached objects found) ≡ option_map errno_of_gap (result_err (and_then_from found (λ number. if is_dir_of objects number then Ok number else Err NotDir)))
unfolding directory_reason
directory_of_reached objects (Ok number) is = directory_of_object number (item_at_number objects number) (is_there objects number is)
directory_of_reached objects (Err Missing) is = refl
directory_of_reached objects (Err NotDir) is = refl

-- the reason for refusal by a name's directory is the gap on the way to it
pub no_directory_reached : (objects : List Object) → IsValidTree objects → (name : Components) → no_directory (tree_of objects) name ≡ option_map errno_of_gap (result_err (directory_reached objects (parent name)))
unfolding directory_reason
no_directory_reached objects whole name =
    ap directory_reason (look_reached objects whole (parent name))
    ∙ directory_of_reached objects (object_or_gap objects 1 (parent name)) (reached_within objects whole 1 (parent name) (root_is objects whole))

name_of_body : (body : Body) → name_reason (seen_of_kind (kind_of_body body) (content_of_body body)) ≡ None
unfolding name_reason
name_of_body (Dir entries) = refl
name_of_body (File content) = refl
name_of_body (Link target) = refl

name_of_object : (at : Option Object) → is_some at ≡ true → name_reason (seen_of (option_map object_node at)) ≡ None
name_of_object None there = absurd (true≢false (sym there))
name_of_object (Some object) there = name_of_body object.body

name_of_reached : (objects : List Object) (found : Result ℕ Gap) → IfOk found (IsNumber objects) → name_reason (seen_reached objects found) ≡ option_map errno_of_gap (result_err found)
unfolding name_reason
name_of_reached objects (Ok number) is = name_of_object (item_at_number objects number) (is_there objects number is)
name_of_reached objects (Err Missing) is = refl
name_of_reached objects (Err NotDir) is = refl

-- ---- which reason is the first

-- the error of a condition that is true
pub error_if-true : (condition : Bool) (errno : Errno) → condition ≡ true → Some errno ≡ error_if condition errno
error_if-true condition errno is = sym (ap (λ (b : Bool). error_if b errno) is)

pub error_if-false : (condition : Bool) (errno : Errno) → condition ≡ false → None ≡ error_if condition errno
error_if-false condition errno is = sym (ap (λ (b : Bool). error_if b errno) is)

pub first_error-here : (errno : Errno) (reason : Option Errno) (more : List (Option Errno)) → Some errno ≡ reason → Some errno ≡ first_error (reason ∷ more)
first_error-here errno reason more some = ap (λ (r : Option Errno). first_error (r ∷ more)) some

pub first_error-later : (found reason : Option Errno) (more : List (Option Errno)) → None ≡ reason → found ≡ first_error more → found ≡ first_error (reason ∷ more)
first_error-later found reason more none is = is ∙ ap (λ (r : Option Errno). first_error (r ∷ more)) none

pub first_error-last : (found reason : Option Errno) → found ≡ reason → found ≡ first_error (reason ∷ [])
first_error-last None reason is = ap (λ (r : Option Errno). first_error (r ∷ [])) is
first_error-last (Some errno) reason is = ap (λ (r : Option Errno). first_error (r ∷ [])) is

pub last-met : (reason : Option Errno) (condition : Bool) (errno : Errno) → None ≡ reason → condition ≡ true → Some errno ≡ first_error (reason ∷ error_if condition errno ∷ [])
last-met reason condition errno none is = first_error-later (Some errno) reason (error_if condition errno ∷ []) none (first_error-last (Some errno) (error_if condition errno) (error_if-true condition errno is))

pub last-unmet : (reason : Option Errno) (condition : Bool) (errno : Errno) → None ≡ reason → condition ≡ false → None ≡ first_error (reason ∷ error_if condition errno ∷ [])
last-unmet reason condition errno none is = first_error-later None reason (error_if condition errno ∷ []) none (first_error-last None (error_if condition errno) (error_if-false condition errno is))

-- ---- names that are to be added

-- a new name is refused for the gap on the way to its directory
pub place_gap : (objects : List Object) → IsValidTree objects → (name : Components) (gap : Gap) → Err gap ≡ directory_reached objects (parent name) → Some (errno_of_gap gap) ≡ place_refused (tree_of objects) name
place_gap objects whole name gap lost =
    first_error-here (errno_of_gap gap) (no_directory (tree_of objects) name) (error_if (is_some (object_of (tree_of objects) name)) EEXIST ∷ [])
    (sym (no_directory_reached objects whole name ∙ ap (λ (f : Result ℕ Gap). option_map errno_of_gap (result_err f)) (sym lost)))

pub place_taken : (objects : List Object) → IsValidTree objects → (name : Components) (holder : ℕ) → Ok holder ≡ directory_reached objects (parent name) → is_some (object_of (tree_of objects) name) ≡ true → Some EEXIST ≡ place_refused (tree_of objects) name
place_taken objects whole name holder found there =
    last-met (no_directory (tree_of objects) name) (is_some (object_of (tree_of objects) name)) EEXIST
    (sym (no_directory_reached objects whole name ∙ ap (λ (f : Result ℕ Gap). option_map errno_of_gap (result_err f)) (sym found))) there

pub place_free : (objects : List Object) → IsValidTree objects → (name : Components) (holder : ℕ) → Ok holder ≡ directory_reached objects (parent name) → object_of (tree_of objects) name ≡ None → None ≡ place_refused (tree_of objects) name
place_free objects whole name holder found none =
    last-unmet (no_directory (tree_of objects) name) (is_some (object_of (tree_of objects) name)) EEXIST
    (sym (no_directory_reached objects whole name ∙ ap (λ (f : Result ℕ Gap). option_map errno_of_gap (result_err f)) (sym found))) (ap is_some none)

-- ---- where a name leads

directory_by : (objects : List Object) (found : Result ℕ Gap) (holder : ℕ) → Ok holder ≡ and_then_from found (λ number. if is_dir_of objects number then Ok number else Err NotDir) → (found ≡ Ok holder) × (is_dir_of objects holder ≡ true)
directory_by objects (Err gap) holder is = cc
directory_by objects (Ok number) holder is = by (is_dir_of objects number) refl is where
  by : (dir : Bool) → is_dir_of objects number ≡ dir → Ok holder ≡ (if dir then Ok number else Err NotDir) → (◌≡◌ {A = Result ℕ Gap} (Ok number) (Ok holder)) × (is_dir_of objects holder ≡ true)
  by true dir is =
      let same : holder ≡ number = cc in
      (sym is, ap (is_dir_of objects) same ∙ dir)
  by false dir is = cc

-- a directory that is reached is the directory to which the name leads
pub directory_led : (objects : List Object) → IsValidTree objects → (name : Components) (holder : ℕ) → Ok holder ≡ directory_reached objects name → (object_from (dirs_of objects) 1 name ≡ Some holder) × (is_dir_of objects holder ≡ true)
directory_led objects whole name holder found =
    let both = directory_by objects (object_or_gap objects 1 name) holder found in
    (sym (leads_reached objects whole 1 name) ∙ ap result_ok both.0, both.1)

pub object_in : (objects : List Object) → IsValidTree objects → (name : Components) (holder : ℕ) → 0 < length name → object_from (dirs_of objects) 1 (parent name) ≡ Some holder → object_of (tree_of objects) name ≡ dir_entry (dirs_of objects) holder (last_part name)
object_in objects whole name holder named led =
    object_led objects whole name
    ∙ ap (object_from (dirs_of objects) 1) (sym (parent-last_part name named))
    ∙ leads_end (dirs_of objects) 1 holder (parent name) (last_part name) led

and_on-ok : (step : Result ℕ Gap) → and_then_from step (λ number. Ok number) ≡ step
and_on-ok (Ok number) = refl
and_on-ok (Err gap) = refl

-- the way of a name is the way to its directory and a last step
pub reached_last : (objects : List Object) (name : Components) → 0 < length name
    → object_or_gap objects 1 name ≡ and_then_from (object_or_gap objects 1 (parent name)) (λ number. object_or_gap objects number (last_part name ∷ []))
reached_last objects name named = ap (object_or_gap objects 1) (sym (parent-last_part name named)) ∙ reached-append objects 1 (parent name) (last_part name ∷ [])

-- ---- names that have to exist

-- the reason for refusal by a name that has to exist is the gap on the way to it
no_object_reached : (objects : List Object) → IsValidTree objects → (name : Components) → no_object (tree_of objects) name ≡ option_map errno_of_gap (result_err (object_or_gap objects 1 name))
unfolding name_reason
no_object_reached objects whole name =
    ap name_reason (look_reached objects whole name)
    ∙ name_of_reached objects (object_or_gap objects 1 name) (reached_within objects whole 1 name (root_is objects whole))

pub name_gap_before : (objects : List Object) → IsValidTree objects → (name : Components) (gap : Gap) → 0 < length name → Err gap ≡ object_or_gap objects 1 (parent name) → Some (errno_of_gap gap) ≡ no_object (tree_of objects) name
name_gap_before objects whole name gap named lost =
    sym (no_object_reached objects whole name
    ∙ ap (λ (f : Result ℕ Gap). option_map errno_of_gap (result_err f)) (reached_last objects name named ∙ ap (λ (f : Result ℕ Gap). and_then_from f (λ number. object_or_gap objects number (last_part name ∷ []))) (sym lost)))

-- the same by the way to its directory and the last step
pub name_by : (objects : List Object) → IsValidTree objects → (name : Components) (holder : ℕ) (step : Result ℕ Gap) → 0 < length name → Ok holder ≡ object_or_gap objects 1 (parent name)
    → step ≡ gap_or_entry (is_dir_of objects holder) (dir_entry (dirs_of objects) holder (last_part name))
    → option_map errno_of_gap (result_err step) ≡ no_object (tree_of objects) name
name_by objects whole name holder step named found step_is =
    sym (no_object_reached objects whole name
    ∙ ap (λ (f : Result ℕ Gap). option_map errno_of_gap (result_err f))
    (reached_last objects name named
    ∙ ap (λ (f : Result ℕ Gap). and_then_from f (λ number. object_or_gap objects number (last_part name ∷ []))) (sym found)
    ∙ and_on-ok (gap_or_entry (is_dir_of objects holder) (dir_entry (dirs_of objects) holder (last_part name)))
    ∙ sym step_is))

pub named_from : (name : Components) → (name ≡ [] → ⊥) → 0 < length name
named_from [] differs = absurd (differs refl)
named_from (part ∷ rest) differs = omega arith

-- ---- what a change finds of a name

-- a name without an object is free in its directory
pub is_free : (objects : List Object) → IsValidTree objects → (name : Components) (holder : ℕ) → 0 < length name → Ok holder ≡ directory_reached objects (parent name) → IsNumber objects holder → dir_entry (dirs_of objects) holder (last_part name) ≡ None → IsFree objects name holder
is_free objects whole name holder named found number none =
    let led = directory_led objects whole (parent name) holder found in
    record { number = number; place = led.0; dir = led.1; free = none; named = named }

pub is_taken : (objects : List Object) → IsValidTree objects → (name : Components) (holder held : ℕ) → 0 < length name → Ok holder ≡ object_or_gap objects 1 (parent name) → IsNumber objects holder
    → Ok held ≡ gap_or_entry (is_dir_of objects holder) (dir_entry (dirs_of objects) holder (last_part name)) → IsTaken objects name holder held
is_taken objects whole name holder held named found number step =
    let both = stepped-ok _ _ held (sym step) in
    record {
      number = number;
      made = entry_within objects holder held (last_part name) whole both.1;
      place = sym (leads_reached objects whole 1 (parent name)) ∙ ap result_ok (sym found);
      dir = both.0;
      taken = both.1;
      named = named;
    }

pub dir_made : (objects : List Object) (number : ℕ) → IsNumber objects number → is_directory (node_with_number (tree_of objects) number).kind ≡ is_dir_of objects number
dir_made [] number is = absurd (omega (arith, is.0, is.1))
dir_made (first ∷ objects) number is =
    let object : Object = get_or (first ∷ objects) (number - 1) first in
    let read : object ≡ get_or (first ∷ objects) (number - 1) object = get_or_default (first ∷ objects) (number - 1) first object (omega (arith, is.0, is.1)) in
    ap (λ (node : Node). is_directory node.kind) (node_at_number (first ∷ objects) number object is read) ∙ sym (is_dir_at_number (first ∷ objects) number object object is read)

pub entries_made : (objects : List Object) → IsValidTree objects → (name : Components) (holder held : ℕ) → IsTaken objects name holder held → has_entries (tree_of objects) (object_of (tree_of objects) name) ≡ nat_lt 0 (length (dirs_of objects held))
entries_made objects whole name holder held taken =
    ap (has_entries (tree_of objects)) (object_in objects whole name holder taken.named taken.place ∙ taken.taken)
    ∙ ap (nat_lt 0) (entries_at_number objects held whole)

pub none_in : (entries : Entries) → nat_lt 0 (length entries) ≡ false → entries ≡ []
none_in [] none = refl
none_in (held ∷ entries) none = absurd (omega (arith, ltb-false 0 (length (held ∷ entries)) none))

pub named_no_root : (name : Components) → 0 < length name → is_root name ≡ false
named_no_root [] named = absurd (omega (arith, named))
named_no_root (part ∷ rest) named = refl

-- ---- objects that replace other objects

-- why an object can't replace another, by whether each is a directory, and whether the other has entries
pub replace_reason : Bool → Bool → Bool → Option Errno
replace_reason old new full = first_error (error_if (old && not new) ENOTDIR ∷ error_if (not old && new) EISDIR ∷ error_if full ENOTEMPTY ∷ [])

replace_by : (old new full dir replaced_dir entries : Bool) → old ≡ dir → new ≡ replaced_dir → full ≡ entries → replace_reason old new full ≡ replace_reason dir replaced_dir entries
replace_by old new full dir replaced_dir entries dir_is replaced_is entries_is =
    ap (λ (b : Bool). replace_reason b new full) dir_is ∙ ap (λ (b : Bool). replace_reason dir b full) replaced_is ∙ ap (λ (b : Bool). replace_reason dir replaced_dir b) entries_is

dir_alone : (full : Bool) → Some ENOTDIR ≡ replace_reason true false full
unfolding replace_reason
dir_alone full = refl

other_alone : (full : Bool) → Some EISDIR ≡ replace_reason false true full
unfolding replace_reason
other_alone full = refl

alike : (dir : Bool) (full : Bool) → error_if full ENOTEMPTY ≡ replace_reason dir dir full
unfolding replace_reason
alike true true = refl
alike true false = refl
alike false true = refl
alike false false = refl

module _ (objects : List Object) (whole : IsValidTree objects) (held replaced : ℕ) (is : IsNumber objects held) (other : IsNumber objects replaced) where
  pub replaced_reason : (dir replaced_dir entries : Bool) → dir ≡ is_dir_of objects held → replaced_dir ≡ is_dir_of objects replaced → entries ≡ nat_lt 0 (length (dirs_of objects replaced))
      → replace_refused (tree_of objects) (Some held) (Some replaced) ≡ replace_reason dir replaced_dir entries
  unfolding replace_reason
  replaced_reason dir replaced_dir entries dir_is replaced_is entries_is =
      replace_by _ _ _ dir replaced_dir entries (dir_made objects held is ∙ sym dir_is) (dir_made objects replaced other ∙ sym replaced_is) (ap (nat_lt 0) (entries_at_number objects replaced whole) ∙ sym entries_is)

  pub replace_dir : true ≡ is_dir_of objects held → false ≡ is_dir_of objects replaced → Some ENOTDIR ≡ replace_refused (tree_of objects) (Some held) (Some replaced)
  replace_dir dir plain = dir_alone _ ∙ sym (replaced_reason true false _ dir plain refl)

  pub replace_plain : false ≡ is_dir_of objects held → true ≡ is_dir_of objects replaced → Some EISDIR ≡ replace_refused (tree_of objects) (Some held) (Some replaced)
  replace_plain plain dir = other_alone _ ∙ sym (replaced_reason false true _ plain dir refl)

  pub replace_like : (dir full : Bool) → dir ≡ is_dir_of objects held → dir ≡ is_dir_of objects replaced → full ≡ nat_lt 0 (length (dirs_of objects replaced)) → error_if full ENOTEMPTY ≡ replace_refused (tree_of objects) (Some held) (Some replaced)
  replace_like dir full is_dir too full_is = alike dir full ∙ sym (replaced_reason dir dir full is_dir too full_is)

-- ---- tests in the form of the code

pub leads_on_by : (old new : Components) (begins_it : Bool) → (IsTrue begins_it ↔ (old ≡ take (length old) new)) → begins_it ≡ is_prefix old new
leads_on_by old new true is = sym ((is_same_name-Decides old (take (length old) new)).1 (is.0 refl))
leads_on_by old new false is = sym (false_from_ne_true (is_prefix old new) (λ e. true≢false (sym (is.1 ((is_same_name-Decides old (take (length old) new)).0 e)))))

pub kinds-differ : (a b : Bool) → not (beq a b) ≡ true → not a ≡ b
kinds-differ true true is = cc
kinds-differ true false is = refl
kinds-differ false true is = refl
kinds-differ false false is = cc

pub kinds-equal : (a b : Bool) → not (beq a b) ≡ false → a ≡ b
kinds-equal true true is = refl
kinds-equal true false is = cc
kinds-equal false true is = cc
kinds-equal false false is = refl
