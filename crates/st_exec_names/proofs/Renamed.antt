-- Renamings that the tree doesn't refuse, and how they change it.
use Rattle.std.proofs.Common.{◌≡◌, ◌≢◌, ◌∙◌, ap, refl, sym, ℕ, Bool, true, false, cond, if◌then◌else◌, List, [], ◌∷◌, Option, Some, None, not, ◌&&◌, ◌||◌, ◌==◌, nat_eq, nat_lt}
use Rattle.std.proofs.lemmas.Bool.{eq-eqb, eqb-true, ne_eqb, true≢false}
use Rattle.std.specs.Map.{lookup, remove_entry}
use Rattle.st_base.specs.Errno.{error_if, first_error}
use Rattle.st_base.specs.declared.errno.Errno.{Errno}
use Rattle.st_base.specs.declared.errno.Errno.TheVariants.{EINVAL, EISDIR, ENOTDIR, ENOTEMPTY}
use Rattle.st_base.specs.declared.ids.Ids.{Ids}
use Rattle.st_names.specs.Name.{Components, is_root}
use Rattle.st_model.specs.Tree.{Tree, entry_count, is_directory, is_proper_prefix, is_same_name, node_with_number, object_of, rename, remove_name, without_name}
use Rattle.st_tree.specs.Refusals.{is_same_object, no_object, rename_refused, replace_refused, tree_after_rename, IsObjectNumber}
use Rattle.st_model.specs.Adding.{no_directory}
use Rattle.st_effects.specs.Changes.{tree_after}
use Rattle.st_effects.specs.Names.{directory_not_empty, move_outcome, rename_outcome}
use Rattle.st_effects.specs.NameTests.{Object, object_at, object_numbered, object_with, on_found, on_object, parent_not_writable, walk_error}
use Rattle.st_effects.specs.System.{System, Request, Outcome, arg_name_at, failure, success, unless_refused}
use Rattle.st_trace.specs.declared.entry.Change.TheVariants as change
use Rattle.st_exec_names.specs.Renaming.{changes_of_move, AreFound}
use Rattle.st_exec_names.specs.declared.renaming.Both.{Both}
use Rattle.st_exec_names.specs.declared.renaming.Move.TheVariants.{Stays, Free, Replaces}
use Rattle.st_request.specs.Outcome.{with_tree}
use Rattle.st_exec_objects.specs.Walking.{object_made}
use Rattle.st_exec_objects.proofs.Objects.{found_made, numbered}
use Rattle.st_exec_names.proofs.Allowed.{directory_there, object_there}

-- three tests that are false
record AreFalse (a b c : Bool) : Type 0 where
  first : a ≡ false
  second : b ≡ false
  third : c ≡ false

are_false : (a b c : Bool) → (a || (b || c)) ≡ false → AreFalse a b c
are_false true b c is = cc
are_false false true c is = cc
are_false false false c is = record { first = refl; second = refl; third = is }

-- why an object can't take a name that another object may have
abbrev pub taken_refused : Tree → ℕ → Option ℕ → Option Errno
taken_refused tree number other = if is_same_object (Some number) other then None else replace_refused tree (Some number) other

-- two numbers are compared in either order with the same result
pub swapped : (a b : ℕ) (same : Bool) → same ≡ (a == b) → nat_eq b a ≡ same
swapped a b true is = eq-eqb b a (sym (eqb-true a b (sym is)))
swapped a b false is = ne_eqb b a (λ one. true≢false (sym (eq-eqb a b (sym one)) ∙ sym is))

-- ---- renamings that aren't refused

pub movable : (tree : Tree) (ids : Ids) (old new : Components) (number : ℕ) (other : Option ℕ) → (is_root old || (is_root new || is_proper_prefix old new)) ≡ false → walk_error tree ids old ≡ None → object_of tree old ≡ Some number → IsObjectNumber tree number
    → walk_error tree ids new ≡ None → object_of tree new ≡ other → taken_refused tree number other ≡ None → rename_refused tree old new ≡ None
movable tree ids old new number other free walked found made walked_new held may =
    let are = are_false (is_root old) (is_root new) (is_proper_prefix old new) free in
    ap (λ root. first_error (error_if (root || is_root new || is_proper_prefix old new) EINVAL ∷ no_object tree old ∷ no_directory tree new ∷ last ∷ [])) are.first
    ∙ ap (λ root. first_error (error_if (root || is_proper_prefix old new) EINVAL ∷ no_object tree old ∷ no_directory tree new ∷ last ∷ [])) are.second
    ∙ ap (λ below. first_error (error_if below EINVAL ∷ no_object tree old ∷ no_directory tree new ∷ last ∷ [])) are.third
    ∙ ap (λ object. first_error (object ∷ no_directory tree new ∷ last ∷ [])) (object_there tree ids old number walked found made)
    ∙ ap (λ directory. first_error (directory ∷ last ∷ [])) (directory_there tree ids new walked_new are.second)
    ∙ ap (λ object. first_error ((if is_same_object object (object_of tree new) then None else replace_refused tree object (object_of tree new)) ∷ [])) found
    ∙ ap (λ object. first_error (taken_refused tree number object ∷ [])) held
    ∙ ap (λ reason. first_error (reason ∷ [])) may where
      last : Option Errno
      last = if is_same_object (object_of tree old) (object_of tree new) then None else replace_refused tree (object_of tree old) (object_of tree new)

-- nothing is replaced
pub free_taken : (tree : Tree) (number : ℕ) → taken_refused tree number None ≡ None
free_taken tree number = by (is_directory (node_with_number tree number).kind) where
  by : (directory : Bool) → first_error (error_if (directory && false) ENOTDIR ∷ error_if (not directory && false) EISDIR ∷ error_if false ENOTEMPTY ∷ []) ≡ None
  by true = refl
  by false = refl

-- both names have the same object
pub same_taken : (tree : Tree) (number other : ℕ) → nat_eq other number ≡ true → taken_refused tree number (Some other) ≡ None
same_taken tree number other same = ap (λ (b : Bool). if b then None else replace_refused tree (Some number) (Some other)) same

-- another object has the new name
pub other_taken : (tree : Tree) (number other : ℕ) → nat_eq other number ≡ false → replace_refused tree (Some number) (Some other) ≡ None → taken_refused tree number (Some other) ≡ None
other_taken tree number other differs may = ap (λ (b : Bool). if b then None else replace_refused tree (Some number) (Some other)) differs ∙ may

-- an object replaces another, if neither or both are directories and the replaced one has no entries
pub replaceable : (tree : Tree) (number other : ℕ) → (is_directory (node_with_number tree number).kind && not (is_directory (node_with_number tree other).kind)) ≡ false
    → (is_directory (node_with_number tree other).kind && not (is_directory (node_with_number tree number).kind)) ≡ false → entry_count tree other ≡ 0 → replace_refused tree (Some number) (Some other) ≡ None
replaceable tree number other no_file no_dir bare =
    ap (λ count. first_error (error_if (is_directory (node_with_number tree number).kind && not (is_directory (node_with_number tree other).kind)) ENOTDIR ∷ error_if (not (is_directory (node_with_number tree number).kind) && is_directory (node_with_number tree other).kind) EISDIR ∷ error_if (nat_lt 0 count) ENOTEMPTY ∷ [])) bare
    ∙ by (is_directory (node_with_number tree number).kind) (is_directory (node_with_number tree other).kind) no_file no_dir where
      by : (a b : Bool) → (a && not b) ≡ false → (b && not a) ≡ false → first_error (error_if (a && not b) ENOTDIR ∷ error_if (not a && b) EISDIR ∷ error_if false ENOTEMPTY ∷ []) ≡ None
      by true true x y = refl
      by true false x y = cc
      by false true x y = cc
      by false false x y = refl

-- ---- how they change a tree

-- removing a name that no object has changes nothing
remove_absent : (test : Components → Bool) (names : List (Components × ℕ)) → lookup test names ≡ None → remove_entry test names ≡ names
remove_absent test [] none = refl
remove_absent test (entry ∷ names) none = by (test entry.0) none (remove_absent test names) where
  by : (b : Bool) → cond b (Some entry.1) (lookup test names) ≡ None → (lookup test names ≡ None → remove_entry test names ≡ names) → cond b names (entry ∷ remove_entry test names) ≡ entry ∷ names
  by true is rest = cc
  by false is rest = ap (λ (others : List (Components × ℕ)). entry ∷ others) (rest is)

absent_name : (tree : Tree) (name : Components) → object_of tree name ≡ None → without_name tree.names name ≡ tree.names
absent_name tree [] none = cc
absent_name tree (part ∷ rest) none = remove_absent (λ other. is_same_name other (part ∷ rest)) tree.names none

-- the tree after a renaming, by whether both names have the same object
abbrev after : Tree → Components → Components → Bool → Tree
after tree old new same = record { names = if same then tree.names else (rename (remove_name tree new) old new).names; objects = tree.objects }

pub free_after : (tree : Tree) (old new : Components) (number : ℕ) → object_of tree old ≡ Some number → object_of tree new ≡ None → tree_after tree (changes_of_move Free old new) ≡ tree_after_rename tree old new
free_after tree old new number found none =
    ap (λ (names : List (Components × ℕ)). rename (record { names = names; objects = tree.objects }) old new) (sym (absent_name tree new none))
    ∙ ap (λ object. after tree old new (is_same_object (Some number) object)) (sym none)
    ∙ ap (λ object. after tree old new (is_same_object object (object_of tree new))) (sym found)

pub same_after : (tree : Tree) (old new : Components) (number other : ℕ) → object_of tree old ≡ Some number → object_of tree new ≡ Some other → nat_eq other number ≡ true → tree_after tree (changes_of_move Stays old new) ≡ tree_after_rename tree old new
same_after tree old new number other found held same =
    ap (after tree old new) (sym same)
    ∙ ap (λ object. after tree old new (is_same_object (Some number) object)) (sym held)
    ∙ ap (λ object. after tree old new (is_same_object object (object_of tree new))) (sym found)

pub other_after : (tree : Tree) (old new : Components) (number other : ℕ) → object_of tree old ≡ Some number → object_of tree new ≡ Some other → nat_eq other number ≡ false → tree_after tree (changes_of_move Replaces old new) ≡ tree_after_rename tree old new
other_after tree old new number other found held differs =
    ap (after tree old new) (sym differs)
    ∙ ap (λ object. after tree old new (is_same_object (Some number) object)) (sym held)
    ∙ ap (λ object. after tree old new (is_same_object object (object_of tree new))) (sym found)

-- ---- outcomes

-- why an object can't replace another
abbrev pub replace_errors : Tree → ℕ → ℕ → List (Option Errno)
replace_errors tree number other =
    error_if (is_directory (node_with_number tree number).kind && not (is_directory (node_with_number tree other).kind)) ENOTDIR ∷
    error_if (is_directory (node_with_number tree other).kind && not (is_directory (node_with_number tree number).kind)) EISDIR ∷
    directory_not_empty tree (object_made tree other) ∷ []

-- rename(2) of these names
abbrev renamed : System → Request → Components → Components → Outcome
renamed system request old new =
    unless_refused system (walk_error system.tree request.ids old ∷ [])
    (on_object system old (λ object.
    unless_refused system (
    walk_error system.tree request.ids new ∷
    error_if (is_root old || (is_root new || is_proper_prefix old new)) EINVAL ∷ [])
    (move_outcome system request old new object (object_at system.tree new))))

object_found : (tree : Tree) (name : Components) (number : ℕ) → object_of tree name ≡ Some number → IsObjectNumber tree number → object_at tree name ≡ Some (object_made tree number)
object_found tree name number found made = ap (object_numbered tree) found ∙ ap (object_with number) (numbered tree number made)

-- rename(2) if another object has the new name
pub replacing : (system : System) (request : Request) (tree : Tree) (ids : Ids) (old new : Components) (number other : ℕ) (same : Bool)
    → old ≡ arg_name_at request 0 → new ≡ arg_name_at request 1 → ids ≡ request.ids → walk_error tree ids old ≡ None → object_of tree old ≡ Some number → IsObjectNumber tree number → walk_error tree ids new ≡ None
    → (is_root old || (is_root new || is_proper_prefix old new)) ≡ false → object_of tree new ≡ Some other → IsObjectNumber tree other → (number == other) ≡ same
    → rename_outcome (with_tree system tree) request ≡ (if same then success system 0 [] else
    unless_refused system (parent_not_writable tree ids old ∷ parent_not_writable tree ids new ∷ replace_errors tree number other) (success system 0 (change.Removed new ∷ change.Renamed old new ∷ [])))
replacing system request tree ids old new number other same old_is new_is ids_is walked found made walked_new free held other_made same_is =
    let s : System = with_tree system tree in
    ap (λ (name : Components). renamed s request name (arg_name_at request 1)) (sym old_is)
    ∙ ap (renamed s request old) (sym new_is)
    ∙ ap (λ (error : Option Errno). unless_refused s (error ∷ []) (on_object s old (on_old s))) (ap (λ (i : Ids). walk_error tree i old) (sym ids_is) ∙ walked)
    ∙ ap (on_found s (on_old s)) (object_found tree old number found made)
    ∙ ap (λ (error : Option Errno). unless_refused s (error ∷ error_if (is_root old || (is_root new || is_proper_prefix old new)) EINVAL ∷ []) (moved s (object_at tree new))) (ap (λ (i : Ids). walk_error tree i new) (sym ids_is) ∙ walked_new)
    ∙ ap (λ (root : Bool). unless_refused s (error_if root EINVAL ∷ []) (moved s (object_at tree new))) free
    ∙ ap (moved s) (object_found tree new other held other_made)
    ∙ ap (λ (b : Bool). if b then success system 0 [] else unless_refused system (parent_not_writable tree request.ids old ∷ parent_not_writable tree request.ids new ∷ replace_errors tree number other) (success system 0 (change.Removed new ∷ change.Renamed old new ∷ []))) same_is
    ∙ ap (λ (i : Ids). if same then success system 0 [] else unless_refused system (parent_not_writable tree i old ∷ parent_not_writable tree i new ∷ replace_errors tree number other) (success system 0 (change.Removed new ∷ change.Renamed old new ∷ []))) (sym ids_is) where
      on_old : System → Object → Outcome
      on_old s object = unless_refused s (walk_error s.tree request.ids new ∷ error_if (is_root old || (is_root new || is_proper_prefix old new)) EINVAL ∷ []) (move_outcome s request old new object (object_at s.tree new))

      moved : System → Option Object → Outcome
      moved s = move_outcome s request old new (object_made tree number)

pub found_outcome : (system : System) (request : Request) (tree : Tree) (old new : Components) (both : Both) (other : ℕ) (same : Bool) → old ≡ arg_name_at request 0 → new ≡ arg_name_at request 1
    → AreFound tree request.ids old new both → both.to.object ≡ Some other → (both.obj == other) ≡ same
    → rename_outcome (with_tree system tree) request ≡ (if same then success system 0 [] else
    unless_refused system (parent_not_writable tree request.ids old ∷ parent_not_writable tree request.ids new ∷ replace_errors tree both.obj other) (success system 0 (change.Removed new ∷ change.Renamed old new ∷ [])))
found_outcome system request tree old new both other same old_is new_is found held same_is =
    replacing system request tree request.ids old new both.obj other same old_is new_is refl found.walked (sym found.from.object ∙ found.object) found.made found.walked_new found.free
    (sym found.to.object ∙ held) (found_made tree both.to.object other held found.to.object_made) same_is

pub found_movable : (tree : Tree) (ids : Ids) (old new : Components) (both : Both) (other : Option ℕ) → AreFound tree ids old new both → both.to.object ≡ other → taken_refused tree both.obj other ≡ None → rename_refused tree old new ≡ None
found_movable tree ids old new both other found held may =
    movable tree ids old new both.obj other found.free found.walked (sym found.from.object ∙ found.object) found.made found.walked_new (sym found.to.object ∙ held) may

-- one of the first two tests refuses the call
pub refused_before : (system : System) (a b : Option Errno) (rest : List (Option Errno)) (outcome : Outcome) (errno : Errno) → Some errno ≡ first_error (a ∷ b ∷ []) → unless_refused system (a ∷ b ∷ rest) outcome ≡ failure system errno
refused_before system (Some first) b rest outcome errno is = let same : errno ≡ first = cc in ap (failure system) (sym same)
refused_before system None (Some second) rest outcome errno is = let same : errno ≡ second = cc in ap (failure system) (sym same)
refused_before system None None rest outcome errno is = cc

-- the first two tests don't refuse the call
pub passed_before : (system : System) (a b : Option Errno) (rest : List (Option Errno)) (outcome : Outcome) → None ≡ first_error (a ∷ b ∷ []) → unless_refused system (a ∷ b ∷ rest) outcome ≡ unless_refused system rest outcome
passed_before system (Some first) b rest outcome is = cc
passed_before system None (Some second) rest outcome is = cc
passed_before system None None rest outcome is = refl

-- an option without a number is `None`
pub none_left : (object : Option ℕ) → ((number : ℕ) → object ≢ Some number) → object ≡ None
none_left None never = refl
none_left (Some number) never = absurd (never number refl)
