-- Walks over a prefix of a name.
use Rattle.std.proofs.Common.{◌≡◌, ◌∙◌, ap, refl, sym, subst, ℕ, Bool, true, false, if◌then◌else◌, List, [], ◌∷◌, ◌++◌, Option, Some, None, IfSome}
use Rattle.std.proofs.lemmas.List.{append_assoc}
use Rattle.st_base.specs.declared.errno.Errno.{Errno}
use Rattle.st_base.specs.declared.errno.Errno.TheVariants.{ENOENT, ENOTDIR, EACCES}
use Rattle.st_base.specs.declared.ids.Ids.{Ids}
use Rattle.st_names.specs.Name.{Components, is_root}
use Rattle.st_model.specs.Permission.{allowed}
use Rattle.st_model.specs.declared.permission.Want.TheVariants.{Search}
use Rattle.st_model.specs.Tree.{Tree, Node, is_directory, node_of, node_at, node_of_number, object_of}
use Rattle.st_tree.specs.Refusals.{IsObjectNumber}
use Rattle.st_tree.proofs.Flat.{parent_push}
use Rattle.st_effects.specs.NameTests.{search_error, walk_error, walk_error_from}
use Rattle.st_exec_objects.specs.Walking.{holder_of, IsWalked}
use Rattle.st_exec_objects.specs.declared.walking.Place.{Place}

-- the node of the object that was reached, if any
object_after : (tree : Tree) (name : Components) (held : Option ℕ) → held ≡ object_of tree name → node_of tree name ≡ node_at tree held
object_after tree name held is = ap (node_at tree) (sym is)

-- the directory of a name with one more component
pub holder-push : (tree : Tree) (name : Components) (part : List ℕ) → holder_of tree (name ++ part ∷ []) ≡ object_of tree name
holder-push tree [] part = refl
holder-push tree (first ∷ rest) part = ap (object_of tree) (parent_push (first ∷ rest) part)

longer_no_root : (name : Components) (part : List ℕ) → is_root (name ++ part ∷ []) ≡ false
longer_no_root [] part = refl
longer_no_root (first ∷ rest) part = refl

-- the error of the components that are left, by the object that was reached
pub walk_left : (tree : Tree) (ids : Ids) (name done left rest : Components) (part : List ℕ) (place : Place) → IsWalked tree ids name done left place → left ≡ part ∷ rest
    → search_error (node_at tree place.object) ids (walk_error_from tree ids (done ++ part ∷ []) rest) ≡ walk_error tree ids name
walk_left tree ids name done left rest part place walked is =
    ap (λ found. search_error found ids (walk_error_from tree ids (done ++ part ∷ []) rest)) (sym (object_after tree done place.object walked.place.object))
    ∙ ap (walk_error_from tree ids done) (sym is) ∙ walked.error

-- no object has the name so far
pub walk_missing : (tree : Tree) (ids : Ids) (name done left rest : Components) (part : List ℕ) (place : Place) → IsWalked tree ids name done left place → left ≡ part ∷ rest → place.object ≡ None
    → Some ENOENT ≡ walk_error tree ids name
walk_missing tree ids name done left rest part place walked is none =
    ap (λ object. search_error (node_at tree object) ids (walk_error_from tree ids (done ++ part ∷ []) rest)) (sym none)
    ∙ walk_left tree ids name done left rest part place walked is

-- ---- the error at an object decides, otherwise the components that are left

goes_by : (directory may : Bool) (rest : Option Errno) → None ≡ (if directory then (if may then None else Some EACCES) else Some ENOTDIR) → (if directory then (if may then rest else Some EACCES) else Some ENOTDIR) ≡ rest
goes_by true true rest is = refl
goes_by true false rest is = cc
goes_by false may rest is = cc

goes_on : (found : Option Node) (ids : Ids) (rest : Option Errno) → None ≡ search_error found ids None → search_error found ids rest ≡ rest
goes_on None ids rest is = cc
goes_on (Some node) ids rest is = goes_by (is_directory node.kind) (allowed node ids.euid ids.egid Search) rest is

stops_by : (directory may : Bool) (rest : Option Errno) (errno : Errno) → Some errno ≡ (if directory then (if may then None else Some EACCES) else Some ENOTDIR) → Some errno ≡ (if directory then (if may then rest else Some EACCES) else Some ENOTDIR)
stops_by true true rest errno is = cc
stops_by true false rest errno is = is
stops_by false may rest errno is = is

stops_at : (found : Option Node) (ids : Ids) (rest : Option Errno) (errno : Errno) → Some errno ≡ search_error found ids None → Some errno ≡ search_error found ids rest
stops_at None ids rest errno is = is
stops_at (Some node) ids rest errno is = stops_by (is_directory node.kind) (allowed node ids.euid ids.egid Search) rest errno is

-- an object is reached from which the walk can't go on
pub walk_stops : (tree : Tree) (ids : Ids) (name done left rest : Components) (part : List ℕ) (place : Place) (number : ℕ) (errno : Errno) → IsWalked tree ids name done left place → left ≡ part ∷ rest → place.object ≡ Some number
    → Some errno ≡ search_error (node_of_number tree number) ids None → Some errno ≡ walk_error tree ids name
walk_stops tree ids name done left rest part place number errno walked is found stops =
    stops_at (node_of_number tree number) ids (walk_error_from tree ids (done ++ part ∷ []) rest) errno stops
    ∙ ap (λ object. search_error (node_at tree object) ids (walk_error_from tree ids (done ++ part ∷ []) rest)) (sym found)
    ∙ walk_left tree ids name done left rest part place walked is

-- an object is reached from which the walk goes on
pub walk_on : (tree : Tree) (ids : Ids) (name done left rest : Components) (part : List ℕ) (place : Place) (number : ℕ) (child : Option ℕ) → IsWalked tree ids name done left place → left ≡ part ∷ rest → place.object ≡ Some number
    → None ≡ search_error (node_of_number tree number) ids None → ((name : Components) → object_of tree name ≡ Some number → child ≡ object_of tree (name ++ part ∷ [])) → IfSome child (IsObjectNumber tree)
    → IsWalked tree ids name (done ++ part ∷ []) rest (record { holder = Some number; object = child })
walk_on tree ids name done left rest part place number child walked is found leads held made = record {
  split = append_assoc done (part ∷ []) rest ∙ ap (λ tail. done ++ tail) (sym is) ∙ walked.split;
  place = record {
    object = held done (sym walked.place.object ∙ found);
    holder = sym (holder-push tree done part ∙ sym walked.place.object ∙ found);
    root = sym (longer_no_root done part);
    root_directory = walked.place.root_directory;
    object_made = made;
    holder_made = let P : Option ℕ → Type 0 = λ object. IfSome object (IsObjectNumber tree) in subst P found walked.place.object_made;
  };
  error =
      sym (goes_on (node_of_number tree number) ids (walk_error_from tree ids (done ++ part ∷ []) rest) leads)
      ∙ ap (λ object. search_error (node_at tree object) ids (walk_error_from tree ids (done ++ part ∷ []) rest)) (sym found)
      ∙ walk_left tree ids name done left rest part place walked is;
}
