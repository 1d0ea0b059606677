-- What a name has, as a walk to it finds.
use Rattle.std.specs.Prelude.{◌≡◌, ℕ, true, [], ◌∷◌, ◌++◌, Option, None, is_none, IfSome}
use Rattle.st_base.specs.declared.ids.Ids.{Ids}
use Rattle.st_names.specs.Name.{Components, is_root, parent}
use Rattle.st_model.specs.Tree.{Tree, is_directory, node_with_number, object_of}
use Rattle.st_tree.specs.Refusals.{IsObjectNumber}
use Rattle.st_effects.specs.NameTests.{Object, on_object, walk_error, walk_error_from}
use Rattle.st_effects.specs.System.{System, Outcome, unless_refused}
use Rattle.st_exec_objects.specs.declared.walking.Place.{Place}

-- the directory that contains a name; none for the root
abbrev pub holder_of : Tree → Components → Option ℕ
holder_of tree [] = None
holder_of tree (part ∷ rest) = object_of tree (parent (part ∷ rest))

-- the outcome for the object of a name, if walking to the name has no error
abbrev pub outcome_at : System → Ids → Components → (Object → Outcome) → Outcome
outcome_at system ids name outcome = unless_refused system (walk_error system.tree ids name ∷ []) (on_object system name outcome)

-- the object with this number, which was made
abbrev pub object_made : Tree → ℕ → Object
object_made tree number = record { number = number; node = node_with_number tree number }

-- what a name has: its object and the directory that contains the name, which only the root lacks
pub record IsPlaceOfName (tree : Tree) (name : Components) (place : Place) : Type 0 where
  pub object : place.object ≡ object_of tree name
  pub holder : place.holder ≡ holder_of tree name
  pub root : is_none place.holder ≡ is_root name
  pub root_directory : is_directory (node_with_number tree 1).kind ≡ true
  pub object_made : IfSome place.object (IsObjectNumber tree)
  pub holder_made : IfSome place.holder (IsObjectNumber tree)

-- a walk that has passed a prefix of a name
pub record IsWalked (tree : Tree) (ids : Ids) (name done rest : Components) (at : Place) : Type 0 where
  pub split : done ++ rest ≡ name
  pub place : IsPlaceOfName tree done at
  pub error : walk_error_from tree ids done rest ≡ walk_error tree ids name
