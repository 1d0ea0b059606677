-- The changes of a renaming.
use Rattle.std.specs.Prelude.{◌≡◌, false, ◌||◌, List, [], ◌∷◌, Some, None}
use Rattle.st_base.specs.declared.ids.Ids.{Ids}
use Rattle.st_names.specs.Name.{Components, is_root}
use Rattle.st_model.specs.Tree.{Tree, is_proper_prefix}
use Rattle.st_tree.specs.Refusals.{IsObjectNumber}
use Rattle.st_effects.specs.NameTests.{walk_error}
use Rattle.st_trace.specs.declared.entry.Change.{Change}
use Rattle.st_trace.specs.declared.entry.Change.TheVariants.{Removed, Renamed}
use Rattle.st_exec_objects.specs.Walking.{IsPlaceOfName}
use Rattle.st_exec_names.specs.declared.renaming.Both.{Both}
use Rattle.st_exec_names.specs.declared.renaming.Move.{Move}
use Rattle.st_exec_names.specs.declared.renaming.Move.TheVariants.{Stays, Free, Replaces}

-- the changes of a renaming, in their order: a new name that another object has is removed first
abbrev pub changes_of_move : Move → Components → Components → List Change
changes_of_move Stays old new = []
changes_of_move Free old new = Renamed old new ∷ []
changes_of_move Replaces old new = Removed new ∷ Renamed old new ∷ []

-- what both names have, if the object can be renamed from one to the other
pub record AreFound (tree : Tree) (ids : Ids) (old new : Components) (both : Both) : Type 0 where
  pub walked : walk_error tree ids old ≡ None
  pub from : IsPlaceOfName tree old both.from
  pub object : both.from.object ≡ Some both.obj
  pub made : IsObjectNumber tree both.obj
  pub walked_new : walk_error tree ids new ≡ None
  pub to : IsPlaceOfName tree new both.to
  pub free : (is_root old || (is_root new || is_proper_prefix old new)) ≡ false
