-- How a name leads from object to object, and why it leads to no object.
use Rattle.std.specs.Prelude.{◌≡◌, ◌≢◌, ℕ, ◌<◌, Bool, true, false, if◌then◌else◌, List, [], ◌∷◌, length, Option, Some, None, Result, Ok, Err}
use Rattle.st_base.specs.declared.errno.Errno.{Errno}
use Rattle.st_base.specs.declared.errno.Errno.TheVariants.{ENOENT, ENOTDIR}
use Rattle.st_names.specs.Name.{Components, last_part, parent}
use Rattle.st_model.specs.Tree.{object_of, is_proper_prefix}
use Rattle.st_tree.specs.Objects.{dirs_of, is_dir_of, tree_of, IsNumber}
use Rattle.st_tree.specs.Paths.{dir_entry, object_from}
use Rattle.st_tree.specs.Refusals.{is_same_object}
use Rattle.st_tree.specs.declared.object.Object.{Object}
use Rattle.st_tree.specs.declared.places.Gap.{Gap}
use Rattle.st_tree.specs.declared.places.Gap.TheVariants.{Missing, NotDir}
use Rattle.st_tree.specs.declared.places.RenamePlan.{RenamePlan}

-- the error for a name that leads to no object, by the reason
abbrev pub errno_of_gap : Gap → Errno
errno_of_gap Missing = ENOENT
errno_of_gap NotDir = ENOTDIR

-- one step to the object of an entry, by whether the present object is a directory and whether it has the entry
abbrev pub gap_or_entry : Bool → Option ℕ → Result ℕ Gap
gap_or_entry false found = Err NotDir
gap_or_entry true None = Err Missing
gap_or_entry true (Some number) = Ok number

-- the result of further steps from the object that was reached, if one was reached
abbrev pub and_then_from : Result ℕ Gap → (ℕ → Result ℕ Gap) → Result ℕ Gap
and_then_from (Ok number) on = on number
and_then_from (Err gap) on = Err gap

-- the object to which a name leads from this object, or why it leads to none
abbrev pub object_or_gap : List Object → ℕ → Components → Result ℕ Gap
object_or_gap objects from [] = Ok from
object_or_gap objects from (part ∷ rest) = and_then_from (gap_or_entry (is_dir_of objects from) (dir_entry (dirs_of objects) from part)) (λ number. object_or_gap objects number rest)

-- the directory to which a name leads from the root, or why it leads to none
abbrev pub directory_reached : List Object → Components → Result ℕ Gap
directory_reached objects name = and_then_from (object_or_gap objects 1 name) (λ number. if is_dir_of objects number then Ok number else Err NotDir)

-- a name without an object, and its directory
pub record IsFree (objects : List Object) (name : Components) (holder : ℕ) : Type 0 where
  pub number : IsNumber objects holder
  pub place : object_from (dirs_of objects) 1 (parent name) ≡ Some holder
  pub dir : is_dir_of objects holder ≡ true
  pub free : dir_entry (dirs_of objects) holder (last_part name) ≡ None
  pub named : 0 < length name

-- a name other than the root's, with its directory and its object
pub record IsTaken (objects : List Object) (name : Components) (holder held : ℕ) : Type 0 where
  pub number : IsNumber objects holder
  pub made : IsNumber objects held
  pub place : object_from (dirs_of objects) 1 (parent name) ≡ Some holder
  pub dir : is_dir_of objects holder ≡ true
  pub taken : dir_entry (dirs_of objects) holder (last_part name) ≡ Some held
  pub named : 0 < length name

-- a name whose object has no entries, and its directory
abbrev pub IsEmpty : List Object → Components → ℕ → Type 0
IsEmpty objects name holder = (held : ℕ) × (IsTaken objects name holder held × (dirs_of objects held ≡ []))

-- an object may replace another object, if there is one: they differ, and the replaced object has no entries
abbrev pub Replaces : List Object → ℕ → Option ℕ → Type 0
Replaces objects held None = Unit {0}
Replaces objects held (Some replaced) = (replaced ≢ held) × (dirs_of objects replaced ≡ [])

-- the data of a rename are right for its two names
pub record IsRenamePlan (objects : List Object) (old new : Components) (way : RenamePlan) : Type 0 where
  pub taken : IsTaken objects old way.from way.obj
  pub number : IsNumber objects way.to
  pub place : object_from (dirs_of objects) 1 (parent new) ≡ Some way.to
  pub dir : is_dir_of objects way.to ≡ true
  pub named : 0 < length new
  pub free : Replaces objects way.obj (dir_entry (dirs_of objects) way.to (last_part new))
  pub apart : is_proper_prefix old new ≡ false
  pub differ : is_same_object (object_of (tree_of objects) old) (object_of (tree_of objects) new) ≡ false

-- the data of a rename, if any, are right for its two names; there are none exactly when both names have the same object
abbrev pub IsRenaming : List Object → Components → Components → Option RenamePlan → Type 0
IsRenaming objects old new None = is_same_object (object_of (tree_of objects) old) (object_of (tree_of objects) new) ≡ true
IsRenaming objects old new (Some way) = IsRenamePlan objects old new way
