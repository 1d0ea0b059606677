-- The tests that calls on names share, each with its error.
use Rattle.std.specs.Prelude.{ℕ, nat_le, not, if◌then◌else◌, Bool, [], ◌∷◌, ◌++◌, length, Option, Some, None}
use Rattle.st_base.specs.Errno.{error_if}
use Rattle.st_base.specs.declared.errno.Errno.{Errno}
use Rattle.st_base.specs.declared.errno.Errno.TheVariants.{ENOENT, ENOTDIR, EACCES, ENOSPC}
use Rattle.st_base.specs.declared.ids.Ids.{Ids}
use Rattle.st_names.specs.Name.{Components, parent}
use Rattle.st_model.specs.Permission.{allowed}
use Rattle.st_model.specs.Tree.{Tree, Node, object_of, node_of_number, node_of, is_directory}
use Rattle.st_model.specs.declared.permission.Want.{Want}
use Rattle.st_model.specs.declared.permission.Want.TheVariants.{Search, Write}
use Rattle.st_effects.specs.System.{System, Outcome, failure}
use Rattle.st_model.specs.declared.limits.TheConstants.{MOST_OBJECTS}

-- the error of a walk at a prefix of the name, by its node: it is missing, is no directory, or may not be searched; otherwise the
-- error of the rest of the walk
abbrev pub search_error : Option Node → Ids → Option Errno → Option Errno
search_error None ids rest = Some ENOENT
search_error (Some node) ids rest =
    if is_directory node.kind then (if allowed node ids.euid ids.egid Search then rest else Some EACCES) else Some ENOTDIR

-- the error of a walk from a prefix over the rest of a name
abbrev pub walk_error_from : Tree → Ids → Components → Components → Option Errno
walk_error_from tree ids done [] = None
walk_error_from tree ids done (part ∷ rest) = search_error (node_of tree done) ids (walk_error_from tree ids (done ++ part ∷ []) rest)

-- the error of a walk to a name, from its first proper prefix from the root on that is missing, is no directory, or may not be
-- searched
abbrev pub walk_error : Tree → Ids → Components → Option Errno
walk_error tree ids name = walk_error_from tree ids [] name

-- an object of the tree: its number and its node
pub record Object : Type 0 where
  pub number : ℕ
  pub node : Node

-- the object with this number and this node, if there is a node
abbrev pub object_with : ℕ → Option Node → Option Object
object_with number None = None
object_with number (Some node) = Some (record { number = number; node = node })

-- the object with this number, if there is one
abbrev pub object_numbered : Tree → Option ℕ → Option Object
object_numbered tree None = None
object_numbered tree (Some number) = object_with number (node_of_number tree number)

-- the object that a name has, if it has one
abbrev pub object_at : Tree → Components → Option Object
object_at tree name = object_numbered tree (object_of tree name)

-- the outcome for an object that was found; ENOENT if none was found
abbrev pub on_found : System → (Object → Outcome) → Option Object → Outcome
on_found system outcome None = failure system ENOENT
on_found system outcome (Some object) = outcome object

-- the outcome for the object that has a name; the call fails if no object has it
abbrev pub on_object : System → Components → (Object → Outcome) → Outcome
on_object system name outcome = on_found system outcome (object_at system.tree name)

-- whether the effective ids have this access to an object
abbrev pub is_allowed_at : Ids → Node → Want → Bool
is_allowed_at ids node want = allowed node ids.euid ids.egid want

-- the error if an object is missing or may not be written
abbrev pub write_error : Ids → Option Node → Option Errno
write_error ids None = Some ENOENT
write_error ids (Some node) = error_if (not (is_allowed_at ids node Write)) EACCES

-- the error if the parent directory of a name may not be written; the root has no parent
abbrev pub parent_not_writable : Tree → Ids → Components → Option Errno
parent_not_writable tree ids [] = None
parent_not_writable tree ids (part ∷ rest) = write_error ids (node_of tree (parent (part ∷ rest)))

-- the error if no more objects can be made
abbrev pub no_space_left : Tree → Option Errno
no_space_left tree = error_if (nat_le MOST_OBJECTS (length tree.objects)) ENOSPC
