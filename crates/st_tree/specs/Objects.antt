-- The objects that a tree stores, and the tree of names that they represent.
use Rattle.st_base.specs.Numbered.{item_at_number}
use Rattle.std.specs.Prelude.{◌≤◌, ℕ, Bool, false, List, [], ◌∷◌, map, length, Option, Some, None, Vec}
use Rattle.std.specs.BTreeMap.{insert_entry}
use Rattle.std.specs.Cmp.Lexicographic.{slice_cmp}
use Rattle.std.specs.Ordering.{nat_cmp}
use Rattle.std.specs.declared.alloc.Global.{Global}
use Rattle.st_model.specs.Tree.{Node, Tree, is_directory}
use Rattle.st_model.specs.declared.object.Kind.{Kind}
use Rattle.st_model.specs.declared.object.Kind.TheVariants as object_kind
use Rattle.st_tree.specs.Paths.{Entries, names_under, AreDirectories}
use Rattle.st_tree.specs.declared.object.Object.{Object}
use Rattle.st_tree.specs.declared.object.Body.{Body}
use Rattle.st_tree.specs.declared.object.Body.TheVariants.{Dir, File, Link}
use Rattle.st_model.specs.declared.limits.TheConstants.{MOST_OBJECTS}

-- the kind of an object, by its body
abbrev pub kind_of_body : Body → Kind
kind_of_body (Dir entries) = object_kind.Dir
kind_of_body (File content) = object_kind.File
kind_of_body (Link target) = object_kind.Link

-- the content of an object, by its body: a file's bytes or a link's target; a directory has none
abbrev pub content_of_body : Body → List ℕ
content_of_body (Dir entries) = []
content_of_body (File content) = content.items
content_of_body (Link target) = target.items

-- entries as the index of a directory stores them, in any order
abbrev pub KeptEntries : Type 0
KeptEntries = List (Vec ℕ Global × ℕ)

-- entries sorted by their components
abbrev pub sorted_entries : KeptEntries → Entries
sorted_entries [] = []
sorted_entries (held ∷ rest) = insert_entry (slice_cmp nat_cmp) (sorted_entries rest) held.0.items held.1

-- the entries of a directory, by its body; any other object has none
abbrev pub entries_of_body : Body → Entries
entries_of_body (Dir entries) = sorted_entries entries.entries
entries_of_body (File content) = []
entries_of_body (Link target) = []

-- an object without its entries
abbrev pub object_node : Object → Node
object_node object = record {
  kind = kind_of_body object.body;
  uid = object.uid;
  gid = object.gid;
  mode = object.mode;
  content = content_of_body object.body;
}

-- the entries of an object, if there is one
abbrev pub entries_at : Option Object → Entries
entries_at None = []
entries_at (Some object) = entries_of_body object.body

-- whether there is an object and it is a directory
abbrev pub is_dir_at : Option Object → Bool
is_dir_at None = false
is_dir_at (Some object) = is_directory (kind_of_body object.body)

-- the entries of each object, by its number
abbrev pub dirs_of : List Object → ℕ → Entries
dirs_of objects number = entries_at (item_at_number objects number)

-- whether the object with this number is a directory
abbrev pub is_dir_of : List Object → ℕ → Bool
is_dir_of objects number = is_dir_at (item_at_number objects number)

-- the tree that the objects represent: the names that their entries form, and the objects without their entries
unfoldable pub tree_of : List Object → Tree
tree_of objects = record { names = names_under (length objects) (dirs_of objects) 1; objects = map object_node objects }

-- the objects' entries form a tree, and there are at most as many objects as there may be
pub record IsValidTree (objects : List Object) : Type 0 where
  pub directories : AreDirectories (length objects) (is_dir_of objects) (dirs_of objects)
  pub few : length objects ≤ MOST_OBJECTS

-- some object has this number
abbrev pub IsNumber : List Object → ℕ → Type 0
IsNumber objects number = (1 ≤ number) × (number ≤ length objects)
