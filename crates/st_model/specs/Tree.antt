-- The file tree as a map of whole names: the object of each absolute name, and the node of each object.
use Rattle.std.specs.Prelude.{◌≢◌, ℕ, zero, suc, ◌+◌, ◌-◌, nat_eq, nat_lt, Bool, true, false, ◌&&◌, if◌then◌else◌, List, [], ◌∷◌, ◌++◌, length, map, take, drop, replicate, slice_get, slice_index_or, slice_set, Option, Some, None}
use Rattle.std.specs.declared.cmp.Ordering.{Ordering}
use Rattle.std.specs.BTreeMap.{insert_entry}
use Rattle.std.specs.Cmp.Lexicographic.{pointwise, slice_cmp}
use Rattle.std.specs.List.{All, filter, fold, starts_with}
use Rattle.std.specs.List.Sorted.{IsStrictlySortedBy}
use Rattle.std.specs.Map.{keys_of, lookup, remove_entry}
use Rattle.std.specs.Ordering.{nat_cmp}
use Rattle.std.specs.Str.{bytes_eq}
use Rattle.st_base.specs.Numbered.{item_at_number}
use Rattle.st_names.specs.Name.{Components, parent}
use Rattle.st_model.specs.declared.object.Kind.{Kind}
use Rattle.st_model.specs.declared.object.Kind.TheVariants as kind
use Rattle.st_model.specs.declared.object.NewKind.{NewKind}
use Rattle.st_model.specs.declared.object.NewKind.TheVariants as new
use Rattle.st_model.specs.declared.object.NewNode.{NewNode}
use Rattle.st_names.specs.declared.seen.SeenText.{SeenText}
use Rattle.st_names.specs.declared.seen.SeenText.TheVariants.{Missing, NotDir, Dir, File, Link}

-- an object; the content is a file's bytes or a link's target, and is empty for a directory
pub record Node : Type 0 where
  pub kind : Kind
  pub uid : ℕ
  pub gid : ℕ
  pub mode : ℕ
  pub content : List ℕ

-- the names other than the root's, each once and in order, with the numbers of their objects; and all objects that were ever
-- made, from number 1
pub record Tree : Type 0 where
  pub names : List (Components × ℕ)
  pub objects : List Node

-- the kind of an object that is to be made
abbrev pub kind_of_new : NewKind → Kind
kind_of_new new.Dir = kind.Dir
kind_of_new (new.File content) = kind.File
kind_of_new (new.Link target) = kind.Link

-- the content of an object that is to be made; a directory has none
abbrev pub content_of_new : NewKind → List ℕ
content_of_new new.Dir = []
content_of_new (new.File content) = content
content_of_new (new.Link target) = target

-- an object that is to be made, by its kind, owner, group and mode
abbrev pub node_of_kind : NewKind → ℕ → ℕ → ℕ → Node
node_of_kind made uid gid mode = record { kind = kind_of_new made; uid = uid; gid = gid; mode = mode; content = content_of_new made }

-- an object that is to be made, from its description in one value
abbrev pub node_of_new : NewNode → Node
node_of_new made = node_of_kind made.kind made.uid made.gid made.mode

-- the root: a directory of user and group 0 with mode 755
abbrev pub root_node : Node
root_node = record { kind = kind.Dir; uid = 0; gid = 0; mode = 493; content = [] }

-- the tree that has only the root, which is object 1
abbrev pub root_only : Tree
root_only = record { names = []; objects = root_node ∷ [] }

-- whether two names have the same components
abbrev pub is_same_name : Components → Components → Bool
is_same_name name other = pointwise bytes_eq name other

-- the order of names: component by component, and each component by its bytes
abbrev pub compare_names : Components → Components → Ordering
compare_names = slice_cmp (slice_cmp nat_cmp)

-- the names are in order, each once
abbrev pub IsOrdered : List (Components × ℕ) → Type 0
IsOrdered names = IsStrictlySortedBy compare_names (keys_of names)

-- none of the names is the root's
abbrev pub IsBelowRoot : List (Components × ℕ) → Type 0
IsBelowRoot names = All (λ name. name ≢ []) (keys_of names)

-- the number of a name's object, if the name is in the list
abbrev pub number_of_name : List (Components × ℕ) → Components → Option ℕ
number_of_name names name = lookup (λ other. is_same_name other name) names

-- the number of a name's object; the root always exists
abbrev pub object_of : Tree → Components → Option ℕ
object_of tree [] = Some 1
object_of tree (part ∷ rest) = number_of_name tree.names (part ∷ rest)

-- the object with this number, counted from 1
abbrev pub node_of_number : Tree → ℕ → Option Node
node_of_number tree number = item_at_number tree.objects number

-- the object with this number, if there is a number
abbrev pub node_at : Tree → Option ℕ → Option Node
node_at tree None = None
node_at tree (Some number) = node_of_number tree number

-- the object that has this name
abbrev pub node_of : Tree → Components → Option Node
node_of tree name = node_at tree (object_of tree name)

-- the result of a look at an object
abbrev pub seen_of_kind : Kind → List ℕ → SeenText
seen_of_kind kind.Dir content = Dir
seen_of_kind kind.File content = File
seen_of_kind kind.Link content = Link content

-- the result of a look at a name whose directories all exist
abbrev pub seen_of : Option Node → SeenText
seen_of None = Missing
seen_of (Some node) = seen_of_kind node.kind node.content

-- whether a kind is that of a directory
abbrev pub is_directory : Kind → Bool
is_directory kind.Dir = true
is_directory kind.File = false
is_directory kind.Link = false

-- the result of a look through this node: if it is a directory, the result for the rest of the name
abbrev pub seen_through : Option Node → SeenText → SeenText
seen_through None rest = Missing
seen_through (Some node) rest = if is_directory node.kind then rest else NotDir

-- the result of a look at `done` followed by the rest: the first proper prefix that is missing or no directory decides
abbrev pub look_along : Tree → Components → Components → SeenText
look_along tree done [] = seen_of (node_of tree done)
look_along tree done (part ∷ rest) = seen_through (node_of tree done) (look_along tree (done ++ part ∷ []) rest)

-- the result of a look at a name
abbrev pub look : Tree → Components → SeenText
look tree name = look_along tree [] name

-- the object with this number, or the root if no object has it
abbrev pub node_with_number : Tree → ℕ → Node
node_with_number tree number = slice_index_or tree.objects (number - 1) root_node

-- whether there is a number and it equals this number
abbrev pub is_number : ℕ → Option ℕ → Bool
is_number number None = false
is_number number (Some other) = nat_eq other number

-- the number of entries of a directory: the names whose parent is this object
abbrev pub entry_count : Tree → ℕ → ℕ
entry_count tree number = length (filter (λ named. is_number number (object_of tree (parent named.0))) tree.names)

-- the size of an object: the number of entries of a directory, or of bytes of a file or of a link's target
abbrev pub size_of_kind : Kind → ℕ → List ℕ → ℕ
size_of_kind kind.Dir entries content = entries
size_of_kind kind.File entries content = length content
size_of_kind kind.Link entries content = length content

-- the size of the object with this number
abbrev pub size_of : Tree → ℕ → ℕ
size_of tree number = size_of_kind (node_with_number tree number).kind (entry_count tree number) (node_with_number tree number).content

-- the names with this name added, which has this number
abbrev pub with_name : List (Components × ℕ) → Components → ℕ → List (Components × ℕ)
with_name names name number = insert_entry compare_names names name number

-- the names without this name
abbrev pub without_name : List (Components × ℕ) → Components → List (Components × ℕ)
without_name names name = remove_entry (λ other. is_same_name other name) names

-- the tree with one more object, under this name
abbrev pub add_object : Tree → Components → Node → Tree
add_object tree name node = record {
  names = with_name tree.names name (suc (length tree.objects));
  objects = tree.objects ++ node ∷ [];
}

-- the tree after an object gets one more name
abbrev pub link_object : Tree → Components → ℕ → Tree
link_object tree name number = record { names = with_name tree.names name number; objects = tree.objects }

-- the tree after a name is removed; its object stays
abbrev pub remove_name : Tree → Components → Tree
remove_name tree name = record { names = without_name tree.names name; objects = tree.objects }

-- whether the first name is a prefix of the second, or equal to it
abbrev pub is_prefix : Components → Components → Bool
is_prefix name other = starts_with bytes_eq other name

-- whether the first name is a proper prefix of the second
abbrev pub is_proper_prefix : Components → Components → Bool
is_proper_prefix name other = is_prefix name other && nat_lt (length name) (length other)

-- a name in which the new prefix replaces the old prefix, if it has the old prefix
abbrev pub with_prefix_replaced : Components → Components → Components → Components
with_prefix_replaced old new name = if is_prefix old name then new ++ drop (length old) name else name

-- the pairs in the order of their names
abbrev pub sorted_names : List (Components × ℕ) → List (Components × ℕ)
sorted_names pairs = fold (λ names named. with_name names named.0 named.1) [] pairs

-- the tree after a rename: each name with the old prefix has the new prefix instead
abbrev pub rename : Tree → Components → Components → Tree
rename tree old new = record {
  names = sorted_names (map (λ named. (with_prefix_replaced old new named.0, named.1)) tree.names);
  objects = tree.objects;
}

-- the tree with an object replaced, under all its names
abbrev pub with_node : Tree → ℕ → Node → Tree
with_node tree number node = record { names = tree.names; objects = slice_set tree.objects (number - 1) node }

-- bytes after other bytes are written from byte `at` on; a gap is filled with zeros, and writing no bytes changes nothing
abbrev pub bytes_after_write : List ℕ → ℕ → List ℕ → List ℕ
bytes_after_write before at [] = before
bytes_after_write before at (byte ∷ bytes) =
    take at (before ++ replicate (at - length before) 0) ++ (byte ∷ bytes) ++ drop (at + length (byte ∷ bytes)) before

-- bytes truncated to a length, or extended to it with zeros
abbrev pub bytes_after_cut : List ℕ → ℕ → List ℕ
bytes_after_cut before len = take len before ++ replicate (len - length before) 0

-- the tree after bytes are written to a file from byte `at` on
abbrev pub write_object : Tree → ℕ → ℕ → List ℕ → Tree
write_object tree number at bytes =
    with_node tree number (record (node_with_number tree number) { content = bytes_after_write (node_with_number tree number).content at bytes })

-- the tree after a file is truncated or extended to this length
abbrev pub cut_object : Tree → ℕ → ℕ → Tree
cut_object tree number len =
    with_node tree number (record (node_with_number tree number) { content = bytes_after_cut (node_with_number tree number).content len })

-- the tree after an object gets this mode
abbrev pub set_mode : Tree → ℕ → ℕ → Tree
set_mode tree number mode = with_node tree number (record (node_with_number tree number) { mode = mode })

-- the tree after an object gets this owner and this group
abbrev pub set_owner : Tree → ℕ → ℕ → ℕ → Tree
set_owner tree number uid gid = with_node tree number (record (node_with_number tree number) { uid = uid; gid = gid })
