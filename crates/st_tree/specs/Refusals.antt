-- Why each change of a tree but a new object is refused, by the first condition that is true, and the tree after a rename.
use Rattle.std.specs.Prelude.{◌≡◌, ℕ, ◌+◌, ◌≤◌, Bool, true, false, ◌&&◌, ◌||◌, not, if◌then◌else◌, nat_lt, List, [], ◌∷◌, length, Option, Some, None}
use Rattle.st_base.specs.Errno.{first_error, error_if}
use Rattle.st_base.specs.declared.errno.Errno.{Errno}
use Rattle.st_base.specs.declared.errno.Errno.TheVariants.{EPERM, ENOENT, ENOTDIR, EISDIR, EINVAL, ENOSPC, ENOTEMPTY}
use Rattle.st_names.specs.Name.{Components, is_root}
use Rattle.st_model.specs.Adding.{is_missing, no_directory, place_refused}
use Rattle.st_model.specs.Tree.{Tree, entry_count, is_proper_prefix, is_directory, is_number, look, node_with_number, object_of, remove_name, rename}
use Rattle.st_model.specs.declared.object.Kind.TheVariants as object_kind
use Rattle.st_names.specs.declared.seen.SeenText.{SeenText}
use Rattle.st_names.specs.declared.seen.SeenText.TheVariants.{Missing, NotDir, Dir, File, Link}
use Rattle.st_model.specs.declared.limits.TheConstants.{LONGEST_FILE}

-- some object has this number
abbrev pub IsObjectNumber : Tree → ℕ → Type 0
IsObjectNumber tree number = (1 ≤ number) × (number ≤ length tree.objects)

-- some object has this number, and it is a file
abbrev pub IsFile : Tree → ℕ → Type 0
IsFile tree number = IsObjectNumber tree number × ((node_with_number tree number).kind ≡ object_kind.File)

-- whether a look finds that a proper prefix is no directory
abbrev pub is_not_dir : SeenText → Bool
is_not_dir Missing = false
is_not_dir NotDir = true
is_not_dir Dir = false
is_not_dir File = false
is_not_dir (Link target) = false

-- whether a look finds no object
abbrev pub is_absent : SeenText → Bool
is_absent seen = is_missing seen || is_not_dir seen

-- why no object has this name
abbrev pub no_object : Tree → Components → Option Errno
no_object tree name = first_error (
    error_if (is_missing (look tree name)) ENOENT ∷
    error_if (is_not_dir (look tree name)) ENOTDIR ∷ [])

-- why an object can't have this name too
abbrev pub link_refused : Tree → ℕ → Components → Option Errno
link_refused tree number name = first_error (
    place_refused tree name ∷
    error_if (is_directory (node_with_number tree number).kind) EPERM ∷ [])

-- whether there is an object and it has entries
abbrev pub has_entries : Tree → Option ℕ → Bool
has_entries tree None = false
has_entries tree (Some number) = nat_lt 0 (entry_count tree number)

-- why a name can't be removed
abbrev pub remove_refused : Tree → Components → Option Errno
remove_refused tree name = first_error (
    error_if (is_root name) EINVAL ∷
    no_object tree name ∷
    error_if (has_entries tree (object_of tree name)) ENOTEMPTY ∷ [])

-- whether there is an object and it is a directory
abbrev pub is_directory_at : Tree → Option ℕ → Bool
is_directory_at tree None = false
is_directory_at tree (Some number) = is_directory (node_with_number tree number).kind

-- whether there is an object and it is no directory
abbrev pub is_plain_at : Tree → Option ℕ → Bool
is_plain_at tree None = false
is_plain_at tree (Some number) = not (is_directory (node_with_number tree number).kind)

-- why an object can't replace another
abbrev pub replace_refused : Tree → Option ℕ → Option ℕ → Option Errno
replace_refused tree old new = first_error (
    error_if (is_directory_at tree old && is_plain_at tree new) ENOTDIR ∷
    error_if (is_plain_at tree old && is_directory_at tree new) EISDIR ∷
    error_if (has_entries tree new) ENOTEMPTY ∷ [])

-- whether there are two objects and they are the same
abbrev pub is_same_object : Option ℕ → Option ℕ → Bool
is_same_object None new = false
is_same_object (Some number) new = is_number number new

-- why a rename is refused; if both names have the same object, nothing is replaced
abbrev pub rename_refused : Tree → Components → Components → Option Errno
rename_refused tree old new = first_error (
    error_if (is_root old || is_root new || is_proper_prefix old new) EINVAL ∷
    no_object tree old ∷
    no_directory tree new ∷
    (if is_same_object (object_of tree old) (object_of tree new) then None else replace_refused tree (object_of tree old) (object_of tree new)) ∷ [])

-- the tree after a rename: each name with the old prefix gets the new prefix, and the object with the new name, if any, is replaced;
-- if both names have the same object, nothing changes
abbrev pub tree_after_rename : Tree → Components → Components → Tree
tree_after_rename tree old new = record {
  names = if is_same_object (object_of tree old) (object_of tree new) then tree.names else (rename (remove_name tree new) old new).names;
  objects = tree.objects;
}

-- why a write is refused: there are bytes, and they would end above the greatest length of a file
abbrev pub write_too_long : ℕ → List ℕ → Option Errno
write_too_long at bytes = error_if (nat_lt 0 (length bytes) && nat_lt LONGEST_FILE (at + length bytes)) ENOSPC

-- why a truncation is refused: the length is above the greatest length of a file
abbrev pub cut_refused : ℕ → Option Errno
cut_refused len = error_if (nat_lt LONGEST_FILE len) ENOSPC
