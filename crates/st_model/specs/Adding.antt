-- Why a tree refuses a new object, by the first condition that is true.
use Rattle.std.specs.Prelude.{Bool, true, false, nat_le, [], ◌∷◌, length, Option, is_some}
use Rattle.st_base.specs.Errno.{first_error, error_if}
use Rattle.st_base.specs.declared.errno.Errno.{Errno}
use Rattle.st_base.specs.declared.errno.Errno.TheVariants.{ENOENT, EEXIST, ENOTDIR, ENOSPC}
use Rattle.st_names.specs.Name.{Components, parent}
use Rattle.st_names.specs.declared.seen.SeenText.{SeenText}
use Rattle.st_names.specs.declared.seen.SeenText.TheVariants.{Missing, NotDir, Dir, File, Link}
use Rattle.st_model.specs.Tree.{Tree, look, object_of}
use Rattle.st_model.specs.declared.limits.TheConstants.{MOST_OBJECTS}

-- whether a look finds that the name or a proper prefix is missing
abbrev pub is_missing : SeenText → Bool
is_missing Missing = true
is_missing NotDir = false
is_missing Dir = false
is_missing File = false
is_missing (Link target) = false

-- whether a look finds that the name or a proper prefix is no directory
abbrev pub is_no_directory : SeenText → Bool
is_no_directory Missing = false
is_no_directory NotDir = true
is_no_directory Dir = false
is_no_directory File = true
is_no_directory (Link target) = true

-- why the parent of a name isn't a directory
abbrev pub no_directory : Tree → Components → Option Errno
no_directory tree name = first_error (
    error_if (is_missing (look tree (parent name))) ENOENT ∷
    error_if (is_no_directory (look tree (parent name))) ENOTDIR ∷ [])

-- why a name can't be added
abbrev pub place_refused : Tree → Components → Option Errno
place_refused tree name = first_error (
    no_directory tree name ∷
    error_if (is_some (object_of tree name)) EEXIST ∷ [])

-- why no new object can be made under a name
abbrev pub add_refused : Tree → Components → Option Errno
add_refused tree name = first_error (
    place_refused tree name ∷
    error_if (nat_le MOST_OBJECTS (length tree.objects)) ENOSPC ∷ [])
