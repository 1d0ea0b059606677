-- Calls on names: the outcome of each call, with its reasons for refusal in the order in which they are tested.
use Rattle.std.specs.Prelude.{ℕ, ◌+◌, ◌%◌, ◌^◌, ◌==◌, ◌&&◌, ◌||◌, not, nat_lt, nat_le, if◌then◌else◌, Bool, true, false, List, [], ◌∷◌, length, take, flat_map, is_some, bit_and, Option, Some, None}
use Rattle.std.specs.Int.{w64, to_le_bytes}
use Rattle.st_base.specs.Errno.{error_if}
use Rattle.st_base.specs.declared.errno.Errno.{Errno}
use Rattle.st_base.specs.declared.errno.Errno.TheVariants.{EPERM, ENOENT, EACCES, EFAULT, EEXIST, ENOTDIR, EISDIR, EINVAL, ENOTEMPTY}
use Rattle.st_base.specs.declared.ids.Ids.{Ids}
use Rattle.st_names.specs.Name.{Components, is_root}
use Rattle.st_model.specs.Tree.{Tree, Node, is_proper_prefix, node_of, is_directory, size_of}
use Rattle.st_model.specs.declared.object.Kind.{Kind}
use Rattle.st_model.specs.declared.object.Kind.TheVariants as object_kind
use Rattle.st_model.specs.declared.permission.Want.{Want}
use Rattle.st_model.specs.declared.permission.Want.TheVariants as want
use Rattle.st_effects.specs.Descriptors.{low_mode, buffer_fault}
use Rattle.st_effects.specs.NameTests.{Object, walk_error, parent_not_writable, no_space_left, is_allowed_at, object_at, on_object}
use Rattle.st_effects.specs.System.{System, Request, Outcome, success, unless_refused, register, arg_name_at, arg_text_at, space_of_caller}
use Rattle.st_trace.specs.declared.entry.Change.TheVariants.{Made, Linked, Removed, Renamed, Cut, Moded, Owned, Put, Cwd}
use Rattle.st_model.specs.declared.object.NewKind.{NewKind}
use Rattle.st_model.specs.declared.limits.TheConstants.{SPACE_BYTES, LONGEST_FILE}
use Rattle.st_model.specs.declared.object.NewKind.TheVariants as made

-- the error if an object already has the name
abbrev pub already_exists : Tree → Components → Option Errno
already_exists tree name = error_if (is_some (node_of tree name)) EEXIST

-- the error if an object is no directory
abbrev pub not_a_directory : Object → Option Errno
not_a_directory object = error_if (not (is_directory object.node.kind)) ENOTDIR

-- the error if an object is a directory with entries
abbrev pub directory_not_empty : Tree → Object → Option Errno
directory_not_empty tree object = error_if (is_directory object.node.kind && not (size_of tree object.number == 0)) ENOTEMPTY

-- the number by which stat reports a kind of object
abbrev pub number_of_kind : Kind → ℕ
number_of_kind object_kind.Dir = 1
number_of_kind object_kind.File = 2
number_of_kind object_kind.Link = 3

-- the bytes that stat reports for an object: five words, which are its kind, mode, owner, group and size
abbrev pub stat_words : Tree → Object → List ℕ
stat_words tree object =
    let node = object.node in
    flat_map (to_le_bytes w64) (number_of_kind node.kind ∷ node.mode ∷ node.uid ∷ node.gid ∷ size_of tree object.number ∷ [])

-- the fault if the five words of stat aren't within memory, or don't begin at a word
abbrev pub stat_buffer_fault : ℕ → Option Errno
stat_buffer_fault at = error_if (not (at % 8 == 0) || nat_lt SPACE_BYTES (at + 40)) EFAULT

-- the outcome of stat(name, at) and lstat(name, at)
abbrev pub stat_outcome : System → Request → Outcome
stat_outcome system request =
    let name = arg_name_at request 0 in
    unless_refused system (walk_error system.tree request.ids name ∷ [])
    (on_object system name (λ object.
    unless_refused system (stat_buffer_fault (register request 1) ∷ [])
    (success system 0 (Put (space_of_caller system request) (register request 1) (stat_words system.tree object) ∷ []))))

-- the ids with the real user and group also as the effective ones
abbrev pub with_real_ids : Ids → Ids
with_real_ids ids = record ids { euid = ids.ruid; egid = ids.rgid }

-- the access that the lowest bit of a mode requests: search of a directory, execution of any other object
abbrev pub want_of_bit : Bool → Want
want_of_bit true = want.Search
want_of_bit false = want.Execute

-- whether an access isn't requested or the ids have it
abbrev pub has_access : Ids → Node → ℕ → ℕ → Want → Bool
has_access ids node mode bit wanted = bit_and mode bit == 0 || is_allowed_at ids node wanted

-- whether the ids have each access that the mode requests
abbrev pub has_all_access : Ids → Node → ℕ → Bool
has_all_access ids node mode =
    has_access ids node mode 4 want.Read && (has_access ids node mode 2 want.Write &&
    has_access ids node mode 1 (want_of_bit (is_directory node.kind)))

-- the outcome of access(name, mode), which tests the real ids throughout
abbrev pub access_outcome : System → Request → Outcome
access_outcome system request =
    let name = arg_name_at request 0 in
    let ids = with_real_ids request.ids in
    unless_refused system (
    error_if (nat_lt 7 (register request 1)) EINVAL ∷
    walk_error system.tree ids name ∷ [])
    (on_object system name (λ object.
    unless_refused system (error_if (not (has_all_access ids object.node (register request 1))) EACCES ∷ [])
    (success system 0 [])))

-- whether a kind is that of a link
abbrev pub is_link : Kind → Bool
is_link object_kind.Dir = false
is_link object_kind.File = false
is_link object_kind.Link = true

-- the outcome of readlink(name, at, count)
abbrev pub readlink_outcome : System → Request → Outcome
readlink_outcome system request =
    let name = arg_name_at request 0 in
    unless_refused system (walk_error system.tree request.ids name ∷ [])
    (on_object system name (λ object.
    let target = take (register request 2) object.node.content in
    unless_refused system (
    error_if (not (is_link object.node.kind)) EINVAL ∷
    buffer_fault (register request 1) (register request 2) ∷ [])
    (success system (length target) (Put (space_of_caller system request) (register request 1) target ∷ []))))

-- the outcome of unlink(name)
abbrev pub unlink_outcome : System → Request → Outcome
unlink_outcome system request =
    let name = arg_name_at request 0 in
    unless_refused system (walk_error system.tree request.ids name ∷ [])
    (on_object system name (λ object.
    unless_refused system (
    parent_not_writable system.tree request.ids name ∷
    error_if (is_directory object.node.kind) EPERM ∷ [])
    (success system 0 (Removed name ∷ []))))

-- the outcome of link(old, new)
abbrev pub link_outcome : System → Request → Outcome
link_outcome system request =
    let tree = system.tree in
    let old = arg_name_at request 0 in
    let new = arg_name_at request 1 in
    unless_refused system (walk_error tree request.ids old ∷ [])
    (on_object system old (λ linked.
    unless_refused system (
    error_if (is_directory linked.node.kind) EPERM ∷
    walk_error tree request.ids new ∷
    already_exists tree new ∷
    parent_not_writable tree request.ids new ∷ [])
    (success system 0 (Linked new linked.number ∷ []))))

-- the outcome of making a new object under a name; the object belongs to the effective ids
abbrev pub make_outcome : System → Request → Components → NewKind → ℕ → Outcome
make_outcome system request name kind mode =
    let obj = length system.tree.objects + 1 in
    unless_refused system (
    walk_error system.tree request.ids name ∷
    already_exists system.tree name ∷
    parent_not_writable system.tree request.ids name ∷
    no_space_left system.tree ∷ [])
    (success system 0 (Made name obj kind request.ids.euid request.ids.egid mode ∷ []))

-- a link's mode is 777
abbrev pub link_mode : ℕ
link_mode = 511

-- the outcome of symlink(text, name)
abbrev pub symlink_outcome : System → Request → Outcome
symlink_outcome system request =
    unless_refused system (error_if (length (arg_text_at request 0) == 0) ENOENT ∷ [])
    (make_outcome system request (arg_name_at request 1) (made.Link (arg_text_at request 0)) link_mode)

-- the outcome of mkdir(name, mode)
abbrev pub mkdir_outcome : System → Request → Outcome
mkdir_outcome system request = make_outcome system request (arg_name_at request 0) made.Dir (low_mode (register request 1))

-- the outcome of a rename after the walks: an object gets a name that no object has, or that another object has, which is removed
-- first. A directory replaces only an empty directory, and no other object replaces a directory. Two names of one object don't
-- change.
abbrev pub move_outcome : System → Request → Components → Components → Object → Option Object → Outcome
move_outcome system request old new object None =
    unless_refused system (
    parent_not_writable system.tree request.ids old ∷
    parent_not_writable system.tree request.ids new ∷ [])
    (success system 0 (Renamed old new ∷ []))
move_outcome system request old new object (Some other) =
    if object.number == other.number then success system 0 []
    else unless_refused system (
    parent_not_writable system.tree request.ids old ∷
    parent_not_writable system.tree request.ids new ∷
    error_if (is_directory object.node.kind && not (is_directory other.node.kind)) ENOTDIR ∷
    error_if (is_directory other.node.kind && not (is_directory object.node.kind)) EISDIR ∷
    directory_not_empty system.tree other ∷ [])
    (success system 0 (Removed new ∷ Renamed old new ∷ []))

-- the outcome of rename(old, new)
abbrev pub rename_outcome : System → Request → Outcome
rename_outcome system request =
    let tree = system.tree in
    let old = arg_name_at request 0 in
    let new = arg_name_at request 1 in
    unless_refused system (walk_error tree request.ids old ∷ [])
    (on_object system old (λ object.
    unless_refused system (
    walk_error tree request.ids new ∷
    error_if (is_root old || (is_root new || is_proper_prefix old new)) EINVAL ∷ [])
    (move_outcome system request old new object (object_at tree new))))

-- the outcome of rmdir(name)
abbrev pub rmdir_outcome : System → Request → Outcome
rmdir_outcome system request =
    let name = arg_name_at request 0 in
    unless_refused system (
    error_if (is_root name) EINVAL ∷
    walk_error system.tree request.ids name ∷ [])
    (on_object system name (λ object.
    unless_refused system (
    not_a_directory object ∷
    parent_not_writable system.tree request.ids name ∷
    directory_not_empty system.tree object ∷ [])
    (success system 0 (Removed name ∷ []))))

-- the outcome of chdir(name)
abbrev pub chdir_outcome : System → Request → Outcome
chdir_outcome system request =
    let name = arg_name_at request 0 in
    unless_refused system (walk_error system.tree request.ids name ∷ [])
    (on_object system name (λ object.
    unless_refused system (
    not_a_directory object ∷
    error_if (not (is_allowed_at request.ids object.node want.Search)) EACCES ∷ [])
    (success system 0 (Cwd name ∷ []))))

-- the outcome of chmod(name, mode)
abbrev pub chmod_outcome : System → Request → Outcome
chmod_outcome system request =
    let name = arg_name_at request 0 in
    let euid = request.ids.euid in
    unless_refused system (walk_error system.tree request.ids name ∷ [])
    (on_object system name (λ object.
    unless_refused system (error_if (not (euid == 0 || euid == object.node.uid)) EPERM ∷ [])
    (success system 0 (Moded object.number (low_mode (register request 1)) ∷ []))))

-- whether a number is too large for an id
abbrev pub exceeds_ids : ℕ → Bool
exceeds_ids number = nat_le (2 ^ 32) number

-- the outcome of chown(name, uid, gid)
abbrev pub chown_outcome : System → Request → Outcome
chown_outcome system request =
    let name = arg_name_at request 0 in
    unless_refused system (
    error_if (exceeds_ids (register request 1) || exceeds_ids (register request 2)) EINVAL ∷
    walk_error system.tree request.ids name ∷ [])
    (on_object system name (λ object.
    unless_refused system (error_if (not (request.ids.euid == 0)) EPERM ∷ [])
    (success system 0 (Owned object.number (register request 1) (register request 2) ∷ []))))

-- the outcome of truncate(name, len)
abbrev pub truncate_outcome : System → Request → Outcome
truncate_outcome system request =
    let name = arg_name_at request 0 in
    unless_refused system (
    error_if (nat_lt LONGEST_FILE (register request 1)) EINVAL ∷
    walk_error system.tree request.ids name ∷ [])
    (on_object system name (λ object.
    unless_refused system (
    error_if (is_directory object.node.kind) EISDIR ∷
    error_if (not (is_allowed_at request.ids object.node want.Write)) EACCES ∷ [])
    (success system 0 (Cut object.number (register request 1) ∷ []))))
