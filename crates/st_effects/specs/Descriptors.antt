-- Calls on descriptors: the outcome of each call, with its reasons for refusal in the order in which they are tested.
use Rattle.std.specs.Prelude.{ℕ, ◌+◌, ◌-◌, ◌%◌, ◌^◌, ◌==◌, ◌&&◌, ◌||◌, not, nat_lt, nat_le, if◌then◌else◌, Bool, true, false, List, [], ◌∷◌, length, take, drop, Option, Some, None, unwrap_or}
use Rattle.st_model.specs.Descriptors.{file_at, least_free}
use Rattle.st_base.specs.Errno.{error_if}
use Rattle.st_model.specs.Memory.{bytes_from}
use Rattle.st_model.specs.DescriptorCalls.{open_refused, table_after_open, table_after_close, close_refused, dup_refused, table_after_dup, table_after_seek}
use Rattle.st_base.specs.declared.errno.Errno.{Errno}
use Rattle.st_base.specs.declared.errno.Errno.TheVariants.{ENOENT, EBADF, EACCES, EFAULT, EEXIST, EISDIR, EINVAL, ENOSPC}
use Rattle.st_base.specs.declared.ids.Ids.{Ids}
use Rattle.st_model.specs.declared.open_file.FileKind.{FileKind}
use Rattle.st_model.specs.declared.open_file.FileKind.TheVariants as kind
use Rattle.st_model.specs.declared.open_file.OpenFile.{OpenFile}
use Rattle.st_calls.specs.Call.{has_flag}
use Rattle.st_model.specs.Tree.{Tree, Node, node_with_number, is_directory, size_of}
use Rattle.st_model.specs.declared.object.Kind.{Kind}
use Rattle.st_model.specs.declared.object.Kind.TheVariants as object_kind
use Rattle.st_model.specs.declared.permission.Want.TheVariants as want
use Rattle.st_effects.specs.NameTests.{Object, walk_error, parent_not_writable, no_space_left, is_allowed_at, object_at}
use Rattle.st_effects.specs.System.{System, Request, Outcome, failure, success, success_with_table, unless_refused, register, arg_name_at, space_of_caller}
use Rattle.st_trace.specs.declared.entry.Change.{Change}
use Rattle.st_trace.specs.declared.entry.Change.TheVariants.{Made, Cut, Put, Written}
use Rattle.st_model.specs.declared.limits.TheConstants.{SPACE_BYTES, LONGEST_FILE}
use Rattle.st_calls.specs.declared.flags.TheConstants.{O_CREAT, O_TRUNC, O_EXCL, O_APPEND}
use Rattle.st_model.specs.declared.object.NewKind.TheVariants as made

-- the access in the flags of an open, which is the low two bits: 0 for reading, 1 for writing and 2 for both
abbrev pub access_of : ℕ → ℕ
access_of flags = flags % 4

-- whether the flags of an open request reading
abbrev pub is_for_reading : ℕ → Bool
is_for_reading flags = not (access_of flags == 1)

-- whether the flags of an open request writing
abbrev pub is_for_writing : ℕ → Bool
is_for_writing flags = not (access_of flags == 0)

-- a mode's low nine bits
abbrev pub low_mode : ℕ → ℕ
low_mode mode = mode % 512

-- the open file of an object that was opened with these flags
abbrev pub open_file_of : ℕ → ℕ → OpenFile
open_file_of obj flags = record {
  kind = kind.Node obj;
  read = is_for_reading flags;
  write = is_for_writing flags;
  append = has_flag flags O_APPEND;
  offset = 0;
}

-- the least free descriptor of the calling process, or 0 if no descriptor is free
abbrev pub next_descriptor : System → Request → ℕ
next_descriptor system request = unwrap_or (least_free system.descriptors request.pid) 0

-- the outcome of an open that succeeds: the least free descriptor refers to the object, and these changes are made
abbrev pub open_object_outcome : System → Request → ℕ → List Change → Outcome
open_object_outcome system request obj changes =
    success_with_table (next_descriptor system request) changes (table_after_open system.descriptors request.pid (open_file_of obj (register request 1)))

-- whether the ids have the access that the flags request; truncating needs write access
abbrev pub may_open : Node → Ids → ℕ → Bool
may_open node ids flags =
    (not (is_for_reading flags) || is_allowed_at ids node want.Read) && (not (is_for_writing flags || has_flag flags O_TRUNC) || is_allowed_at ids node want.Write)

-- the change of an open with these flags to an object that exists: it is truncated with O_TRUNC
abbrev pub truncation : ℕ → ℕ → List Change
truncation obj flags = if has_flag flags O_TRUNC then Cut obj 0 ∷ [] else []

-- the outcome of an open after the walk: a missing object is made, an existing object is opened
abbrev pub open_node_outcome : System → Request → Option Object → Outcome
open_node_outcome system request None =
    let tree = system.tree in
    let name = arg_name_at request 0 in
    let obj = length tree.objects + 1 in
    unless_refused system (
    error_if (not (has_flag (register request 1) O_CREAT)) ENOENT ∷
    parent_not_writable tree request.ids name ∷
    no_space_left tree ∷ [])
    (open_object_outcome system request obj (Made name obj (made.File []) request.ids.euid request.ids.egid (low_mode (register request 2)) ∷ []))
open_node_outcome system request (Some object) =
    let flags = register request 1 in
    unless_refused system (
    error_if (has_flag flags O_CREAT && has_flag flags O_EXCL) EEXIST ∷
    error_if (is_directory object.node.kind && (is_for_writing flags || has_flag flags O_TRUNC)) EISDIR ∷
    error_if (not (may_open object.node request.ids flags)) EACCES ∷ [])
    (open_object_outcome system request object.number (truncation object.number flags))

-- the outcome of open(name, flags, mode)
abbrev pub open_outcome : System → Request → Outcome
open_outcome system request =
    unless_refused system (
    error_if (access_of (register request 1) == 3) EINVAL ∷
    open_refused system.descriptors request.pid ∷
    walk_error system.tree request.ids (arg_name_at request 0) ∷ [])
    (open_node_outcome system request (object_at system.tree (arg_name_at request 0)))

-- the outcome of close(fd)
abbrev pub close_outcome : System → Request → Outcome
close_outcome system request =
    unless_refused system (close_refused system.descriptors request.pid (register request 0) ∷ [])
    (success_with_table 0 [] (table_after_close system.descriptors request.pid (register request 0)))

-- whether an open file is a socket
abbrev pub is_socket : FileKind → Bool
is_socket kind.Console = false
is_socket (kind.Node obj) = false
is_socket (kind.Socket port connected) = true

-- whether an open file is that of a directory
abbrev pub is_open_directory : Tree → FileKind → Bool
is_open_directory tree kind.Console = false
is_open_directory tree (kind.Node obj) = is_directory (node_with_number tree obj).kind
is_open_directory tree (kind.Socket port connected) = false

-- the fault if a buffer of `count` bytes from byte `at` on isn't within memory
abbrev pub buffer_fault : ℕ → ℕ → Option Errno
buffer_fault at count = error_if (nat_lt SPACE_BYTES (at + count)) EFAULT

-- the bytes that are read from an open file; the console and sockets have none
abbrev pub bytes_read : Tree → OpenFile → ℕ → List ℕ
bytes_read tree file count = by_kind file.kind where
  by_kind : FileKind → List ℕ
  by_kind kind.Console = []
  by_kind (kind.Node obj) = take count (drop file.offset (node_with_number tree obj).content)
  by_kind (kind.Socket port connected) = []

-- the changes of putting bytes into memory; no bytes change nothing
abbrev pub put_changes : ℕ → ℕ → List ℕ → List Change
put_changes space at [] = []
put_changes space at (byte ∷ bytes) = Put space at (byte ∷ bytes) ∷ []

-- the outcome of a read, by the open file to which its descriptor refers, if there is one
abbrev pub read_file_outcome : System → Request → Option OpenFile → Outcome
read_file_outcome system request None = failure system EBADF
read_file_outcome system request (Some file) =
    let at = register request 1 in
    let bytes = bytes_read system.tree file (register request 2) in
    unless_refused system (
    error_if (not file.read) EBADF ∷
    error_if (is_socket file.kind) EINVAL ∷
    error_if (is_open_directory system.tree file.kind) EISDIR ∷
    buffer_fault at (register request 2) ∷ [])
    (success_with_table (length bytes) (put_changes (space_of_caller system request) at bytes)
    (table_after_seek system.descriptors request.pid (register request 0) (file.offset + length bytes)))

-- the outcome of read(fd, at, count)
abbrev pub read_outcome : System → Request → Outcome
read_outcome system request = read_file_outcome system request (file_at system.descriptors request.pid (register request 0))

-- the offset at which a write begins: with append the size, otherwise the open file's offset
abbrev pub write_offset : Tree → ℕ → OpenFile → ℕ
write_offset tree obj file = if file.append then size_of tree obj else file.offset

-- the outcome of a write of at least one byte to a file
abbrev pub write_bytes_outcome : System → Request → ℕ → ℕ → Outcome
write_bytes_outcome system request obj start =
    let count = register request 2 in
    unless_refused system (error_if (nat_lt LONGEST_FILE (start + count)) ENOSPC ∷ [])
    (success_with_table count (Written obj start (bytes_from (system.memory (space_of_caller system request)) (register request 1) count) ∷ [])
    (table_after_seek system.descriptors request.pid (register request 0) (start + count)))

-- the outcome of a write by the kind of the open file; the console accepts all bytes, and a write of no bytes changes nothing
abbrev pub write_kind_outcome : System → Request → OpenFile → FileKind → Outcome
write_kind_outcome system request file kind.Console = success system (register request 2) []
write_kind_outcome system request file (kind.Node obj) =
    if register request 2 == 0 then success system 0 [] else write_bytes_outcome system request obj (write_offset system.tree obj file)
write_kind_outcome system request file (kind.Socket port connected) = failure system EINVAL

-- the outcome of a write, by the open file to which its descriptor refers, if there is one
abbrev pub write_file_outcome : System → Request → Option OpenFile → Outcome
write_file_outcome system request None = failure system EBADF
write_file_outcome system request (Some file) =
    unless_refused system (
    error_if (not file.write) EBADF ∷
    error_if (is_socket file.kind) EINVAL ∷
    buffer_fault (register request 1) (register request 2) ∷ [])
    (write_kind_outcome system request file file.kind)

-- the outcome of write(fd, at, count)
abbrev pub write_outcome : System → Request → Outcome
write_outcome system request = write_file_outcome system request (file_at system.descriptors request.pid (register request 0))

-- the sum of a number and a signed 64-bit offset; none if the sum is below 0
abbrev pub signed_sum : ℕ → ℕ → Option ℕ
signed_sum base offset =
    if nat_lt offset (2 ^ 63) then Some (base + offset)
    else if nat_le (2 ^ 64 - offset) base then Some (base - (2 ^ 64 - offset))
    else None

-- the number from which lseek counts: 0 is the start, 1 the offset, 2 the size
abbrev pub seek_base : ℕ → ℕ → ℕ → Option ℕ
seek_base whence offset size =
    if whence == 0 then Some 0 else if whence == 1 then Some offset else if whence == 2 then Some size else None

-- the sum of a signed offset and this number, if there is one
abbrev pub sum_from : ℕ → Option ℕ → Option ℕ
sum_from offset None = None
sum_from offset (Some base) = signed_sum base offset

-- the offset, if there is one and it isn't above the greatest length of a file
abbrev pub offset_in_file : Option ℕ → Option ℕ
offset_in_file None = None
offset_in_file (Some place) = if nat_le place LONGEST_FILE then Some place else None

-- the offset that lseek sets, by the kind of the object that is open; only a file has offsets
abbrev pub file_offset : Tree → Request → OpenFile → Kind → ℕ → Option ℕ
file_offset tree request file object_kind.File obj =
    offset_in_file (sum_from (register request 1) (seek_base (register request 2) file.offset (size_of tree obj)))
file_offset tree request file object_kind.Dir obj = None
file_offset tree request file object_kind.Link obj = None

-- the offset that lseek sets, by the kind of the open file; only an object can have offsets
abbrev pub seek_offset : Tree → Request → OpenFile → FileKind → Option ℕ
seek_offset tree request file kind.Console = None
seek_offset tree request file (kind.Node obj) = file_offset tree request file (node_with_number tree obj).kind obj
seek_offset tree request file (kind.Socket port connected) = None

-- the outcome of an lseek, by the offset that it sets, if there is one
abbrev pub seek_outcome : System → Request → Option ℕ → Outcome
seek_outcome system request None = failure system EINVAL
seek_outcome system request (Some place) =
    success_with_table place [] (table_after_seek system.descriptors request.pid (register request 0) place)

-- the outcome of an lseek, by the open file to which its descriptor refers, if there is one
abbrev pub seek_file_outcome : System → Request → Option OpenFile → Outcome
seek_file_outcome system request None = failure system EBADF
seek_file_outcome system request (Some file) = seek_outcome system request (seek_offset system.tree request file file.kind)

-- the outcome of lseek(fd, offset, whence)
abbrev pub lseek_outcome : System → Request → Outcome
lseek_outcome system request = seek_file_outcome system request (file_at system.descriptors request.pid (register request 0))

-- the outcome of dup(fd)
abbrev pub dup_outcome : System → Request → Outcome
dup_outcome system request =
    unless_refused system (dup_refused system.descriptors request.pid (register request 0) ∷ [])
    (success_with_table (next_descriptor system request) [] (table_after_dup system.descriptors request.pid (register request 0)))
