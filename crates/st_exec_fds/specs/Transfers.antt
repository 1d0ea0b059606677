-- Moving bytes between an open file and memory: when it is possible, why it fails, and which bytes are moved.
use Rattle.std.specs.Prelude.{ℕ, not, List, [], ◌∷◌, Option, Some, None}
use Rattle.st_base.specs.Errno.{error_if, first_error}
use Rattle.st_base.specs.declared.errno.Errno.{Errno}
use Rattle.st_base.specs.declared.errno.Errno.TheVariants.{EBADF, EINVAL, EISDIR}
use Rattle.st_model.specs.Tree.{Tree}
use Rattle.st_model.specs.declared.open_file.FileKind.{FileKind}
use Rattle.st_model.specs.declared.open_file.FileKind.TheVariants.{Console, Node, Socket}
use Rattle.st_model.specs.declared.open_file.OpenFile.{OpenFile}
use Rattle.st_trace.specs.declared.entry.Change.{Change}
use Rattle.st_trace.specs.declared.entry.Change.TheVariants.{Put, Written}
use Rattle.st_tree.specs.Refusals.{IsFile}
use Rattle.st_effects.specs.Descriptors.{buffer_fault, is_open_directory, is_socket}

-- what is open is the console or a file
abbrev pub IsPlainFile : Tree → FileKind → Type 0
IsPlainFile tree Console = Unit {0}
IsPlainFile tree (Node obj) = IsFile tree obj
IsPlainFile tree (Socket port connected) = ⊥

-- why `count` bytes can't be read to byte `at` of memory from the open file that a descriptor refers to
abbrev pub read_refused : Tree → Option OpenFile → ℕ → ℕ → Option Errno
read_refused tree None at count = Some EBADF
read_refused tree (Some file) at count = first_error (
    error_if (not file.read) EBADF ∷
    error_if (is_socket file.kind) EINVAL ∷
    error_if (is_open_directory tree file.kind) EISDIR ∷
    buffer_fault at count ∷ [])

-- why `count` bytes can't be written from byte `at` of memory to the open file that a descriptor refers to
abbrev pub write_refused : Option OpenFile → ℕ → ℕ → Option Errno
write_refused None at count = Some EBADF
write_refused (Some file) at count = first_error (
    error_if (not file.write) EBADF ∷
    error_if (is_socket file.kind) EINVAL ∷
    buffer_fault at count ∷ [])

-- the bytes that the first of these changes puts or writes
abbrev pub bytes_moved : List Change → List ℕ
bytes_moved (Put space at bytes ∷ changes) = bytes
bytes_moved (Written obj at bytes ∷ changes) = bytes
bytes_moved changes = []
