-- Calls on descriptors: why each call is refused, and how it changes the table. The first case that applies decides, and a
-- refused call changes nothing.
use Rattle.std.specs.Prelude.{ℕ, ◌+◌, ◌==◌, Bool, true, false, if◌then◌else◌, List, [], ◌∷◌, ◌++◌, length, Option, Some, None, is_none, replicate}
use Rattle.std.specs.Ordering.{nat_cmp}
use Rattle.std.specs.Map.{remove_entry}
use Rattle.std.specs.BTreeMap.{is_at}
use Rattle.st_base.specs.declared.errno.Errno.{Errno}
use Rattle.st_base.specs.Errno.{error_if}
use Rattle.st_base.specs.declared.errno.Errno.TheVariants.{EBADF, EINVAL, EMFILE, EADDRINUSE, ECONNREFUSED}
use Rattle.st_model.specs.declared.open_file.TheConstants.{DESCRIPTORS}
use Rattle.st_model.specs.declared.open_file.OpenFile.{OpenFile}
use Rattle.st_model.specs.declared.open_file.FileKind.{FileKind}
use Rattle.st_model.specs.declared.open_file.FileKind.TheVariants.{Console, Node, Socket}
use Rattle.st_model.specs.Descriptors.{Table, places_in, file_number_at, file_at, least_free, with_places, with_place, with_file, is_port_in_use}

-- the table after a call: the old table if the call is refused, the new table if it succeeds
abbrev pub table_unless_refused : Option Errno → Table → Table → Table
table_unless_refused None old new = new
table_unless_refused (Some errno) old new = old

-- the places of a process all of whose descriptors are free
abbrev pub all_free : List (Option ℕ)
all_free = replicate DESCRIPTORS None

-- the places of a process whose descriptors 0, 1 and 2 refer to this open file and the next two
abbrev pub first_three_places : ℕ → List (Option ℕ)
first_three_places first = Some first ∷ Some (first + 1) ∷ Some (first + 2) ∷ replicate 61 None

-- the console as an open file, for reading and writing
abbrev pub console : OpenFile
console = record { kind = Console; read = true; write = true; append = false; offset = 0 }

-- the table with open files appended
abbrev pub with_more_files : Table → List OpenFile → Table
with_more_files t files = record { processes = t.processes; files = t.files ++ files }

-- the table after a process starts: its descriptors 0, 1 and 2 are the console, each with an open file of its own
abbrev pub table_after_start : Table → ℕ → Table
table_after_start t pid = with_places (with_more_files t (console ∷ console ∷ console ∷ [])) pid (first_three_places (length t.files))

-- the table after a process gets a copy of the descriptors of another process, which share their open files
abbrev pub table_after_copy : Table → ℕ → ℕ → Table
table_after_copy t from to = with_places t to (places_in t.processes from)

-- the table after a process's entry is removed
abbrev pub table_after_entry_removed : Table → ℕ → Table
table_after_entry_removed t to = record { processes = remove_entry (is_at (nat_cmp to)) t.processes; files = t.files }

-- the table after all descriptors of a process are closed
abbrev pub table_after_close_all : Table → ℕ → Table
table_after_close_all t pid = with_places t pid all_free

-- the table after this descriptor, if there is one, refers to a new open file
abbrev pub table_after_open_at : Table → ℕ → OpenFile → Option ℕ → Table
table_after_open_at t pid file None = t
table_after_open_at t pid file (Some fd) = with_place (with_more_files t (file ∷ [])) pid fd (Some (length t.files))

-- the table after an open: the process's least free descriptor refers to a new open file; if no descriptor is free, nothing changes
abbrev pub table_after_open : Table → ℕ → OpenFile → Table
table_after_open t pid file = table_after_open_at t pid file (least_free t pid)

-- the error for a descriptor that isn't open
abbrev pub bad_descriptor : Option OpenFile → Option Errno
bad_descriptor None = Some EBADF
bad_descriptor (Some file) = None

-- why closing a descriptor is refused: it isn't open
abbrev pub close_refused : Table → ℕ → ℕ → Option Errno
close_refused t pid fd = bad_descriptor (file_at t pid fd)

-- the table after a close: the descriptor is free
abbrev pub table_after_close : Table → ℕ → ℕ → Table
table_after_close t pid fd = table_unless_refused (close_refused t pid fd) t (with_place t pid fd None)

-- why a duplication is refused, by the open file and the least free descriptor: it isn't open, or no descriptor is free
abbrev pub dup_refused_at : Option OpenFile → Option ℕ → Option Errno
dup_refused_at None least = Some EBADF
dup_refused_at (Some file) None = Some EMFILE
dup_refused_at (Some file) (Some least) = None

-- why duplicating a descriptor of a process is refused
abbrev pub dup_refused : Table → ℕ → ℕ → Option Errno
dup_refused t pid fd = dup_refused_at (file_at t pid fd) (least_free t pid)

-- why an open is refused: no descriptor is free
abbrev pub open_refused : Table → ℕ → Option Errno
open_refused t pid = error_if (is_none (least_free t pid)) EMFILE

-- the table after a duplication, by the open file to be shared and by the least free descriptor, if they exist
abbrev pub table_after_dup_at : Table → ℕ → Option ℕ → Option OpenFile → Option ℕ → Table
table_after_dup_at t pid number None least = t
table_after_dup_at t pid number (Some file) None = t
table_after_dup_at t pid number (Some file) (Some least) = with_place t pid least number

-- the table after a duplication: the least free descriptor shares the open file of this descriptor
abbrev pub table_after_dup : Table → ℕ → ℕ → Table
table_after_dup t pid fd = table_after_dup_at t pid (file_number_at t pid fd) (file_at t pid fd) (least_free t pid)

-- the table after an open file, if it exists, has changed for each descriptor that refers to it
abbrev pub with_changed_file_at : Table → Option ℕ → Option OpenFile → (OpenFile → OpenFile) → Table
with_changed_file_at t number None change = t
with_changed_file_at t number (Some file) change = with_file t number (change file)

-- the table after the open file of a process's descriptor has changed, if the descriptor is open
abbrev pub with_changed_file : Table → ℕ → ℕ → (OpenFile → OpenFile) → Table
with_changed_file t pid fd change = with_changed_file_at t (file_number_at t pid fd) (file_at t pid fd) change

-- why setting the offset of a descriptor is refused: it isn't open
abbrev pub seek_refused : Table → ℕ → ℕ → Option Errno
seek_refused t pid fd = bad_descriptor (file_at t pid fd)

-- the table after a seek: the open file of the descriptor has this offset
abbrev pub table_after_seek : Table → ℕ → ℕ → ℕ → Table
table_after_seek t pid fd offset = table_unless_refused (seek_refused t pid fd) t (with_changed_file t pid fd (λ file. record file { offset = offset }))

-- why binding a socket without a port is refused: 0 isn't a port, or the port is in use
abbrev pub port_refused : ℕ → Bool → Option Errno
port_refused port taken = if port == 0 then Some EINVAL else if taken then Some EADDRINUSE else None

-- why binding is refused, by the kind of the open file: only a socket without a port can be bound
abbrev pub bind_refused_for : FileKind → ℕ → Bool → Option Errno
bind_refused_for Console port taken = Some EINVAL
bind_refused_for (Node obj) port taken = Some EINVAL
bind_refused_for (Socket (Some bound) connected) port taken = Some EINVAL
bind_refused_for (Socket None connected) port taken = port_refused port taken

-- why binding is refused, by the open file to which the descriptor refers, if there is one
abbrev pub bind_refused_at : Option OpenFile → ℕ → Bool → Option Errno
bind_refused_at None port taken = Some EBADF
bind_refused_at (Some file) port taken = bind_refused_for file.kind port taken

-- why binding a descriptor of a process to this port is refused
abbrev pub bind_refused : Table → ℕ → ℕ → ℕ → Option Errno
bind_refused t pid fd port = bind_refused_at (file_at t pid fd) port (is_port_in_use t port)

-- the kind of an open file after it is bound to this port; a kind other than a socket doesn't change
abbrev pub with_port : ℕ → FileKind → FileKind
with_port port Console = Console
with_port port (Node obj) = Node obj
with_port port (Socket before connected) = Socket (Some port) connected

-- the table after a bind: the socket of the descriptor has this port
abbrev pub table_after_bind : Table → ℕ → ℕ → ℕ → Table
table_after_bind t pid fd port =
    table_unless_refused (bind_refused t pid fd port) t (with_changed_file t pid fd (λ file. record file { kind = with_port port file.kind }))

-- why connecting is refused, by the kind of the open file: only a socket that isn't connected can be connected, to a port in use
abbrev pub connect_refused_for : FileKind → Bool → Option Errno
connect_refused_for Console taken = Some EINVAL
connect_refused_for (Node obj) taken = Some EINVAL
connect_refused_for (Socket port true) taken = Some EINVAL
connect_refused_for (Socket port false) taken = if taken then None else Some ECONNREFUSED

-- why connecting is refused, by the open file to which the descriptor refers, if there is one
abbrev pub connect_refused_at : Option OpenFile → Bool → Option Errno
connect_refused_at None taken = Some EBADF
connect_refused_at (Some file) taken = connect_refused_for file.kind taken

-- why connecting a descriptor of a process to this port is refused
abbrev pub connect_refused : Table → ℕ → ℕ → ℕ → Option Errno
connect_refused t pid fd port = connect_refused_at (file_at t pid fd) (is_port_in_use t port)

-- the kind of an open file after it is connected; a kind other than a socket doesn't change
abbrev pub with_connection : FileKind → FileKind
with_connection Console = Console
with_connection (Node obj) = Node obj
with_connection (Socket port before) = Socket port true

-- the table after a connect: the socket of the descriptor is connected
abbrev pub table_after_connect : Table → ℕ → ℕ → ℕ → Table
table_after_connect t pid fd port =
    table_unless_refused (connect_refused t pid fd port) t (with_changed_file t pid fd (λ file. record file { kind = with_connection file.kind }))
