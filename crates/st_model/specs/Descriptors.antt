-- The descriptors of every process, and the open files that they share.
use Rattle.std.specs.Prelude.{ℕ, Bool, false, List, [], Option, Some, None, is_some, is_none, slice_get, slice_index_or, slice_set, nat_eq}
use Rattle.std.specs.Option.{unwrap_or, option_and_then}
use Rattle.std.specs.Ordering.{nat_cmp}
use Rattle.std.specs.List.{list_any, position}
use Rattle.std.specs.Map.{lookup, values_of}
use Rattle.std.specs.BTreeMap.{insert_entry, is_at}
use Rattle.st_model.specs.declared.open_file.OpenFile.{OpenFile}
use Rattle.st_model.specs.declared.open_file.FileKind.{FileKind}
use Rattle.st_model.specs.declared.open_file.FileKind.TheVariants.{Console, Node, Socket}

-- The descriptors of every process. Processes are sorted by number. Each has a place for each of its descriptors: the number of
-- the open file to which the descriptor refers, or none if the descriptor is free. Two descriptors with the same number share
-- their open file. Open files are numbered from 0 in the order in which they were opened.
pub record Table : Type 0 where
  pub processes : List (ℕ × List (Option ℕ))
  pub files : List OpenFile

-- whether a process has an entry in the table
abbrev pub has_table : Table → ℕ → Bool
has_table t pid = is_some (lookup (is_at (nat_cmp pid)) t.processes)

-- the places of a process, from descriptor 0 on
abbrev pub places_in : List (ℕ × List (Option ℕ)) → ℕ → List (Option ℕ)
places_in processes pid = unwrap_or (lookup (is_at (nat_cmp pid)) processes) []

-- the number of the open file to which a descriptor refers
abbrev pub file_number_at : Table → ℕ → ℕ → Option ℕ
file_number_at t pid fd = slice_index_or (places_in t.processes pid) fd None

-- the open file with this number
abbrev pub file_of_number : List OpenFile → Option ℕ → Option OpenFile
file_of_number files number = option_and_then (slice_get files) number

-- the open file to which a descriptor refers; none if the descriptor isn't open
abbrev pub file_at : Table → ℕ → ℕ → Option OpenFile
file_at t pid fd = file_of_number t.files (file_number_at t pid fd)

-- the least free descriptor; none if no descriptor is free
abbrev pub least_free : Table → ℕ → Option ℕ
least_free t pid = position is_none (places_in t.processes pid)

-- the table with these places for a process, and nothing else changed
abbrev pub with_places : Table → ℕ → List (Option ℕ) → Table
with_places t pid places = record { processes = insert_entry nat_cmp t.processes pid places; files = t.files }

-- the table in which one descriptor of a process refers to this open file or is free, and nothing else changed
abbrev pub with_place : Table → ℕ → ℕ → Option ℕ → Table
with_place t pid fd number = with_places t pid (slice_set (places_in t.processes pid) fd number)

-- the table with an open file replaced, for each descriptor that refers to it, and nothing else changed
abbrev pub with_file : Table → Option ℕ → OpenFile → Table
with_file t None file = t
with_file t (Some number) file = record { processes = t.processes; files = slice_set t.files number file }

-- the port to which an open file is bound
abbrev pub port_of : FileKind → Option ℕ
port_of Console = None
port_of (Node obj) = None
port_of (Socket port connected) = port

-- whether there is a port and it equals this port
abbrev pub is_same_port : ℕ → Option ℕ → Bool
is_same_port port None = false
is_same_port port (Some other) = nat_eq other port

-- whether there is an open file and it is bound to this port
abbrev pub is_bound_to : ℕ → Option OpenFile → Bool
is_bound_to port None = false
is_bound_to port (Some file) = is_same_port port (port_of file.kind)

-- whether one of a process's descriptors refers to an open file that is bound to this port
abbrev pub has_bound_file : List OpenFile → ℕ → List (Option ℕ) → Bool
has_bound_file files port places = list_any (λ number. is_bound_to port (file_of_number files number)) places

-- whether some descriptor of some process refers to an open file that is bound to this port
abbrev pub is_port_in_use : Table → ℕ → Bool
is_port_in_use t port = list_any (has_bound_file t.files port) (values_of t.processes)
