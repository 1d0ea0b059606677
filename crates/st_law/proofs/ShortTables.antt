-- Descriptors that lead to no link: calls on descriptors keep this property.
use Rattle.std.proofs.Common.{ℕ, zero, suc, ◌-◌, List, [], ◌∷◌, ◌++◌, slice_get, slice_set, Option, Some, None}
use Rattle.std.specs.List.{fold}
use Rattle.st_base.specs.declared.errno.Errno.{Errno}
use Rattle.st_model.specs.DescriptorCalls.{table_unless_refused, console, table_after_start, table_after_copy, table_after_close_all, table_after_open_at, table_after_open, close_refused, table_after_close, table_after_dup_at, table_after_dup, with_changed_file_at, with_changed_file, seek_refused, table_after_seek, bind_refused, with_port, table_after_bind, connect_refused, with_connection, table_after_connect}
use Rattle.st_model.specs.Descriptors.{Table, file_number_at, file_of_number, file_at, least_free, with_place, with_file}
use Rattle.st_model.specs.Tree.{Node}
use Rattle.st_model.specs.declared.open_file.FileKind.{FileKind}
use Rattle.st_model.specs.declared.open_file.FileKind.TheVariants as kind
use Rattle.st_model.specs.declared.open_file.OpenFile.{OpenFile}
use Rattle.st_law.proofs.ShortTrees.{IsPlain, IsShortStep}

-- an open file is no link among these objects
abbrev pub IsPlainFile : List Node → FileKind → Type 0
IsPlainFile nodes kind.Console = Unit {0}
IsPlainFile nodes (kind.Node obj) = IsPlain nodes obj
IsPlainFile nodes (kind.Socket port connected) = Unit {0}

-- none of these open files is a link
abbrev pub ArePlainFiles : List Node → List OpenFile → Type 0
ArePlainFiles nodes [] = Unit {0}
ArePlainFiles nodes (file ∷ files) = IsPlainFile nodes file.kind × ArePlainFiles nodes files

-- no open file of a table is a link
abbrev pub HasPlainFiles : List Node → Table → Type 0
HasPlainFiles nodes t = ArePlainFiles nodes t.files

-- a property of an open file, if there is one
abbrev pub IfFile : (OpenFile → Type 0) → Option OpenFile → Type 0
IfFile P None = Unit {0}
IfFile P (Some file) = P file

-- ---- other objects

-- changes that keep objects from becoming links keep one open file from becoming one
plain_then : (before after : List Node) → IsShortStep before after → (k : FileKind) → IsPlainFile before k → IsPlainFile after k
plain_then before after step kind.Console plain = tt
plain_then before after step (kind.Node obj) plain = step.plain (obj - 1) plain
plain_then before after step (kind.Socket port connected) plain = tt

-- changes that keep objects from becoming links keep open files from becoming links
pub files_then : (before after : List Node) → IsShortStep before after → (files : List OpenFile) → ArePlainFiles before files → ArePlainFiles after files
files_then before after step [] plain = tt
files_then before after step (file ∷ files) plain = (plain_then before after step file.kind plain.0, files_then before after step files plain.1)

-- ---- calls on descriptors

module _ (nodes : List Node) where
  -- with more open files
  files_push : (files more : List OpenFile) → ArePlainFiles nodes files → ArePlainFiles nodes more → ArePlainFiles nodes (files ++ more)
  files_push [] more plain here = here
  files_push (file ∷ files) more plain here = (plain.0, files_push files more plain.1 here)

  -- with an open file replaced
  files_set : (files : List OpenFile) (number : ℕ) (file : OpenFile) → ArePlainFiles nodes files → IsPlainFile nodes file.kind → ArePlainFiles nodes (slice_set files number file)
  files_set [] number file plain here = tt
  files_set (first ∷ files) zero file plain here = (here, plain.1)
  files_set (first ∷ files) (suc number) file plain here = (plain.0, files_set files number file plain.1 here)

  -- the open file at an index, if there is one
  file_get : (files : List OpenFile) (number : ℕ) → ArePlainFiles nodes files → IfFile (λ file. IsPlainFile nodes file.kind) (slice_get files number)
  file_get [] number plain = tt
  file_get (file ∷ files) zero plain = plain.0
  file_get (file ∷ files) (suc number) plain = file_get files number plain.1

  -- the open file of a number, if there is one
  file_numbered : (files : List OpenFile) (o : Option ℕ) → ArePlainFiles nodes files → IfFile (λ file. IsPlainFile nodes file.kind) (file_of_number files o)
  file_numbered files None plain = tt
  file_numbered files (Some number) plain = file_get files number plain

  -- the open file that a descriptor leads to is no link
  pub file_plain : (t : Table) (pid fd : ℕ) → HasPlainFiles nodes t → IfFile (λ file. IsPlainFile nodes file.kind) (file_at t pid fd)
  file_plain t pid fd plain = file_numbered t.files (file_number_at t pid fd) plain

  -- a table after a call that may be refused
  unless_plain : (o : Option Errno) (before after : Table) → HasPlainFiles nodes before → HasPlainFiles nodes after → HasPlainFiles nodes (table_unless_refused o before after)
  unless_plain None before after x y = y
  unless_plain (Some errno) before after x y = x

  -- a new open file, by the free descriptor
  open_at_plain : (t : Table) (pid : ℕ) (file : OpenFile) (o : Option ℕ) → IsPlainFile nodes file.kind → HasPlainFiles nodes t → HasPlainFiles nodes (table_after_open_at t pid file o)
  open_at_plain t pid file None here plain = plain
  open_at_plain t pid file (Some fd) here plain = files_push t.files (file ∷ []) plain (here, tt)

  -- a new open file
  pub open_plain : (t : Table) (pid : ℕ) (file : OpenFile) → IsPlainFile nodes file.kind → HasPlainFiles nodes t → HasPlainFiles nodes (table_after_open t pid file)
  open_plain t pid file here plain = open_at_plain t pid file (least_free t pid) here plain

  -- a descriptor is closed
  pub close_plain : (t : Table) (pid fd : ℕ) → HasPlainFiles nodes t → HasPlainFiles nodes (table_after_close t pid fd)
  close_plain t pid fd plain = unless_plain (close_refused t pid fd) t (with_place t pid fd None) plain plain

  -- a duplicate, by the shared open file and the free descriptor
  dup_at_plain : (t : Table) (pid : ℕ) (number : Option ℕ) (o : Option OpenFile) (least : Option ℕ) → HasPlainFiles nodes t → HasPlainFiles nodes (table_after_dup_at t pid number o least)
  dup_at_plain t pid number None least plain = plain
  dup_at_plain t pid number (Some file) None plain = plain
  dup_at_plain t pid number (Some file) (Some least) plain = plain

  -- a duplicate
  pub dup_plain : (t : Table) (pid fd : ℕ) → HasPlainFiles nodes t → HasPlainFiles nodes (table_after_dup t pid fd)
  dup_plain t pid fd plain = dup_at_plain t pid (file_number_at t pid fd) (file_at t pid fd) (least_free t pid) plain

  -- the descriptors of a child
  pub copy_plain : (t : Table) (from to : ℕ) → HasPlainFiles nodes t → HasPlainFiles nodes (table_after_copy t from to)
  copy_plain t from to plain = plain

  -- the descriptors of a process that has ended
  pub close_all_plain : (t : Table) (pid : ℕ) → HasPlainFiles nodes t → HasPlainFiles nodes (table_after_close_all t pid)
  close_all_plain t pid plain = plain

  -- a change of an open file that doesn't make it a link
  abbrev KeepsPlain : (OpenFile → OpenFile) → Type 0
  KeepsPlain change = (file : OpenFile) → IsPlainFile nodes file.kind → IsPlainFile nodes (change file).kind

  -- an open file with this new value
  with_file_plain : (t : Table) (number : Option ℕ) (file : OpenFile) → IsPlainFile nodes file.kind → HasPlainFiles nodes t → HasPlainFiles nodes (with_file t number file)
  with_file_plain t None file here plain = plain
  with_file_plain t (Some number) file here plain = files_set t.files number file plain here

  -- a change of an open file, if there is one
  changed_at_plain : (t : Table) (number : Option ℕ) (o : Option OpenFile) (change : OpenFile → OpenFile) → KeepsPlain change → IfFile (λ file. IsPlainFile nodes file.kind) o → HasPlainFiles nodes t → HasPlainFiles nodes (with_changed_file_at t number o change)
  changed_at_plain t number None change keeps found plain = plain
  changed_at_plain t number (Some file) change keeps found plain = with_file_plain t number (change file) (keeps file found) plain

  -- a change of the open file of a descriptor
  changed_plain : (t : Table) (pid fd : ℕ) (change : OpenFile → OpenFile) → KeepsPlain change → HasPlainFiles nodes t → HasPlainFiles nodes (with_changed_file t pid fd change)
  changed_plain t pid fd change keeps plain = changed_at_plain t (file_number_at t pid fd) (file_at t pid fd) change keeps (file_plain t pid fd plain) plain

  -- another offset
  pub seek_plain : (t : Table) (pid fd offset : ℕ) → HasPlainFiles nodes t → HasPlainFiles nodes (table_after_seek t pid fd offset)
  seek_plain t pid fd offset plain =
      unless_plain (seek_refused t pid fd) t (with_changed_file t pid fd (λ file. record file { offset = offset })) plain
      (changed_plain t pid fd (λ file. record file { offset = offset }) (λ file here. here) plain)

  -- binding doesn't make an open file a link
  port_plain : (port : ℕ) (k : FileKind) → IsPlainFile nodes k → IsPlainFile nodes (with_port port k)
  port_plain port kind.Console plain = tt
  port_plain port (kind.Node obj) plain = plain
  port_plain port (kind.Socket before connected) plain = tt

  -- a socket is bound
  pub bind_plain : (t : Table) (pid fd port : ℕ) → HasPlainFiles nodes t → HasPlainFiles nodes (table_after_bind t pid fd port)
  bind_plain t pid fd port plain =
      unless_plain (bind_refused t pid fd port) t (with_changed_file t pid fd (λ file. record file { kind = with_port port file.kind })) plain
      (changed_plain t pid fd (λ file. record file { kind = with_port port file.kind }) (λ file here. port_plain port file.kind here) plain)

  -- connecting doesn't make an open file a link
  connection_plain : (k : FileKind) → IsPlainFile nodes k → IsPlainFile nodes (with_connection k)
  connection_plain kind.Console plain = tt
  connection_plain (kind.Node obj) plain = plain
  connection_plain (kind.Socket port before) plain = tt

  -- a socket is connected
  pub connect_plain : (t : Table) (pid fd port : ℕ) → HasPlainFiles nodes t → HasPlainFiles nodes (table_after_connect t pid fd port)
  connect_plain t pid fd port plain =
      unless_plain (connect_refused t pid fd port) t (with_changed_file t pid fd (λ file. record file { kind = with_connection file.kind })) plain
      (changed_plain t pid fd (λ file. record file { kind = with_connection file.kind }) (λ file here. connection_plain file.kind here) plain)

  -- processes that begin with consoles
  pub start_plain : (t : Table) (pids : List ℕ) → HasPlainFiles nodes t → HasPlainFiles nodes (fold table_after_start t pids)
  start_plain t [] plain = plain
  start_plain t (pid ∷ pids) plain = start_plain (table_after_start t pid) pids (files_push t.files (console ∷ console ∷ console ∷ []) plain (tt, (tt, (tt, tt))))
