-- A call that fails leaves the descriptors as they were.
use Rattle.std.proofs.Common.{◌≡◌, ℕ, Bool, true, false, cond, ◌==◌, List, [], Option, Some, None, refl}
use Rattle.st_base.specs.Errno.{first_error}
use Rattle.st_base.specs.declared.errno.Errno.{Errno}
use Rattle.st_calls.specs.declared.call.SysCall.{SysCall}
use Rattle.st_calls.specs.declared.call.SysCall.TheVariants.{Open, Close, Read, Write, Lseek, Dup, Stat, Lstat, Access, Readlink, Unlink, Link, Symlink, Rename, Mkdir, Rmdir, Chdir, Chmod, Chown, Truncate, Fork, Execve, Exit, Kill, GetPid, GetUid, GetEuid, SetUid, SetEuid, SetGid, SetEgid, Socket, Bind, Connect}
use Rattle.st_model.specs.Descriptors.{Table, file_at}
use Rattle.st_model.specs.declared.object.NewKind.{NewKind}
use Rattle.st_model.specs.declared.object.NewKind.TheVariants as made
use Rattle.st_model.specs.declared.open_file.FileKind.{FileKind}
use Rattle.st_model.specs.declared.open_file.FileKind.TheVariants as kind
use Rattle.st_model.specs.declared.open_file.OpenFile.{OpenFile}
use Rattle.st_names.specs.Name.{Components}
use Rattle.st_effects.specs.Descriptors.{open_node_outcome, read_file_outcome, write_bytes_outcome, write_kind_outcome, write_file_outcome, seek_outcome, seek_offset, seek_file_outcome, write_offset, low_mode}
use Rattle.st_effects.specs.Effect.{effect}
use Rattle.st_effects.specs.NameTests.{Object, object_at, on_found, on_object}
use Rattle.st_effects.specs.Names.{make_outcome, move_outcome}
use Rattle.st_effects.specs.System.{System, Request, Outcome, success, unless_error, unless_refused, register, arg_name_at}
use Rattle.st_trace.specs.declared.entry.CallResult.{CallResult}
use Rattle.st_trace.specs.declared.entry.CallResult.TheVariants.{Value, Failed}
use Rattle.st_trace.specs.declared.entry.Change.{Change}

module _ (system : System) (request : Request) where
  -- if a call fails, the descriptors are those that it found
  abbrev Keeps : Outcome → Type 0
  Keeps outcome = (errno : Errno) → outcome.result ≡ Failed errno → outcome.descriptors ≡ system.descriptors

  unless_error_keeps : (o : Option Errno) (outcome : Outcome) → Keeps outcome → Keeps (unless_error system o outcome)
  unless_error_keeps None outcome x = x
  unless_error_keeps (Some errno) outcome x = λ other is. refl

  unless : (reasons : List (Option Errno)) (outcome : Outcome) → Keeps outcome → Keeps (unless_refused system reasons outcome)
  unless reasons outcome x = unless_error_keeps (first_error reasons) outcome x

  -- a call that succeeds doesn't fail
  well : (number : ℕ) (changes : List Change) (table : Table) → Keeps (record { result = Value number; changes = changes; descriptors = table })
  well number changes table errno is = absurd cc

  same : (result : CallResult) (changes : List Change) → Keeps (record { result = result; changes = changes; descriptors = system.descriptors })
  same result changes errno is = refl

  found : (outcome : Object → Outcome) → ((object : Object) → Keeps (outcome object)) → (o : Option Object) → Keeps (on_found system outcome o)
  found outcome x None = λ errno is. refl
  found outcome x (Some object) = x object

  on : (name : Components) (outcome : Object → Outcome) → ((object : Object) → Keeps (outcome object)) → Keeps (on_object system name outcome)
  on name outcome x = found outcome x (object_at system.tree name)

  either : (b : Bool) (first second : Outcome) → Keeps first → Keeps second → Keeps (cond b first second)
  either true first second x y = x
  either false first second x y = y

  -- ---- calls on descriptors

  open_keeps : (o : Option Object) → Keeps (open_node_outcome system request o)
  open_keeps None = search (unless, well)
  open_keeps (Some object) = search (unless, well)

  read_keeps : (o : Option OpenFile) → Keeps (read_file_outcome system request o)
  read_keeps None = λ errno is. refl
  read_keeps (Some file) = search (unless, well)

  written_keeps : (obj start : ℕ) → Keeps (write_bytes_outcome system request obj start)
  written_keeps obj start = search (unless, well)

  write_kind_keeps : (file : OpenFile) (k : FileKind) → Keeps (write_kind_outcome system request file k)
  write_kind_keeps file kind.Console = λ errno is. refl
  write_kind_keeps file (kind.Node obj) = either (register request 2 == 0) (success system 0 []) (write_bytes_outcome system request obj (write_offset system.tree obj file)) (λ errno is. refl) (written_keeps obj (write_offset system.tree obj file))
  write_kind_keeps file (kind.Socket port connected) = λ errno is. refl

  write_keeps : (o : Option OpenFile) → Keeps (write_file_outcome system request o)
  write_keeps None = λ errno is. refl
  write_keeps (Some file) = search (unless, write_kind_keeps)

  sought_keeps : (o : Option ℕ) → Keeps (seek_outcome system request o)
  sought_keeps None = λ errno is. refl
  sought_keeps (Some place) = search (well)

  seek_keeps : (o : Option OpenFile) → Keeps (seek_file_outcome system request o)
  seek_keeps None = λ errno is. refl
  seek_keeps (Some file) = sought_keeps (seek_offset system.tree request file file.kind)

  -- ---- calls on names

  make_keeps : (name : Components) (k : NewKind) (mode : ℕ) → Keeps (make_outcome system request name k mode)
  make_keeps name k mode = search (unless, same)

  moved_keeps : (old new : Components) (object other : Object) → Keeps (move_outcome system request old new object (Some other))
  moved_keeps old new object other = search (either, unless, same)

  move_keeps : (old new : Components) (object : Object) (o : Option Object) → Keeps (move_outcome system request old new object o)
  move_keeps old new object None = search (unless, same)
  move_keeps old new object (Some other) = moved_keeps old new object other

-- no call that fails changes the descriptors

pub failure_keeps : (system : System) (request : Request) (call : SysCall) (errno : Errno) → (effect system call request).result ≡ Failed errno → (effect system call request).descriptors ≡ system.descriptors
failure_keeps system request Open = search (unless, open_keeps)
failure_keeps system request Close = search (unless, well)
failure_keeps system request Read = read_keeps system request (file_at system.descriptors request.pid (register request 0))
failure_keeps system request Write = write_keeps system request (file_at system.descriptors request.pid (register request 0))
failure_keeps system request Lseek = seek_keeps system request (file_at system.descriptors request.pid (register request 0))
failure_keeps system request Dup = search (unless, well)
failure_keeps system request Stat = search (unless, on, same)
failure_keeps system request Lstat = search (unless, on, same)
failure_keeps system request Access = search (unless, on, same)
failure_keeps system request Readlink = search (unless, on, same)
failure_keeps system request Unlink = search (unless, on, same)
failure_keeps system request Link = search (unless, on, same)
failure_keeps system request Symlink = search (unless, make_keeps)
failure_keeps system request Rename = search (unless, on, move_keeps)
failure_keeps system request Mkdir = make_keeps system request (arg_name_at request 0) made.Dir (low_mode (register request 1))
failure_keeps system request Rmdir = search (unless, on, same)
failure_keeps system request Chdir = search (unless, on, same)
failure_keeps system request Chmod = search (unless, on, same)
failure_keeps system request Chown = search (unless, on, same)
failure_keeps system request Truncate = search (unless, on, same)
failure_keeps system request Fork = λ errno is. absurd (let no : Value system.next_process ≡ Failed errno = is in cc)
failure_keeps system request Execve = search (unless, on, same)
failure_keeps system request Exit = λ errno is. refl
failure_keeps system request Kill = search (unless, same)
failure_keeps system request GetPid = λ errno is. refl
failure_keeps system request GetUid = λ errno is. refl
failure_keeps system request GetEuid = λ errno is. refl
failure_keeps system request SetUid = search (unless, same)
failure_keeps system request SetEuid = search (unless, same)
failure_keeps system request SetGid = search (unless, same)
failure_keeps system request SetEgid = search (unless, same)
failure_keeps system request Socket = search (unless, well)
failure_keeps system request Bind = search (unless, well)
failure_keeps system request Connect = search (unless, well)
