-- The changes that a call can make: those of a fork, of an execve, of a call that sets ids, and all others. The others leave every
-- process's ids and policy, the numbers of messages, and the processes of threads.
use Rattle.std.proofs.Common.{◌≡◌, ℕ, Bool, true, false, cond, ◌==◌, List, [], ◌∷◌, Option, Some, None, refl}
use Rattle.st_base.specs.Errno.{first_error}
use Rattle.st_base.specs.declared.errno.Errno.{Errno}
use Rattle.st_calls.specs.declared.call.SysCall.{SysCall}
use Rattle.st_calls.specs.declared.call.SysCall.TheVariants.{Open, Close, Read, Write, Lseek, Dup, Stat, Lstat, Access, Readlink, Unlink, Link, Symlink, Rename, Mkdir, Rmdir, Chdir, Chmod, Chown, Truncate, Fork, Execve, Exit, Kill, GetPid, GetUid, GetEuid, SetUid, SetEuid, SetGid, SetEgid, Socket, Bind, Connect}
use Rattle.st_base.specs.declared.ids.Ids.{Ids}
use Rattle.st_model.specs.Descriptors.{Table, file_at}
use Rattle.st_calls.specs.Call.{has_flag, sets_ids}
use Rattle.st_calls.specs.declared.flags.TheConstants.{O_TRUNC}
use Rattle.st_model.specs.Identity.{ids_after_set, set_refused}
use Rattle.st_model.specs.declared.object.NewKind.{NewKind}
use Rattle.st_model.specs.declared.object.NewKind.TheVariants as made
use Rattle.st_model.specs.declared.open_file.FileKind.{FileKind}
use Rattle.st_model.specs.declared.open_file.FileKind.TheVariants as kind
use Rattle.st_model.specs.declared.open_file.OpenFile.{OpenFile}
use Rattle.st_names.specs.Name.{Components}
use Rattle.st_effects.specs.Descriptors.{open_object_outcome, open_node_outcome, truncation, put_changes, read_file_outcome, write_bytes_outcome, write_kind_outcome, write_file_outcome, seek_outcome, seek_offset, seek_file_outcome, write_offset, low_mode}
use Rattle.st_effects.specs.Effect.{effect}
use Rattle.st_effects.specs.NameTests.{Object, object_at, on_found, on_object}
use Rattle.st_effects.specs.Names.{make_outcome, move_outcome}
use Rattle.st_effects.specs.Processes.{policy_changes, set_ids_outcome, renewals}
use Rattle.st_effects.specs.System.{System, Request, Outcome, success, unless_error, unless_refused, register, arg_name_at}
use Rattle.st_trace.specs.declared.entry.CallResult.{CallResult}
use Rattle.st_trace.specs.declared.entry.Change.{Change}
use Rattle.st_trace.specs.declared.entry.Change.TheVariants.{Cut, Forked, Execed, SetIds, Dying, Renewed, Policy}

-- a change that leaves ids, policies, numbers and the processes of threads
abbrev pub IsQuiet : Change → Type 0
IsQuiet (Forked pid space tid) = ⊥
IsQuiet (Execed binary space) = ⊥
IsQuiet (SetIds ids) = ⊥
IsQuiet (Renewed old new) = ⊥
IsQuiet (Policy binary) = ⊥
IsQuiet _ = Unit {0}

-- each of some changes has a property
abbrev pub Each : (Change → Type 0) → List Change → Type 0
Each P [] = Unit {0}
Each P (c ∷ cs) = P c × Each P cs

abbrev pub AreQuiet : List Change → Type 0
AreQuiet changes = Each IsQuiet changes

-- the changes that a call can make in a system
pub data Shape (system : System) (request : Request) (call : SysCall) (changes : List Change) : Type 0 where
  quiet : AreQuiet changes → Shape system request call changes
  forked : call ≡ Fork → changes ≡ Forked system.next_process system.next_space request.child ∷ [] → Shape system request call changes
  execed : (binary : List ℕ) → changes ≡ Execed binary system.next_space ∷ policy_changes request.inherit binary → Shape system request call changes
  renewed : (ids : Ids) → sets_ids call ≡ true → changes ≡ SetIds ids ∷ renewals request.pid request.tid system.next_number system.held → Shape system request call changes

module _ (system : System) (request : Request) (call : SysCall) where
  abbrev Shaped : Outcome → Type 0
  Shaped outcome = Shape system request call outcome.changes

  -- a refused call changes nothing
  unless_error_shaped : (o : Option Errno) (outcome : Outcome) → Shaped outcome → Shaped (unless_error system o outcome)
  unless_error_shaped None outcome x = x
  unless_error_shaped (Some errno) outcome x = quiet tt

  -- calls with no change, one change, or two changes
  unless : (reasons : List (Option Errno)) (outcome : Outcome) → Shaped outcome → Shaped (unless_refused system reasons outcome)
  unless reasons outcome x = unless_error_shaped (first_error reasons) outcome x

  none : (result : CallResult) (table : Table) → Shaped (record { result = result; changes = []; descriptors = table })
  none result table = quiet tt

  one : (result : CallResult) (table : Table) (c : Change) → IsQuiet c → Shaped (record { result = result; changes = c ∷ []; descriptors = table })
  one result table c x = quiet (x, tt)

  found : (outcome : Object → Outcome) → ((object : Object) → Shaped (outcome object)) → (o : Option Object) → Shaped (on_found system outcome o)
  found outcome x None = quiet tt
  found outcome x (Some object) = x object

  on : (name : Components) (outcome : Object → Outcome) → ((object : Object) → Shaped (outcome object)) → Shaped (on_object system name outcome)
  on name outcome x = found outcome x (object_at system.tree name)

  two : (result : CallResult) (table : Table) (c d : Change) → IsQuiet c → IsQuiet d → Shaped (record { result = result; changes = c ∷ d ∷ []; descriptors = table })
  two result table c d x y = quiet (x, (y, tt))

  some : (result : CallResult) (table : Table) (changes : List Change) → AreQuiet changes → Shaped (record { result = result; changes = changes; descriptors = table })
  some result table changes x = quiet x

  either : (b : Bool) (first second : Outcome) → Shaped first → Shaped second → Shaped (cond b first second)
  either true first second x y = x
  either false first second x y = y

  -- ---- calls on descriptors

  truncation_quiet : (obj : ℕ) (b : Bool) → AreQuiet (cond b (Cut obj 0 ∷ []) [])
  truncation_quiet obj true = (tt, tt)
  truncation_quiet obj false = tt

  opened_shaped : (object : Object) → Shaped (open_object_outcome system request object.number (truncation object.number (register request 1)))
  opened_shaped object = quiet (truncation_quiet object.number (has_flag (register request 1) O_TRUNC))

  open_shaped : (o : Option Object) → Shaped (open_node_outcome system request o)
  open_shaped None = search (unless, one)
  open_shaped (Some object) = search (unless, opened_shaped)

  put_quiet : (space at : ℕ) (bytes : List ℕ) → AreQuiet (put_changes space at bytes)
  put_quiet space at [] = tt
  put_quiet space at (byte ∷ bytes) = (tt, tt)

  read_shaped : (o : Option OpenFile) → Shaped (read_file_outcome system request o)
  read_shaped None = quiet tt
  read_shaped (Some file) = search (unless, some, put_quiet)

  written_shaped : (obj start : ℕ) → Shaped (write_bytes_outcome system request obj start)
  written_shaped obj start = search (unless, one)

  write_kind_shaped : (file : OpenFile) (k : FileKind) → Shaped (write_kind_outcome system request file k)
  write_kind_shaped file kind.Console = quiet tt
  write_kind_shaped file (kind.Node obj) = either (register request 2 == 0) (success system 0 []) (write_bytes_outcome system request obj (write_offset system.tree obj file)) (quiet tt) (written_shaped obj (write_offset system.tree obj file))
  write_kind_shaped file (kind.Socket port connected) = quiet tt

  write_shaped : (o : Option OpenFile) → Shaped (write_file_outcome system request o)
  write_shaped None = quiet tt
  write_shaped (Some file) = search (unless, write_kind_shaped)

  sought_shaped : (o : Option ℕ) → Shaped (seek_outcome system request o)
  sought_shaped None = quiet tt
  sought_shaped (Some place) = quiet tt

  seek_shaped : (o : Option OpenFile) → Shaped (seek_file_outcome system request o)
  seek_shaped None = quiet tt
  seek_shaped (Some file) = sought_shaped (seek_offset system.tree request file file.kind)

  -- ---- calls on names

  make_shaped : (name : Components) (k : NewKind) (mode : ℕ) → Shaped (make_outcome system request name k mode)
  make_shaped name k mode = search (unless, one)

  moved_shaped : (old new : Components) (object other : Object) → Shaped (move_outcome system request old new object (Some other))
  moved_shaped old new object other = search (either, unless, none, two)

  move_shaped : (old new : Components) (object : Object) (o : Option Object) → Shaped (move_outcome system request old new object o)
  move_shaped old new object None = search (unless, one)
  move_shaped old new object (Some other) = moved_shaped old new object other

  -- ---- calls on processes

  kill_quiet : (target : ℕ) (b : Bool) → AreQuiet (cond b [] (Dying target ∷ []))
  kill_quiet target true = tt
  kill_quiet target false = (tt, tt)

  kill_shaped : (target : ℕ) (b : Bool) → Shaped (success system 0 (cond b [] (Dying target ∷ [])))
  kill_shaped target b = quiet (kill_quiet target b)

  execed_shaped : (result : CallResult) (table : Table) (binary : List ℕ) → Shaped (record { result = result; changes = Execed binary system.next_space ∷ policy_changes request.inherit binary; descriptors = table })
  execed_shaped result table binary = execed binary refl

  set_shaped : (setting : SysCall) → sets_ids call ≡ true → Shaped (set_ids_outcome setting system request)
  set_shaped setting sets = unless_error_shaped (first_error (set_refused setting request.ids (register request 0) ∷ []))
      (success system 0 (SetIds (ids_after_set setting request.ids (register request 0)) ∷ renewals request.pid request.tid system.next_number system.held))
      (renewed (ids_after_set setting request.ids (register request 0)) sets refl)

-- every call

pub shape_of : (system : System) (request : Request) (call : SysCall) → Shape system request call (effect system call request).changes
shape_of system request Open = search (unless, open_shaped)
shape_of system request Close = search (unless, none)
shape_of system request Read = read_shaped system request Read (file_at system.descriptors request.pid (register request 0))
shape_of system request Write = write_shaped system request Write (file_at system.descriptors request.pid (register request 0))
shape_of system request Lseek = seek_shaped system request Lseek (file_at system.descriptors request.pid (register request 0))
shape_of system request Dup = search (unless, none)
shape_of system request Stat = search (unless, on, one)
shape_of system request Lstat = search (unless, on, one)
shape_of system request Access = search (unless, on, none)
shape_of system request Readlink = search (unless, on, one)
shape_of system request Unlink = search (unless, on, one)
shape_of system request Link = search (unless, on, one)
shape_of system request Symlink = search (unless, make_shaped)
shape_of system request Rename = search (unless, on, move_shaped)
shape_of system request Mkdir = make_shaped system request Mkdir (arg_name_at request 0) made.Dir (low_mode (register request 1))
shape_of system request Rmdir = search (unless, on, one)
shape_of system request Chdir = search (unless, on, one)
shape_of system request Chmod = search (unless, on, one)
shape_of system request Chown = search (unless, on, one)
shape_of system request Truncate = search (unless, on, one)
shape_of system request Fork = forked refl refl
shape_of system request Execve = search (unless, on, execed_shaped)
shape_of system request Exit = quiet (tt, tt)
shape_of system request Kill = search (unless, kill_shaped)
shape_of system request GetPid = quiet tt
shape_of system request GetUid = quiet tt
shape_of system request GetEuid = quiet tt
shape_of system request SetUid = set_shaped system request SetUid SetUid refl
shape_of system request SetEuid = set_shaped system request SetEuid SetEuid refl
shape_of system request SetGid = set_shaped system request SetGid SetGid refl
shape_of system request SetEgid = set_shaped system request SetEgid SetEgid refl
shape_of system request Socket = search (unless, none)
shape_of system request Bind = search (unless, none)
shape_of system request Connect = search (unless, none)
