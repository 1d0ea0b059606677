-- Each call keeps links short, and leaves no open file that is a link.
use Rattle.std.proofs.Common.{◌≡◌, ◌≤◌, ℕ, ◌+◌, Bool, true, false, cond, not, ◌&&◌, ◌==◌, List, [], ◌∷◌, ◌++◌, length, Option, Some, None, refl}
use Rattle.st_base.specs.Errno.{first_error, error_if}
use Rattle.st_base.specs.declared.errno.Errno.{Errno}
use Rattle.st_base.specs.declared.errno.Errno.TheVariants.{EEXIST, EISDIR, EACCES}
use Rattle.st_calls.specs.Call.{has_flag}
use Rattle.st_calls.specs.declared.call.SysCall.{SysCall}
use Rattle.st_calls.specs.declared.call.SysCall.TheVariants.{Open, Close, Read, Write, Lseek, Dup, Stat, Lstat, Access, Readlink, Unlink, Link, Symlink, Rename, Mkdir, Rmdir, Chdir, Chmod, Chown, Truncate, Fork, Execve, Exit, Kill, GetPid, GetUid, GetEuid, SetUid, SetEuid, SetGid, SetEgid, Socket, Bind, Connect}
use Rattle.st_calls.specs.declared.flags.TheConstants.{O_CREAT, O_EXCL, O_TRUNC}
use Rattle.st_model.specs.DescriptorCalls.{table_after_open}
use Rattle.st_model.specs.Descriptors.{Table, file_at}
use Rattle.st_model.specs.Identity.{ids_after_set, set_refused}
use Rattle.st_model.specs.Tree.{Node, node_of_kind, is_directory}
use Rattle.st_model.specs.declared.limits.TheConstants.{LONGEST_TEXT}
use Rattle.st_model.specs.declared.object.NewKind.{NewKind}
use Rattle.st_model.specs.declared.object.NewKind.TheVariants as made
use Rattle.st_model.specs.declared.open_file.FileKind.{FileKind}
use Rattle.st_model.specs.declared.open_file.FileKind.TheVariants as kind
use Rattle.st_model.specs.declared.open_file.OpenFile.{OpenFile}
use Rattle.st_model.specs.declared.permission.Want.TheVariants as want
use Rattle.st_names.specs.Name.{Components}
use Rattle.st_effects.specs.Changes.{tree_after}
use Rattle.st_effects.specs.Descriptors.{open_object_outcome, open_node_outcome, open_file_of, truncation, put_changes, read_file_outcome, write_bytes_outcome, write_kind_outcome, write_file_outcome, seek_outcome, seek_offset, seek_file_outcome, write_offset, low_mode}
use Rattle.st_effects.specs.Effect.{effect}
use Rattle.st_effects.specs.NameTests.{Object, is_allowed_at, object_at, on_found, on_object}
use Rattle.st_effects.specs.Names.{make_outcome, move_outcome, link_mode}
use Rattle.st_effects.specs.Processes.{is_other_of, policy_changes, set_ids_outcome, renewals, renewals_by}
use Rattle.st_effects.specs.System.{System, Request, Outcome, HeldCall, success, unless_error, unless_refused, register, arg_text_at, arg_name_at}
use Rattle.st_trace.specs.declared.entry.CallResult.{CallResult}
use Rattle.st_trace.specs.declared.entry.CallResult.TheVariants.{Value}
use Rattle.st_trace.specs.declared.entry.Change.{Change}
use Rattle.st_trace.specs.declared.entry.Change.TheVariants.{Made, Cut, Execed, SetIds, Renewed, Dying}
use Rattle.st_law.specs.Arguments.{is_link_at}
use Rattle.st_law.specs.Inputs.{HasShortTarget}
use Rattle.st_law.proofs.ShortTables.{IsPlainFile, HasPlainFiles, IfFile, files_then, file_plain, open_plain, close_plain, dup_plain, copy_plain, seek_plain, bind_plain, connect_plain}
use Rattle.st_law.proofs.ShortTrees.{IsPlain, IsFit, AreFit, steps_of, plain_new, IfObject, object_plain}

-- the outcome of a call fits: its changes fit the tree before it, and no open file is a link of the tree after it
pub record Fits (system : System) (outcome : Outcome) : Type 0 where
  pub changes : AreFit system.tree.objects outcome.changes
  pub files : HasPlainFiles (tree_after system.tree outcome.changes).objects outcome.descriptors

-- what the arguments of a call have to be: the target of a link is short, and what is opened or cut is no link
abbrev pub HasFitArguments : System → Request → SysCall → Type 0
HasFitArguments system request Open =
    (has_flag (register request 1) O_CREAT && has_flag (register request 1) O_EXCL) ≡ false → is_link_at system.tree (arg_name_at request 0) ≡ false
HasFitArguments system request Symlink = length (arg_text_at request 0) ≤ LONGEST_TEXT
HasFitArguments system request Truncate = is_link_at system.tree (arg_name_at request 0) ≡ false
HasFitArguments system request _ = Unit {0}

-- renewals leave the tree
pub renewals_fit : (system : System) (is : HeldCall → Bool) (next : ℕ) (helds : List HeldCall) → AreFit system.tree.objects (renewals_by is next helds)
renewals_fit system is next [] = tt
renewals_fit system is next (held ∷ more) = by (is held) (renewals_fit system is (next + 1) more) (renewals_fit system is next more) where
  by : (b : Bool) → AreFit system.tree.objects (renewals_by is (next + 1) more) → AreFit system.tree.objects (renewals_by is next more) → AreFit system.tree.objects (cond b (Renewed held.number next ∷ renewals_by is (next + 1) more) (renewals_by is next more))
  by true x y = (tt, x)
  by false x y = y

module _ (system : System) (request : Request) (plain : HasPlainFiles system.tree.objects system.descriptors) where
  -- changes that fit, and a table whose open files weren't links before
  some : (result : CallResult) (table : Table) (changes : List Change) → HasPlainFiles system.tree.objects table → AreFit system.tree.objects changes → Fits system (record { result = result; changes = changes; descriptors = table })
  some result table changes files fit = record {
    changes = fit;
    files = files_then system.tree.objects (tree_after system.tree changes).objects (steps_of system.tree changes fit) table.files files;
  }

  -- a refused call changes nothing
  unless_error_fits : (o : Option Errno) (outcome : Outcome) → Fits system outcome → Fits system (unless_error system o outcome)
  unless_error_fits None outcome x = x
  unless_error_fits (Some errno) outcome x = record { changes = tt; files = plain }

  -- the same by the reasons for refusal
  unless : (reasons : List (Option Errno)) (outcome : Outcome) → Fits system outcome → Fits system (unless_refused system reasons outcome)
  unless reasons outcome x = unless_error_fits (first_error reasons) outcome x

  -- a call whose first reason for refusal doesn't hold
  unless_first : (b : Bool) (errno : Errno) (reasons : List (Option Errno)) (outcome : Outcome) → (b ≡ false → Fits system outcome) → Fits system (unless_refused system (error_if b errno ∷ reasons) outcome)
  unless_first true errno reasons outcome x = record { changes = tt; files = plain }
  unless_first false errno reasons outcome x = unless reasons outcome (x refl)

  -- no change
  none : (result : CallResult) (table : Table) → HasPlainFiles system.tree.objects table → Fits system (record { result = result; changes = []; descriptors = table })
  none result table files = record { changes = tt; files = files }

  -- one change
  one : (result : CallResult) (c : Change) → IsFit system.tree.objects c → Fits system (record { result = result; changes = c ∷ []; descriptors = system.descriptors })
  one result c x = some result system.descriptors (c ∷ []) plain (x, tt)

  -- two changes
  two : (result : CallResult) (c d : Change) → IsFit system.tree.objects c → IsFit system.tree.objects d → Fits system (record { result = result; changes = c ∷ d ∷ []; descriptors = system.descriptors })
  two result c d x y = some result system.descriptors (c ∷ d ∷ []) plain (x, (y, tt))

  -- what is done with an object, if there is one
  found : (outcome : Object → Outcome) → ((object : Object) → Fits system (outcome object)) → (o : Option Object) → Fits system (on_found system outcome o)
  found outcome x None = record { changes = tt; files = plain }
  found outcome x (Some object) = x object

  -- what is done with the object of a name, if it has one
  on : (name : Components) (outcome : Object → Outcome) → ((object : Object) → Fits system (outcome object)) → Fits system (on_object system name outcome)
  on name outcome x = found outcome x (object_at system.tree name)

  -- the same for an object with a known property
  found_if : (P : Object → Type 0) (outcome : Object → Outcome) → ((object : Object) → P object → Fits system (outcome object)) → (o : Option Object) → IfObject P o → Fits system (on_found system outcome o)
  found_if P outcome x None known = record { changes = tt; files = plain }
  found_if P outcome x (Some object) known = x object known

  -- one of two outcomes
  either : (b : Bool) (first second : Outcome) → Fits system first → Fits system second → Fits system (cond b first second)
  either true first second x y = x
  either false first second x y = y

  -- ---- calls on descriptors

  -- whether an open refuses a name that has an object
  abbrev excluded : Bool
  excluded = has_flag (register request 1) O_CREAT && has_flag (register request 1) O_EXCL

  -- an object is no link
  abbrev PlainObject : Object → Type 0
  PlainObject object = IsPlain system.tree.objects object.number

  -- an opened file may be cut
  truncation_fits : (obj : ℕ) (b : Bool) → IsPlain system.tree.objects obj → AreFit system.tree.objects (cond b (Cut obj 0 ∷ []) [])
  truncation_fits obj true x = (x, tt)
  truncation_fits obj false x = tt

  -- an object that is no link is opened
  opened_fits : (object : Object) → PlainObject object → Fits system (open_object_outcome system request object.number (truncation object.number (register request 1)))
  opened_fits object x = some _ (table_after_open system.descriptors request.pid (open_file_of object.number (register request 1))) (truncation object.number (register request 1))
      (open_plain system.tree.objects system.descriptors request.pid (open_file_of object.number (register request 1)) x plain)
      (truncation_fits object.number (has_flag (register request 1) O_TRUNC) x)

  -- a new file is no link
  made_fits : (name : Components) (uid gid mode : ℕ) → Fits system (open_object_outcome system request (length system.tree.objects + 1) (Made name (length system.tree.objects + 1) (made.File []) uid gid mode ∷ []))
  made_fits name uid gid mode =
      let nodes : List Node = system.tree.objects ++ node_of_kind (made.File []) uid gid mode ∷ [] in
      let changes : List Change = Made name (length system.tree.objects + 1) (made.File []) uid gid mode ∷ [] in record {
        changes = (tt, tt);
        files = open_plain nodes system.descriptors request.pid (open_file_of (length system.tree.objects + 1) (register request 1))
            (plain_new system.tree.objects (node_of_kind (made.File []) uid gid mode) refl)
            (files_then system.tree.objects nodes (steps_of system.tree changes (tt, tt)) system.descriptors.files plain);
      }

  -- the outcome of an open, by the object of its name, if it has one
  open_fits : (o : Option Object) → (excluded ≡ false → IfObject PlainObject o) → Fits system (open_node_outcome system request o)
  open_fits None known = search (unless, made_fits)
  open_fits (Some object) known = unless_first excluded EEXIST _ _ (λ e. opened_fits object (known e))

  -- bytes are put into memory
  put_fits : (space at : ℕ) (bytes : List ℕ) → AreFit system.tree.objects (put_changes space at bytes)
  put_fits space at [] = tt
  put_fits space at (byte ∷ bytes) = (tt, tt)

  -- a read, by the open file of its descriptor
  read_fits : (o : Option OpenFile) → Fits system (read_file_outcome system request o)
  read_fits None = record { changes = tt; files = plain }
  read_fits (Some file) = search (unless, some, put_fits, seek_plain, plain)

  -- a write, by the kind of the open file: only an object has its bytes changed
  write_kind_fits : (file : OpenFile) (k : FileKind) → IsPlainFile system.tree.objects k → Fits system (write_kind_outcome system request file k)
  write_kind_fits file kind.Console x = record { changes = tt; files = plain }
  write_kind_fits file (kind.Node obj) x = either (register request 2 == 0) (success system 0 []) (write_bytes_outcome system request obj (write_offset system.tree obj file)) (record { changes = tt; files = plain }) (written_fits x) where
    written_fits : IsPlain system.tree.objects obj → Fits system (write_bytes_outcome system request obj (write_offset system.tree obj file))
    written_fits y = search (unless, some, y, seek_plain, plain)
  write_kind_fits file (kind.Socket port connected) x = record { changes = tt; files = plain }

  -- a write, by the open file of its descriptor
  write_fits : (o : Option OpenFile) → IfFile (λ file. IsPlainFile system.tree.objects file.kind) o → Fits system (write_file_outcome system request o)
  write_fits None x = record { changes = tt; files = plain }
  write_fits (Some file) x = search (unless, write_kind_fits, x)

  -- a seek, by the offset that it leads to
  sought_fits : (o : Option ℕ) → Fits system (seek_outcome system request o)
  sought_fits None = record { changes = tt; files = plain }
  sought_fits (Some place) = record { changes = tt; files = seek_plain system.tree.objects system.descriptors request.pid (register request 0) place plain }

  -- a seek, by the open file of its descriptor
  seek_fits : (o : Option OpenFile) → Fits system (seek_file_outcome system request o)
  seek_fits None = record { changes = tt; files = plain }
  seek_fits (Some file) = sought_fits (seek_offset system.tree request file file.kind)

  -- ---- calls on names

  -- a new object with a short target
  make_fits : (name : Components) (k : NewKind) (mode : ℕ) → HasShortTarget k → Fits system (make_outcome system request name k mode)
  make_fits name k mode x = search (unless, one, x)

  -- a name that replaces another
  moved_fits : (old new : Components) (object other : Object) → Fits system (move_outcome system request old new object (Some other))
  moved_fits old new object other = search (either, unless, none, two, plain)

  -- a name that is renamed
  move_fits : (old new : Components) (object : Object) (o : Option Object) → Fits system (move_outcome system request old new object o)
  move_fits old new object None = search (unless, one)
  move_fits old new object (Some other) = moved_fits old new object other

  -- the outcome of a truncate, by the object of its name
  abbrev cut_outcome : Object → Outcome
  cut_outcome object =
      unless_refused system (
      error_if (is_directory object.node.kind) EISDIR ∷
      error_if (not (is_allowed_at request.ids object.node want.Write)) EACCES ∷ [])
      (success system 0 (Cut object.number (register request 1) ∷ []))

  -- the truncate of an object that is no link
  cut_fits : (object : Object) → PlainObject object → Fits system (cut_outcome object)
  cut_fits object x = search (unless, one, x)

  -- the truncate of the object of a name, if it has one
  truncate_fits : (o : Option Object) → IfObject PlainObject o → Fits system (on_found system cut_outcome o)
  truncate_fits o x = found_if PlainObject cut_outcome cut_fits o x

  -- ---- calls on processes

  -- a signal
  kill_fits : (target : ℕ) (b : Bool) → Fits system (success system 0 (cond b [] (Dying target ∷ [])))
  kill_fits target true = record { changes = tt; files = plain }
  kill_fits target false = record { changes = (tt, tt); files = plain }

  -- another policy
  policy_fits : (inherit : Bool) (binary : List ℕ) → AreFit system.tree.objects (policy_changes inherit binary)
  policy_fits true binary = tt
  policy_fits false binary = (tt, tt)

  -- another binary
  execed_fits : (result : CallResult) (binary : List ℕ) → Fits system (record { result = result; changes = Execed binary system.next_space ∷ policy_changes request.inherit binary; descriptors = system.descriptors })
  execed_fits result binary = some result system.descriptors (Execed binary system.next_space ∷ policy_changes request.inherit binary) plain (tt, policy_fits request.inherit binary)

  -- ids are set
  set_fits : (setting : SysCall) → Fits system (set_ids_outcome setting system request)
  set_fits setting = unless_error_fits (first_error (set_refused setting request.ids (register request 0) ∷ [])) _ (some (Value 0) system.descriptors
      (SetIds (ids_after_set setting request.ids (register request 0)) ∷ renewals request.pid request.tid system.next_number system.held) plain
      (tt, renewals_fit system (is_other_of request.pid request.tid) system.next_number system.held))

-- every call
module _ (system : System) (request : Request) (plain : HasPlainFiles system.tree.objects system.descriptors) where
  pub fits_of : (call : SysCall) → HasFitArguments system request call → Fits system (effect system call request)
  fits_of Open x =
      let node : Fits system (open_node_outcome system request (object_at system.tree (arg_name_at request 0))) =
      open_fits system request plain (object_at system.tree (arg_name_at request 0)) (λ e. object_plain system.tree (arg_name_at request 0) (x e)) in
      search (unless, node, plain)
  fits_of Close x = search (unless, none, close_plain, plain)
  fits_of Read x = read_fits system request plain (file_at system.descriptors request.pid (register request 0))
  fits_of Write x = write_fits system request plain (file_at system.descriptors request.pid (register request 0)) (file_plain system.tree.objects system.descriptors request.pid (register request 0) plain)
  fits_of Lseek x = seek_fits system request plain (file_at system.descriptors request.pid (register request 0))
  fits_of Dup x = search (unless, none, dup_plain, plain)
  fits_of Stat x = search (unless, on, one, plain)
  fits_of Lstat x = search (unless, on, one, plain)
  fits_of Access x = search (unless, on, none, plain)
  fits_of Readlink x = search (unless, on, one, plain)
  fits_of Unlink x = search (unless, on, one, plain)
  fits_of Link x = search (unless, on, one, plain)
  fits_of Symlink x =
      let link : Fits system (make_outcome system request (arg_name_at request 1) (made.Link (arg_text_at request 0)) link_mode) =
      make_fits system request plain (arg_name_at request 1) (made.Link (arg_text_at request 0)) link_mode x in
      search (unless, link, plain)
  fits_of Rename x = search (unless, on, move_fits, plain)
  fits_of Mkdir x = make_fits system request plain (arg_name_at request 0) made.Dir (low_mode (register request 1)) tt
  fits_of Rmdir x = search (unless, on, one, plain)
  fits_of Chdir x = search (unless, on, one, plain)
  fits_of Chmod x = search (unless, on, one, plain)
  fits_of Chown x = search (unless, on, one, plain)
  fits_of Truncate x =
      let cut : Fits system (on_object system (arg_name_at request 0) (cut_outcome system request plain)) =
      truncate_fits system request plain (object_at system.tree (arg_name_at request 0)) (object_plain system.tree (arg_name_at request 0) x) in
      search (unless, cut, plain)
  fits_of Fork x = some system request plain _ _ _ (copy_plain system.tree.objects system.descriptors request.pid system.next_process plain) (tt, tt)
  fits_of Execve x = search (unless, on, execed_fits, plain)
  fits_of Exit x = record { changes = (tt, tt); files = plain }
  fits_of Kill x = search (unless, kill_fits, plain)
  fits_of GetPid x = record { changes = tt; files = plain }
  fits_of GetUid x = record { changes = tt; files = plain }
  fits_of GetEuid x = record { changes = tt; files = plain }
  fits_of SetUid x = set_fits system request plain SetUid
  fits_of SetEuid x = set_fits system request plain SetEuid
  fits_of SetGid x = set_fits system request plain SetGid
  fits_of SetEgid x = set_fits system request plain SetEgid
  fits_of Socket x = search (unless, none, open_plain, plain)
  fits_of Bind x = search (unless, none, bind_plain, plain)
  fits_of Connect x = search (unless, none, connect_plain, plain)
