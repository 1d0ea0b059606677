-- The changes of each call: their names are normal, and the files that they make are empty.
use Rattle.std.proofs.Common.{suc, ℕ, ◌+◌, Bool, true, false, cond, ◌==◌, List, [], ◌∷◌, Option, Some, None, refl, sym, subst}
use Rattle.st_base.specs.Errno.{first_error}
use Rattle.st_base.specs.declared.errno.Errno.{Errno}
use Rattle.st_base.specs.declared.ids.Ids.{Ids}
use Rattle.st_calls.specs.declared.argument.ArgText.{ArgText}
use Rattle.st_calls.specs.declared.call.SysCall.{SysCall}
use Rattle.st_calls.specs.declared.call.SysCall.TheVariants.{Open, Close, Read, Write, Lseek, Dup, Stat, Lstat, Access, Readlink, Unlink, Link, Symlink, Rename, Mkdir, Rmdir, Chdir, Chmod, Chown, Truncate, Fork, Execve, Exit, Kill, GetPid, GetUid, GetEuid, SetUid, SetEuid, SetGid, SetEgid, Socket, Bind, Connect}
use Rattle.st_model.specs.Descriptors.{Table, file_at}
use Rattle.st_model.specs.Identity.{ids_after_set, set_refused}
use Rattle.st_model.specs.declared.object.NewKind.{NewKind}
use Rattle.st_model.specs.declared.object.NewKind.TheVariants as kind
use Rattle.st_model.specs.declared.open_file.FileKind.{FileKind}
use Rattle.st_model.specs.declared.open_file.FileKind.TheVariants as file_kind
use Rattle.st_model.specs.declared.open_file.OpenFile.{OpenFile}
use Rattle.st_names.specs.Name.{Components}
use Rattle.st_effects.specs.Descriptors.{open_node_outcome, open_object_outcome, put_changes, read_file_outcome, seek_file_outcome, seek_offset, seek_outcome, truncation, write_bytes_outcome, write_file_outcome, write_kind_outcome, write_offset}
use Rattle.st_effects.specs.Effect.{effect}
use Rattle.st_effects.specs.NameTests.{Object, object_at, on_found, on_object}
use Rattle.st_effects.specs.Names.{link_mode, make_outcome, move_outcome}
use Rattle.st_effects.specs.Processes.{is_other_of, policy_changes, renewals, renewals_by, set_ids_outcome}
use Rattle.st_effects.specs.Progress.{Progress, Word, Look, Stuck, Ready}
use Rattle.st_effects.specs.System.{HeldCall, Outcome, Request, System, arg_name_at, arg_text_at, register, success, unless_error, unless_refused}
use Rattle.st_trace.specs.declared.entry.CallResult.{CallResult}
use Rattle.st_trace.specs.declared.entry.CallResult.TheVariants.{Value}
use Rattle.st_trace.specs.declared.entry.Change.{Change}
use Rattle.st_trace.specs.declared.entry.Change.TheVariants.{Made, Cut, Dying, Execed, Renewed, SetIds}
use Rattle.st_trace.specs.declared.entry.Entry.{Entry}
use Rattle.st_trace.specs.declared.entry.Entry.TheVariants.{Used, Reloaded}
use Rattle.st_law.specs.declared.input.Input.{Input}
use Rattle.st_law.specs.Lawful.{IsEffect, IsFailure, IsLawful, IsUnheldOutcome, IsUnlinkedOutcome, IsUsed}
use Rattle.st_law.specs.State.{State, held_from, is_held_under, request_of, system_of, thread_count}
use Rattle.st_law.specs.Threads.{changes_of}
use Rattle.st_written.specs.Normal.{AreNormalChanges, IsNewKind, IsNormal, IsNormalChange}
use Rattle.st_written.proofs.NormalWalks.{normal_components}

-- the changes of an outcome are normal
pub record AreNormal (outcome : Outcome) : Type 0 where
  pub changes : AreNormalChanges outcome.changes

renewals_normal : (is : HeldCall → Bool) (next : ℕ) (helds : List HeldCall) → AreNormalChanges (renewals_by is next helds)
renewals_normal is next [] = tt
renewals_normal is next (held ∷ more) = by (is held) (renewals_normal is (next + 1) more) (renewals_normal is next more) where
  by : (b : Bool) → AreNormalChanges (renewals_by is (next + 1) more) → AreNormalChanges (renewals_by is next more) → AreNormalChanges (cond b (Renewed held.number next ∷ renewals_by is (next + 1) more) (renewals_by is next more))
  by true x y = (tt, x)
  by false x y = y

module _ (system : System) (request : Request) where
  some : (result : CallResult) (table : Table) (changes : List Change) → AreNormalChanges changes → AreNormal (record { result = result; changes = changes; descriptors = table })
  some result table changes x = record { changes = x }

  unless_error_normal : (o : Option Errno) (outcome : Outcome) → AreNormal outcome → AreNormal (unless_error system o outcome)
  unless_error_normal None outcome x = x
  unless_error_normal (Some errno) outcome x = record { changes = tt }

  unless : (reasons : List (Option Errno)) (outcome : Outcome) → AreNormal outcome → AreNormal (unless_refused system reasons outcome)
  unless reasons outcome x = unless_error_normal (first_error reasons) outcome x

  none : (result : CallResult) (table : Table) → AreNormal (record { result = result; changes = []; descriptors = table })
  none result table = record { changes = tt }

  one : (result : CallResult) (table : Table) (c : Change) → IsNormalChange c → AreNormal (record { result = result; changes = c ∷ []; descriptors = table })
  one result table c x = record { changes = (x, tt) }

  two : (result : CallResult) (table : Table) (c d : Change) → IsNormalChange c → IsNormalChange d → AreNormal (record { result = result; changes = c ∷ d ∷ []; descriptors = table })
  two result table c d x y = record { changes = (x, (y, tt)) }

  found : (outcome : Object → Outcome) → ((object : Object) → AreNormal (outcome object)) → (o : Option Object) → AreNormal (on_found system outcome o)
  found outcome x None = record { changes = tt }
  found outcome x (Some object) = x object

  on : (name : Components) (outcome : Object → Outcome) → ((object : Object) → AreNormal (outcome object)) → AreNormal (on_object system name outcome)
  on name outcome x = found outcome x (object_at system.tree name)

  either : (b : Bool) (first second : Outcome) → AreNormal first → AreNormal second → AreNormal (cond b first second)
  either true first second x y = x
  either false first second x y = y

  named : (j : ℕ) → IsNormal (arg_name_at request j)
  named j = normal_components (arg_text_at request j)

  -- ---- calls on descriptors

  cut_by : (b : Bool) (obj : ℕ) → AreNormalChanges (cond b (Cut obj 0 ∷ []) [])
  cut_by true obj = (tt, tt)
  cut_by false obj = tt

  truncated : (obj flags : ℕ) → AreNormalChanges (truncation obj flags)
  truncated obj flags = cut_by _ obj

  opened_new : (result : CallResult) (table : Table) (obj uid gid mode : ℕ) → AreNormal (record { result = result; changes = Made (arg_name_at request 0) obj (kind.File []) uid gid mode ∷ []; descriptors = table })
  opened_new result table obj uid gid mode = record { changes = ((named 0, refl), tt) }

  opened_old : (object : Object) → AreNormal (open_object_outcome system request object.number (truncation object.number (register request 1)))
  opened_old object = record { changes = truncated object.number (register request 1) }

  opened : (o : Option Object) → AreNormal (open_node_outcome system request o)
  opened None = search (unless, opened_new)
  opened (Some object) = search (unless, opened_old)

  put : (space at : ℕ) (bytes : List ℕ) → AreNormalChanges (put_changes space at bytes)
  put space at [] = tt
  put space at (byte ∷ bytes) = (tt, tt)

  reads : (o : Option OpenFile) → AreNormal (read_file_outcome system request o)
  reads None = record { changes = tt }
  reads (Some file) = search (unless, some, put)

  writes_by : (file : OpenFile) (k : FileKind) → AreNormal (write_kind_outcome system request file k)
  writes_by file file_kind.Console = record { changes = tt }
  writes_by file (file_kind.Node obj) = either (register request 2 == 0) (success system 0 []) (write_bytes_outcome system request obj (write_offset system.tree obj file)) (record { changes = tt }) written where
    written : AreNormal (write_bytes_outcome system request obj (write_offset system.tree obj file))
    written = search (unless, one)
  writes_by file (file_kind.Socket port connected) = record { changes = tt }

  writes : (o : Option OpenFile) → AreNormal (write_file_outcome system request o)
  writes None = record { changes = tt }
  writes (Some file) = search (unless, writes_by)

  sought : (o : Option ℕ) → AreNormal (seek_outcome system request o)
  sought None = record { changes = tt }
  sought (Some place) = record { changes = tt }

  seeks : (o : Option OpenFile) → AreNormal (seek_file_outcome system request o)
  seeks None = record { changes = tt }
  seeks (Some file) = sought (seek_offset system.tree request file file.kind)

  -- ---- calls on names and processes

  made_one : (result : CallResult) (table : Table) (name : Components) (obj : ℕ) (k : NewKind) (uid gid mode : ℕ) → IsNormal name → IsNewKind k → AreNormal (record { result = result; changes = Made name obj k uid gid mode ∷ []; descriptors = table })
  made_one result table name obj k uid gid mode normal new = record { changes = ((normal, new), tt) }

  makes : (name : Components) (k : NewKind) (mode : ℕ) → IsNormal name → IsNewKind k → AreNormal (make_outcome system request name k mode)
  makes name k mode normal new = search (unless, made_one, normal, new)

  moved : (old new : Components) (object other : Object) → IsNormal old → IsNormal new → AreNormal (move_outcome system request old new object (Some other))
  moved old new object other first second = search (either, unless, none, two, first, second)

  moves : (old new : Components) (object : Object) (o : Option Object) → IsNormal old → IsNormal new → AreNormal (move_outcome system request old new object o)
  moves old new object None first second = search (unless, one, first, second)
  moves old new object (Some other) first second = moved old new object other first second

  kills : (target : ℕ) (b : Bool) → AreNormal (success system 0 (cond b [] (Dying target ∷ [])))
  kills target true = record { changes = tt }
  kills target false = record { changes = (tt, tt) }

  policies : (inherit : Bool) (binary : List ℕ) → AreNormalChanges (policy_changes inherit binary)
  policies true binary = tt
  policies false binary = (tt, tt)

  executed : (result : CallResult) (binary : List ℕ) → AreNormal (record { result = result; changes = Execed binary system.next_space ∷ policy_changes request.inherit binary; descriptors = system.descriptors })
  executed result binary = record { changes = (tt, policies request.inherit binary) }

  sets : (setting : SysCall) → AreNormal (set_ids_outcome setting system request)
  sets setting = unless_error_normal (first_error (set_refused setting request.ids (register request 0) ∷ [])) _ (some (Value 0) system.descriptors
      (SetIds (ids_after_set setting request.ids (register request 0)) ∷ renewals request.pid request.tid system.next_number system.held)
      (tt, renewals_normal (is_other_of request.pid request.tid) system.next_number system.held))

  pub changes_normal : (call : SysCall) → AreNormal (effect system call request)
  changes_normal Open =
      let node : AreNormal (open_node_outcome system request (object_at system.tree (arg_name_at request 0))) = opened (object_at system.tree (arg_name_at request 0)) in
      search (unless, node)
  changes_normal Close = search (unless, none)
  changes_normal Read = reads (file_at system.descriptors request.pid (register request 0))
  changes_normal Write = writes (file_at system.descriptors request.pid (register request 0))
  changes_normal Lseek = seeks (file_at system.descriptors request.pid (register request 0))
  changes_normal Dup = search (unless, none)
  changes_normal Stat = search (unless, on, one)
  changes_normal Lstat = search (unless, on, one)
  changes_normal Access = search (unless, on, none)
  changes_normal Readlink = search (unless, on, one)
  changes_normal Unlink = search (unless, on, one, named)
  changes_normal Link = search (unless, on, one, named)
  changes_normal Symlink =
      let link : AreNormal (make_outcome system request (arg_name_at request 1) (kind.Link (arg_text_at request 0)) link_mode) = makes (arg_name_at request 1) (kind.Link (arg_text_at request 0)) link_mode (named 1) tt in
      search (unless, link)
  changes_normal Rename = search (unless, on, moves, named)
  changes_normal Mkdir = makes (arg_name_at request 0) kind.Dir _ (named 0) tt
  changes_normal Rmdir = search (unless, on, one, named)
  changes_normal Chdir = search (unless, on, one, named)
  changes_normal Chmod = search (unless, on, one)
  changes_normal Chown = search (unless, on, one)
  changes_normal Truncate = search (unless, on, one)
  changes_normal Fork = record { changes = (tt, tt) }
  changes_normal Execve = search (unless, on, executed)
  changes_normal Exit = record { changes = (tt, tt) }
  changes_normal Kill = search (unless, kills)
  changes_normal GetPid = record { changes = tt }
  changes_normal GetUid = record { changes = tt }
  changes_normal GetEuid = record { changes = tt }
  changes_normal SetUid = sets SetUid
  changes_normal SetEuid = sets SetEuid
  changes_normal SetGid = sets SetGid
  changes_normal SetEgid = sets SetEgid
  changes_normal Socket = search (unless, none)
  changes_normal Bind = search (unless, none)
  changes_normal Connect = search (unless, none)

-- ---- entries

failed : (errno : Errno) (args : List ArgText) (result : CallResult) (changes : List Change) → IsFailure errno args result changes → AreNormalChanges changes
failed errno args result changes f = subst AreNormalChanges (sym f.changes_are) tt

effected : (i : Input) (st : State) (t : ℕ) (call : SysCall) (regs : List ℕ) (ids : Ids) (args : List ArgText) (result : CallResult) (changes : List Change) → IsEffect i st t call regs ids args result changes → AreNormalChanges changes
effected i st t call regs ids args result changes e = subst AreNormalChanges (sym e.changes_are) (changes_normal (system_of i st) (request_of i st t regs args ids) call).changes

unlinked : (i : Input) (st : State) (t : ℕ) (call : SysCall) (regs : List ℕ) (ids : Ids) (found : List ArgText) (link : Option Components) (args : List ArgText) (result : CallResult) (changes : List Change) →
    IsUnlinkedOutcome i st t call regs ids found link args result changes → AreNormalChanges changes
unlinked i st t call regs ids found (Some name) args result changes x = failed _ args result changes x
unlinked i st t call regs ids found None args result changes x = effected i st t call regs ids args result changes x.1

unheld : (i : Input) (st : State) (t : ℕ) (call : SysCall) (regs : List ℕ) (ids : Ids) (progress : Progress) (args : List ArgText) (result : CallResult) (changes : List Change) →
    IsUnheldOutcome i st t call regs ids progress args result changes → AreNormalChanges changes
unheld i st t call regs ids (Word part place) args result changes x = absurd x
unheld i st t call regs ids (Look part name) args result changes x = absurd x
unheld i st t call regs ids (Stuck errno) args result changes x = failed errno args result changes x
unheld i st t call regs ids (Ready found) args result changes x = unlinked i st t call regs ids found _ args result changes x

used : (i : Input) (st : State) (t : ℕ) (seq : Option ℕ) (call : SysCall) (regs : List ℕ) (args : List ArgText) (ids : Ids) (result : CallResult) (changes : List Change) →
    IsUsed i st t seq call regs args ids result changes → AreNormalChanges changes
used i st t None call regs args ids result changes x = unheld i st t call regs ids _ args result changes x.outcome
used i st t (Some q) call regs args ids result changes x = effected i st t call regs ids args result changes x.outcome

reloaded_by : (b : Bool) (is : HeldCall → Bool) (next : ℕ) (helds : List HeldCall) → AreNormalChanges (cond b (renewals_by is next helds) [])
reloaded_by true is next helds = renewals_normal is next helds
reloaded_by false is next helds = tt

-- the changes of a lawful entry are normal
pub lawful_changes : (i : Input) (st : State) (e : Entry) → IsLawful i st e → AreNormalChanges (changes_of e)
lawful_changes i st (Used t seq call regs args ids result changes) x = used i st t seq call regs args ids result changes x
lawful_changes i st (Reloaded t n done changes) x = subst AreNormalChanges (sym x.changes_are) (reloaded_by done (is_held_under i st n) (suc st.posted) (held_from st 1 (thread_count i)))
lawful_changes i st _ x = tt
