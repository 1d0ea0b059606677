-- Changes of calls whose arguments can be quoted: the targets, directories and policies that they leave can be quoted too.
use Rattle.std.proofs.Common.{◌≡◌, ◌+◌, ◌==◌, ℕ, zero, suc, Bool, true, false, cond, List, [], ◌∷◌, slice_get, unwrap_or, option_map, Option, Some, None, refl}
use Rattle.std.specs.List.{AllByRecursion}
use Rattle.st_base.specs.Errno.{first_error}
use Rattle.st_base.specs.declared.errno.Errno.{Errno}
use Rattle.st_calls.specs.Call.{has_flag}
use Rattle.st_calls.specs.declared.argument.ArgText.{ArgText}
use Rattle.st_calls.specs.declared.call.SysCall.{SysCall}
use Rattle.st_calls.specs.declared.call.SysCall.TheVariants.{Open, Close, Read, Write, Lseek, Dup, Stat, Lstat, Access, Readlink, Unlink, Link, Symlink, Rename, Mkdir, Rmdir, Chdir, Chmod, Chown, Truncate, Fork, Execve, Exit, Kill, GetPid, GetUid, GetEuid, SetUid, SetEuid, SetGid, SetEgid, Socket, Bind, Connect}
use Rattle.st_calls.specs.declared.flags.TheConstants.{O_TRUNC}
use Rattle.st_lex.specs.Quote.{AreBytes}
use Rattle.st_model.specs.Descriptors.{Table, file_at}
use Rattle.st_model.specs.Identity.{set_refused}
use Rattle.st_model.specs.declared.object.NewKind.{NewKind}
use Rattle.st_model.specs.declared.object.NewKind.TheVariants as made
use Rattle.st_model.specs.declared.open_file.FileKind.{FileKind}
use Rattle.st_model.specs.declared.open_file.FileKind.TheVariants as kind
use Rattle.st_model.specs.declared.open_file.OpenFile.{OpenFile}
use Rattle.st_names.specs.Name.{Components, printed_name}
use Rattle.st_grammar.specs.Grammar.{if_absolute}
use Rattle.st_effects.specs.Descriptors.{low_mode, open_node_outcome, put_changes, read_file_outcome, seek_file_outcome, seek_offset, seek_outcome, truncation, write_bytes_outcome, write_file_outcome, write_kind_outcome, write_offset}
use Rattle.st_effects.specs.Effect.{effect}
use Rattle.st_effects.specs.NameTests.{Object, object_at, on_found, on_object}
use Rattle.st_effects.specs.Names.{link_mode, make_outcome, move_outcome}
use Rattle.st_effects.specs.Processes.{is_other_of, policy_changes, renewals_by, set_ids_outcome}
use Rattle.st_effects.specs.System.{HeldCall, Outcome, Request, System, arg_name_at, arg_text_at, register, success, unless_error, unless_refused}
use Rattle.st_trace.specs.declared.entry.CallResult.{CallResult}
use Rattle.st_trace.specs.declared.entry.Change.{Change}
use Rattle.st_trace.specs.declared.entry.Change.TheVariants.{Made, Cut, Cwd, Dying, Execed, Policy, Renewed}
use Rattle.st_relearn.specs.Plain.{HasPlainTarget}
use Rattle.st_relearn.specs.Writable.{IsWritableBinary}
use Rattle.st_relearn.proofs.Names.{AreNames, components_plain, printed_plain}
use Rattle.st_relearn.proofs.Parts.{ArePlainArgs}

-- the target, the directory or the policy that a change leaves can be quoted
abbrev pub IsPlainChange : Change → Type 0
IsPlainChange (Made name obj kind uid gid mode) = HasPlainTarget kind
IsPlainChange (Cwd name) = AreNames name
IsPlainChange (Policy binary) = IsWritableBinary binary
IsPlainChange _ = Unit {0}

abbrev pub ArePlainChanges : List Change → Type 0
ArePlainChanges changes = AllByRecursion IsPlainChange changes

-- renewals leave no texts
pub renewals_plain : (is : HeldCall → Bool) (next : ℕ) (helds : List HeldCall) → ArePlainChanges (renewals_by is next helds)
renewals_plain is next [] = tt
renewals_plain is next (held ∷ more) = by (is held) (renewals_plain is (next + 1) more) (renewals_plain is next more) where
  by : (b : Bool) → ArePlainChanges (renewals_by is (next + 1) more) → ArePlainChanges (renewals_by is next more) → ArePlainChanges (cond b (Renewed held.number next ∷ renewals_by is (next + 1) more) (renewals_by is next more))
  by true x y = (tt, x)
  by false x y = y

-- ---- arguments

text_at : (args : List ArgText) (n : ℕ) → ArePlainArgs args → AreBytes (unwrap_or (option_map (λ arg. arg.text) (slice_get args n)) [])
text_at [] n plain = tt
text_at (arg ∷ args) zero plain = plain.0
text_at (arg ∷ args) (suc n) plain = text_at args n plain.1

-- a name can be written as a binary
binary_plain : (name : Components) → AreNames name → IsWritableBinary (printed_name name)
binary_plain name plain = record { absolute = absolute name; bytes = printed_plain name plain } where
  absolute : (n : Components) → if_absolute (printed_name n) ≡ Some (printed_name n)
  absolute [] = refl
  absolute (part ∷ rest) = refl

module _ (system : System) (request : Request) where
  abbrev Fine : Outcome → Type 0
  Fine outcome = ArePlainChanges outcome.changes

  unless_error_fine : (o : Option Errno) (outcome : Outcome) → Fine outcome → Fine (unless_error system o outcome)
  unless_error_fine None outcome x = x
  unless_error_fine (Some errno) outcome x = tt

  unless : (reasons : List (Option Errno)) (outcome : Outcome) → Fine outcome → Fine (unless_refused system reasons outcome)
  unless reasons outcome x = unless_error_fine (first_error reasons) outcome x

  -- calls that change nothing, one thing, or two
  none : (result : CallResult) (table : Table) → Fine (record { result = result; changes = []; descriptors = table })
  none result table = tt

  one : (result : CallResult) (table : Table) (c : Change) → IsPlainChange c → Fine (record { result = result; changes = c ∷ []; descriptors = table })
  one result table c x = (x, tt)

  two : (result : CallResult) (table : Table) (c d : Change) → IsPlainChange c → IsPlainChange d → Fine (record { result = result; changes = c ∷ d ∷ []; descriptors = table })
  two result table c d x y = (x, (y, tt))

  found : (outcome : Object → Outcome) → ((object : Object) → Fine (outcome object)) → (o : Option Object) → Fine (on_found system outcome o)
  found outcome x None = tt
  found outcome x (Some object) = x object

  on : (name : Components) (outcome : Object → Outcome) → ((object : Object) → Fine (outcome object)) → Fine (on_object system name outcome)
  on name outcome x = found outcome x (object_at system.tree name)

  either : (b : Bool) (first second : Outcome) → Fine first → Fine second → Fine (cond b first second)
  either true first second x y = x
  either false first second x y = y

  -- ---- calls on descriptors

  truncation_fine : (obj : ℕ) (b : Bool) → ArePlainChanges (cond b (Cut obj 0 ∷ []) [])
  truncation_fine obj true = (tt, tt)
  truncation_fine obj false = tt

  open_fine : (o : Option Object) → Fine (open_node_outcome system request o)
  open_fine None = search (unless, one)
  open_fine (Some object) = search (unless, cut) where
    cut : ArePlainChanges (truncation object.number (register request 1))
    cut = truncation_fine object.number (has_flag (register request 1) O_TRUNC)

  put_fine : (space at : ℕ) (bytes : List ℕ) → ArePlainChanges (put_changes space at bytes)
  put_fine space at [] = tt
  put_fine space at (byte ∷ bytes) = (tt, tt)

  read_fine : (o : Option OpenFile) → Fine (read_file_outcome system request o)
  read_fine None = tt
  read_fine (Some file) = search (unless, put_fine)

  write_kind_fine : (file : OpenFile) (k : FileKind) → Fine (write_kind_outcome system request file k)
  write_kind_fine file kind.Console = tt
  write_kind_fine file (kind.Node obj) = either (register request 2 == 0) (success system 0 []) (write_bytes_outcome system request obj (write_offset system.tree obj file)) tt written where
    written : Fine (write_bytes_outcome system request obj (write_offset system.tree obj file))
    written = search (unless, one)
  write_kind_fine file (kind.Socket port connected) = tt

  write_fine : (o : Option OpenFile) → Fine (write_file_outcome system request o)
  write_fine None = tt
  write_fine (Some file) = search (unless, write_kind_fine)

  sought_fine : (o : Option ℕ) → Fine (seek_outcome system request o)
  sought_fine None = tt
  sought_fine (Some place) = tt

  seek_fine : (o : Option OpenFile) → Fine (seek_file_outcome system request o)
  seek_fine None = tt
  seek_fine (Some file) = sought_fine (seek_offset system.tree request file file.kind)

  -- ---- calls on names

  make_fine : (name : Components) (k : NewKind) (mode : ℕ) → HasPlainTarget k → Fine (make_outcome system request name k mode)
  make_fine name k mode x = search (unless, one, x)

  move_fine : (old new : Components) (object : Object) (o : Option Object) → Fine (move_outcome system request old new object o)
  move_fine old new object None = search (unless, one)
  move_fine old new object (Some other) = search (either, unless, none, two)

  -- ---- calls on processes

  kill_fine : (target : ℕ) (b : Bool) → Fine (success system 0 (cond b [] (Dying target ∷ [])))
  kill_fine target true = tt
  kill_fine target false = (tt, tt)

  policy_fine : (inherit : Bool) (binary : List ℕ) → IsWritableBinary binary → ArePlainChanges (policy_changes inherit binary)
  policy_fine true binary x = tt
  policy_fine false binary x = (x, tt)

  execed_fine : (result : CallResult) (table : Table) (binary : List ℕ) → IsWritableBinary binary → Fine (record { result = result; changes = Execed binary system.next_space ∷ policy_changes request.inherit binary; descriptors = table })
  execed_fine result table binary x = (tt, policy_fine request.inherit binary x)

  set_fine : (setting : SysCall) → Fine (set_ids_outcome setting system request)
  set_fine setting = unless (set_refused setting request.ids (register request 0) ∷ []) _ (tt, renewals_plain (is_other_of request.pid request.tid) system.next_number system.held)

-- every call
module _ (system : System) (request : Request) (plain : ArePlainArgs request.args) where
  text : (n : ℕ) → AreBytes (arg_text_at request n)
  text n = text_at request.args n plain

  name : (n : ℕ) → AreNames (arg_name_at request n)
  name n = components_plain (arg_text_at request n) (text n)

  pub plain_effect : (call : SysCall) → ArePlainChanges (effect system call request).changes
  plain_effect Open = search (unless, opened) where
    opened : ArePlainChanges (open_node_outcome system request (object_at system.tree (arg_name_at request 0))).changes
    opened = open_fine system request (object_at system.tree (arg_name_at request 0))
  plain_effect Close = search (unless, none)
  plain_effect Read = read_fine system request (file_at system.descriptors request.pid (register request 0))
  plain_effect Write = write_fine system request (file_at system.descriptors request.pid (register request 0))
  plain_effect Lseek = seek_fine system request (file_at system.descriptors request.pid (register request 0))
  plain_effect Dup = search (unless, none)
  plain_effect Stat = search (unless, on, one)
  plain_effect Lstat = search (unless, on, one)
  plain_effect Access = search (unless, on, none)
  plain_effect Readlink = search (unless, on, one)
  plain_effect Unlink = search (unless, on, one)
  plain_effect Link = search (unless, on, one)
  plain_effect Symlink = search (unless, link) where
    link : ArePlainChanges (make_outcome system request (arg_name_at request 1) (made.Link (arg_text_at request 0)) link_mode).changes
    link = make_fine system request (arg_name_at request 1) (made.Link (arg_text_at request 0)) link_mode (text 0)
  plain_effect Rename = search (unless, on, move_fine)
  plain_effect Mkdir = make_fine system request (arg_name_at request 0) made.Dir (low_mode (register request 1)) tt
  plain_effect Rmdir = search (unless, on, one)
  plain_effect Chdir = search (unless, on, one, name)
  plain_effect Chmod = search (unless, on, one)
  plain_effect Chown = search (unless, on, one)
  plain_effect Truncate = search (unless, on, one)
  plain_effect Fork = (tt, tt)
  plain_effect Execve = search (unless, on, execed_fine, binary) where
    binary : IsWritableBinary (printed_name (arg_name_at request 0))
    binary = binary_plain (arg_name_at request 0) (name 0)
  plain_effect Exit = (tt, tt)
  plain_effect Kill = search (unless, kill_fine)
  plain_effect GetPid = tt
  plain_effect GetUid = tt
  plain_effect GetEuid = tt
  plain_effect SetUid = set_fine system request SetUid
  plain_effect SetEuid = set_fine system request SetEuid
  plain_effect SetGid = set_fine system request SetGid
  plain_effect SetEgid = set_fine system request SetEgid
  plain_effect Socket = search (unless, none)
  plain_effect Bind = search (unless, none)
  plain_effect Connect = search (unless, none)
