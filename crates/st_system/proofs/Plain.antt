-- The changes of the calls on names and files: none of them starts, ends or renews anything, or gives a process another memory.
use Rattle.std.proofs.Common.{◌≡◌, ◌∙◌, ℕ, Bool, true, false, cond, ◌==◌, List, [], ◌∷◌, Option, Some, None, refl, ap}
use Rattle.std.specs.List.{fold}
use Rattle.st_base.specs.declared.errno.Errno.{Errno}
use Rattle.st_calls.specs.declared.call.SysCall.{SysCall}
use Rattle.st_calls.specs.declared.call.SysCall.TheVariants.{Open, Close, Read, Write, Lseek, Dup, Stat, Lstat, Access, Readlink, Unlink, Link, Symlink, Rename, Mkdir, Rmdir, Chdir, Chmod, Chown, Truncate, Fork, Execve, Exit, Kill, GetPid, GetUid, GetEuid, SetUid, SetEuid, SetGid, SetEgid, Socket, Bind, Connect}
use Rattle.st_names.specs.Name.{Components}
use Rattle.st_model.specs.Process.{Process}
use Rattle.st_effects.specs.Changes.{dying_after, dying_after_change, next_process_after, next_process_after_change, next_space_after, next_space_after_change, owner_after, owner_after_change, process_after, process_after_change}
use Rattle.st_effects.specs.Effect.{effect}
use Rattle.st_effects.specs.NameTests.{Object, on_found}
use Rattle.st_effects.specs.System.{System, Request, Outcome, arg_name_at, unless_error}
use Rattle.st_trace.specs.declared.entry.Change.{Change}
use Rattle.st_trace.specs.declared.entry.Change.TheVariants.{Made, Linked, Removed, Renamed, Written, Cut, Moded, Owned, Put, Forked, Execed, SetIds, Cwd, Dying, Renewed, Policy}
use Rattle.st_exec_fs.specs.Execution.{IsOnFiles}
use Rattle.st_system.proofs.Short.{IsShort, IsShortMove, short_after}
use Rattle.st_exec_fs.proofs.Changed.{Each, IsOfTree, IsOfMemory, IsNone, Makes, names_change, open_changes, write_changes, read_changes, looks_change, descriptors_change}

-- a change of the tree, of memory, or of a directory to one whose name isn't too long
abbrev pub IsPlain : Change → Type 0
IsPlain (Forked pid space tid) = ⊥
IsPlain (Execed binary space) = ⊥
IsPlain (SetIds ids) = ⊥
IsPlain (Dying pid) = ⊥
IsPlain (Renewed old new) = ⊥
IsPlain (Policy binary) = ⊥
IsPlain (Cwd name) = IsShort name
IsPlain _ = Unit {0}

-- ---- which calls make them

of_tree : (c : Change) → IsOfTree c → IsPlain c
of_tree (Made name obj kind uid gid mode) x = tt
of_tree (Linked name obj) x = tt
of_tree (Removed name) x = tt
of_tree (Renamed old new) x = tt
of_tree (Written obj at bytes) x = tt
of_tree (Cut obj len) x = tt
of_tree (Moded obj mode) x = tt
of_tree (Owned obj uid gid) x = tt
of_tree (Put space at bytes) x = tt
of_tree (Forked pid space tid) x = x
of_tree (Execed binary space) x = x
of_tree (SetIds ids) x = x
of_tree (Cwd name) x = absurd x
of_tree (Dying pid) x = x
of_tree (Renewed old new) x = x
of_tree (Policy binary) x = x

of_memory : (c : Change) → IsOfMemory c → IsPlain c
of_memory (Made name obj kind uid gid mode) x = tt
of_memory (Linked name obj) x = tt
of_memory (Removed name) x = tt
of_memory (Renamed old new) x = tt
of_memory (Written obj at bytes) x = tt
of_memory (Cut obj len) x = tt
of_memory (Moded obj mode) x = tt
of_memory (Owned obj uid gid) x = tt
of_memory (Put space at bytes) x = tt
of_memory (Forked pid space tid) x = x
of_memory (Execed binary space) x = x
of_memory (SetIds ids) x = x
of_memory (Cwd name) x = absurd x
of_memory (Dying pid) x = x
of_memory (Renewed old new) x = x
of_memory (Policy binary) x = x

-- the directory that such a change gives a process has a name that isn't too long
plain_move : (c : Change) → IsPlain c → IsShortMove c
plain_move (Made name obj kind uid gid mode) x = tt
plain_move (Linked name obj) x = tt
plain_move (Removed name) x = tt
plain_move (Renamed old new) x = tt
plain_move (Written obj at bytes) x = tt
plain_move (Cut obj len) x = tt
plain_move (Moded obj mode) x = tt
plain_move (Owned obj uid gid) x = tt
plain_move (Put space at bytes) x = tt
plain_move (Forked pid space tid) x = tt
plain_move (Execed binary space) x = tt
plain_move (SetIds ids) x = tt
plain_move (Cwd name) x = x
plain_move (Dying pid) x = tt
plain_move (Renewed old new) x = tt
plain_move (Policy binary) x = tt

each : (P Q : Change → Type 0) → ((c : Change) → P c → Q c) → (changes : List Change) → Each P changes → Each Q changes
each P Q f [] x = tt
each P Q f (c ∷ changes) x = (f c x.0, each P Q f changes x.1)

module _ (system : System) (request : Request) where
  abbrev ArePlain : SysCall → Type 0
  ArePlain call = Each IsPlain (effect system call request).changes

  tree : (call : SysCall) → Makes IsOfTree (effect system call request) → ArePlain call
  tree call made = each IsOfTree IsPlain of_tree (effect system call request).changes made.changes

  memory : (call : SysCall) → Makes IsOfMemory (effect system call request) → ArePlain call
  memory call made = each IsOfMemory IsPlain of_memory (effect system call request).changes made.changes

  none : (call : SysCall) → Makes IsNone (effect system call request) → ArePlain call
  none call made = each IsNone IsPlain (λ c x. absurd x) (effect system call request).changes made.changes

  -- a call that is refused, or whose name has no object, changes nothing
  unless : (o : Option Errno) (outcome : Outcome) → Each IsPlain outcome.changes → Each IsPlain (unless_error system o outcome).changes
  unless None outcome x = x
  unless (Some errno) outcome x = tt

  on : (outcome : Object → Outcome) → ((object : Object) → Each IsPlain (outcome object).changes) → (o : Option Object) → Each IsPlain (on_found system outcome o).changes
  on outcome x None = tt
  on outcome x (Some object) = x object

  moves : IsShort (arg_name_at request 0) → ArePlain Chdir
  moves short = search (unless, on, short)

  pub plain_changes : (call : SysCall) → IsOnFiles call → (call ≡ Chdir → IsShort (arg_name_at request 0)) → ArePlain call
  plain_changes Open on short = tree Open (open_changes system request)
  plain_changes Close on short = none Close (descriptors_change system request Close tt)
  plain_changes Read on short = memory Read (read_changes system request)
  plain_changes Write on short = tree Write (write_changes system request)
  plain_changes Lseek on short = none Lseek (descriptors_change system request Lseek tt)
  plain_changes Dup on short = none Dup (descriptors_change system request Dup tt)
  plain_changes Stat on short = memory Stat (looks_change system request Stat tt)
  plain_changes Lstat on short = memory Lstat (looks_change system request Lstat tt)
  plain_changes Access on short = memory Access (looks_change system request Access tt)
  plain_changes Readlink on short = memory Readlink (looks_change system request Readlink tt)
  plain_changes Unlink on short = tree Unlink (names_change system request Unlink tt)
  plain_changes Link on short = tree Link (names_change system request Link tt)
  plain_changes Symlink on short = tree Symlink (names_change system request Symlink tt)
  plain_changes Rename on short = tree Rename (names_change system request Rename tt)
  plain_changes Mkdir on short = tree Mkdir (names_change system request Mkdir tt)
  plain_changes Rmdir on short = tree Rmdir (names_change system request Rmdir tt)
  plain_changes Chdir on short = moves (short refl)
  plain_changes Chmod on short = tree Chmod (names_change system request Chmod tt)
  plain_changes Chown on short = tree Chown (names_change system request Chown tt)
  plain_changes Truncate on short = tree Truncate (names_change system request Truncate tt)
  plain_changes Fork on short = absurd on
  plain_changes Execve on short = absurd on
  plain_changes Exit on short = absurd on
  plain_changes Kill on short = absurd on
  plain_changes GetPid on short = absurd on
  plain_changes GetUid on short = absurd on
  plain_changes GetEuid on short = absurd on
  plain_changes SetUid on short = absurd on
  plain_changes SetEuid on short = absurd on
  plain_changes SetGid on short = absurd on
  plain_changes SetEgid on short = absurd on
  plain_changes Socket on short = absurd on
  plain_changes Bind on short = absurd on
  plain_changes Connect on short = absurd on

-- ---- what these changes leave unchanged

moved_space : (name : Components) (before : Process) (b : Bool) → (cond b (record before { cwd = name }) before).space ≡ before.space
moved_space name before true = refl
moved_space name before false = refl

-- what a plain change leaves unchanged
record Leaves (c : Change) : Type 0 where
  owner : (t o : ℕ) → owner_after_change t o c ≡ o
  process : (n : ℕ) → next_process_after_change n c ≡ n
  space : (n : ℕ) → next_space_after_change n c ≡ n
  own : (processes : ℕ → Process) (m p : ℕ) (before : Process) → (process_after_change processes m p before c).space ≡ before.space
  dying : (t p u m : ℕ) (before : Bool) → dying_after_change t p u m before c ≡ before

leaves : (c : Change) → IsPlain c → Leaves c
leaves (Made name obj kind uid gid mode) x = record { owner = λ t o. refl; process = λ n. refl; space = λ n. refl; own = λ all m p before. refl; dying = λ t p u m before. refl }
leaves (Linked name obj) x = record { owner = λ t o. refl; process = λ n. refl; space = λ n. refl; own = λ all m p before. refl; dying = λ t p u m before. refl }
leaves (Removed name) x = record { owner = λ t o. refl; process = λ n. refl; space = λ n. refl; own = λ all m p before. refl; dying = λ t p u m before. refl }
leaves (Renamed old new) x = record { owner = λ t o. refl; process = λ n. refl; space = λ n. refl; own = λ all m p before. refl; dying = λ t p u m before. refl }
leaves (Written obj at bytes) x = record { owner = λ t o. refl; process = λ n. refl; space = λ n. refl; own = λ all m p before. refl; dying = λ t p u m before. refl }
leaves (Cut obj len) x = record { owner = λ t o. refl; process = λ n. refl; space = λ n. refl; own = λ all m p before. refl; dying = λ t p u m before. refl }
leaves (Moded obj mode) x = record { owner = λ t o. refl; process = λ n. refl; space = λ n. refl; own = λ all m p before. refl; dying = λ t p u m before. refl }
leaves (Owned obj uid gid) x = record { owner = λ t o. refl; process = λ n. refl; space = λ n. refl; own = λ all m p before. refl; dying = λ t p u m before. refl }
leaves (Put space at bytes) x = record { owner = λ t o. refl; process = λ n. refl; space = λ n. refl; own = λ all m p before. refl; dying = λ t p u m before. refl }
leaves (Forked pid space tid) x = absurd x
leaves (Execed binary space) x = absurd x
leaves (SetIds ids) x = absurd x
leaves (Cwd name) x = record { owner = λ t o. refl; process = λ n. refl; space = λ n. refl; own = λ all m p before. moved_space name before (m == p); dying = λ t p u m before. refl }
leaves (Dying pid) x = absurd x
leaves (Renewed old new) x = absurd x
leaves (Policy binary) x = absurd x

fold_same : {A : Type 0} (f : A → Change → A) → ((a : A) (c : Change) → IsPlain c → f a c ≡ a) → (a : A) (changes : List Change) → Each IsPlain changes → fold f a changes ≡ a
fold_same f same a [] plain = refl
fold_same f same a (c ∷ changes) plain = ap (λ b. fold f b changes) (same a c plain.0) ∙ fold_same f same a changes plain.1

pub owner_same : (t o : ℕ) (changes : List Change) → Each IsPlain changes → owner_after t o changes ≡ o
owner_same t o changes plain = fold_same (owner_after_change t) (λ o c x. (leaves c x).owner t o) o changes plain

pub next_process_same : (n : ℕ) (changes : List Change) → Each IsPlain changes → next_process_after n changes ≡ n
next_process_same n changes plain = fold_same next_process_after_change (λ n c x. (leaves c x).process n) n changes plain

pub next_space_same : (n : ℕ) (changes : List Change) → Each IsPlain changes → next_space_after n changes ≡ n
next_space_same n changes plain = fold_same next_space_after_change (λ n c x. (leaves c x).space n) n changes plain

pub dying_same : (t p u m : ℕ) (before : Bool) (changes : List Change) → Each IsPlain changes → dying_after t p u m before changes ≡ before
dying_same t p u m before changes plain = fold_same (dying_after_change t p u m) (λ b c x. (leaves c x).dying t p u m b) before changes plain

module _ (processes : ℕ → Process) (m p : ℕ) where
  fold_space : (before : Process) (changes : List Change) → Each IsPlain changes → (fold (process_after_change processes m p) before changes).space ≡ before.space
  fold_space before [] plain = refl
  fold_space before (c ∷ changes) plain = fold_space (process_after_change processes m p before c) changes plain.1 ∙ (leaves c plain.0).own processes m p before

  pub short_same : ((q : ℕ) → IsShort (processes q).cwd) → (changes : List Change) → Each IsPlain changes → IsShort (process_after processes m p changes).cwd
  short_same short changes plain = short_after processes short m p changes (each IsPlain IsShortMove plain_move changes plain)

  pub space_same : (changes : List Change) → Each IsPlain changes → (process_after processes m p changes).space ≡ (processes p).space
  space_same changes plain = fold_space (processes p) changes plain
