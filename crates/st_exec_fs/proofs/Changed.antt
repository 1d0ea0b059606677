-- What the changes of a call leave alone: calls on names change only the tree, looks change only memory.
use Rattle.std.proofs.Common.{◌≡◌, ◌∙◌, ap, refl, ℕ, Bool, true, false, cond, ◌==◌, List, [], ◌∷◌, Option, Some, None}
use Rattle.std.specs.List.{fold}
use Rattle.st_base.specs.Errno.{first_error}
use Rattle.st_base.specs.declared.errno.Errno.{Errno}
use Rattle.st_calls.specs.Call.{has_flag}
use Rattle.st_calls.specs.declared.call.SysCall.{SysCall}
use Rattle.st_calls.specs.declared.call.SysCall.TheVariants.{Open, Close, Read, Write, Lseek, Dup, Stat, Lstat, Access, Readlink, Unlink, Link, Symlink, Rename, Mkdir, Rmdir, Chdir, Chmod, Chown, Truncate, Fork, Execve, Exit, Kill, GetPid, GetUid, GetEuid, SetUid, SetEuid, SetGid, SetEgid, Socket, Bind, Connect}
use Rattle.st_calls.specs.declared.flags.TheConstants.{O_TRUNC}
use Rattle.st_model.specs.Descriptors.{Table, file_at}
use Rattle.st_model.specs.Process.{Process}
use Rattle.st_model.specs.Tree.{Tree}
use Rattle.st_model.specs.declared.object.NewKind.{NewKind}
use Rattle.st_model.specs.declared.open_file.FileKind.{FileKind}
use Rattle.st_model.specs.declared.open_file.FileKind.TheVariants as kind
use Rattle.st_model.specs.declared.open_file.OpenFile.{OpenFile}
use Rattle.st_names.specs.Name.{Components}
use Rattle.st_effects.specs.Changes.{memory_after, memory_after_change, process_after, process_after_change, tree_after, tree_after_change}
use Rattle.st_effects.specs.Descriptors.{open_node_outcome, open_object_outcome, put_changes, read_file_outcome, seek_file_outcome, seek_offset, seek_outcome, truncation, write_bytes_outcome, write_file_outcome, write_kind_outcome, write_offset}
use Rattle.st_effects.specs.Effect.{effect}
use Rattle.st_effects.specs.NameTests.{Object, object_at, on_found, on_object}
use Rattle.st_effects.specs.Names.{make_outcome, move_outcome}
use Rattle.st_effects.specs.System.{System, Request, Outcome, register, success, unless_error, unless_refused}
use Rattle.st_trace.specs.declared.entry.CallResult.{CallResult}
use Rattle.st_trace.specs.declared.entry.Change.{Change}
use Rattle.st_trace.specs.declared.entry.Change.TheVariants.{Made, Linked, Removed, Renamed, Written, Cut, Moded, Owned, Put, Forked, Execed, SetIds, Cwd, Dying, Renewed, Policy}
use Rattle.st_exec_fs.specs.Execution.{IsLookingCall, IsOnDescriptors, IsOnNames}

-- P holds of each of some changes
abbrev pub Each : (Change → Type 0) → List Change → Type 0
Each P [] = Unit {0}
Each P (change ∷ changes) = P change × Each P changes

-- what each of some changes leaves as it is, all of them do
fold_same : {A : Type 0} (f : A → Change → A) (P : Change → Type 0) → ((a : A) (c : Change) → P c → f a c ≡ a) → (a : A) (changes : List Change) → Each P changes → fold f a changes ≡ a
fold_same f P same a [] each = refl
fold_same f P same a (c ∷ changes) each = ap (λ b. fold f b changes) (same a c each.0) ∙ fold_same f P same a changes each.1

-- ---- changes of one part

-- a change of the tree
abbrev pub IsOfTree : Change → Type 0
IsOfTree (Made name obj kind uid gid mode) = Unit {0}
IsOfTree (Linked name obj) = Unit {0}
IsOfTree (Removed name) = Unit {0}
IsOfTree (Renamed old new) = Unit {0}
IsOfTree (Written obj at bytes) = Unit {0}
IsOfTree (Cut obj len) = Unit {0}
IsOfTree (Moded obj mode) = Unit {0}
IsOfTree (Owned obj uid gid) = Unit {0}
IsOfTree _ = ⊥

-- a change of memory
abbrev pub IsOfMemory : Change → Type 0
IsOfMemory (Put space at bytes) = Unit {0}
IsOfMemory _ = ⊥

-- a change of a process's directory
abbrev pub IsOfDirectory : Change → Type 0
IsOfDirectory (Cwd name) = Unit {0}
IsOfDirectory _ = ⊥

-- no change
abbrev pub IsNone : Change → Type 0
IsNone c = ⊥

abbrev LeavesTree : Change → Type 0
LeavesTree c = (tree : Tree) → tree_after_change tree c ≡ tree

abbrev LeavesMemory : Change → Type 0
LeavesMemory c = (own : ℕ) (memory : ℕ → ℕ → ℕ) → memory_after_change own memory c ≡ memory

abbrev LeavesProcesses : Change → Type 0
LeavesProcesses c = (processes : ℕ → Process) (m p : ℕ) (before : Process) → process_after_change processes m p before c ≡ before

-- what a change of the tree leaves as it is
record LeavesAllButTree (c : Change) : Type 0 where
  memory : LeavesMemory c
  processes : LeavesProcesses c

-- what a change of memory leaves as it is
record LeavesAllButMemory (c : Change) : Type 0 where
  tree : LeavesTree c
  processes : LeavesProcesses c

-- what a change of a directory leaves as it is
record LeavesAllButDirectory (c : Change) : Type 0 where
  tree : LeavesTree c
  memory : LeavesMemory c
  space : (processes : ℕ → Process) (m p : ℕ) (before : Process) → (process_after_change processes m p before c).space ≡ before.space

but_tree : (c : Change) → IsOfTree c → LeavesAllButTree c
but_tree (Made name obj kind uid gid mode) is = record { memory = λ own before. refl; processes = λ all m p before. refl }
but_tree (Linked name obj) is = record { memory = λ own before. refl; processes = λ all m p before. refl }
but_tree (Removed name) is = record { memory = λ own before. refl; processes = λ all m p before. refl }
but_tree (Renamed old new) is = record { memory = λ own before. refl; processes = λ all m p before. refl }
but_tree (Written obj at bytes) is = record { memory = λ own before. refl; processes = λ all m p before. refl }
but_tree (Cut obj len) is = record { memory = λ own before. refl; processes = λ all m p before. refl }
but_tree (Moded obj mode) is = record { memory = λ own before. refl; processes = λ all m p before. refl }
but_tree (Owned obj uid gid) is = record { memory = λ own before. refl; processes = λ all m p before. refl }
but_tree (Put space at bytes) is = absurd is
but_tree (Forked pid space tid) is = absurd is
but_tree (Execed binary space) is = absurd is
but_tree (SetIds ids) is = absurd is
but_tree (Cwd name) is = absurd is
but_tree (Dying pid) is = absurd is
but_tree (Renewed old new) is = absurd is
but_tree (Policy binary) is = absurd is

but_memory : (c : Change) → IsOfMemory c → LeavesAllButMemory c
but_memory (Made name obj kind uid gid mode) is = absurd is
but_memory (Linked name obj) is = absurd is
but_memory (Removed name) is = absurd is
but_memory (Renamed old new) is = absurd is
but_memory (Written obj at bytes) is = absurd is
but_memory (Cut obj len) is = absurd is
but_memory (Moded obj mode) is = absurd is
but_memory (Owned obj uid gid) is = absurd is
but_memory (Put space at bytes) is = record { tree = λ tree. refl; processes = λ all m p before. refl }
but_memory (Forked pid space tid) is = absurd is
but_memory (Execed binary space) is = absurd is
but_memory (SetIds ids) is = absurd is
but_memory (Cwd name) is = absurd is
but_memory (Dying pid) is = absurd is
but_memory (Renewed old new) is = absurd is
but_memory (Policy binary) is = absurd is

moved_space : (name : Components) (before : Process) (b : Bool) → (cond b (record before { cwd = name }) before).space ≡ before.space
moved_space name before true = refl
moved_space name before false = refl

but_directory : (c : Change) → IsOfDirectory c → LeavesAllButDirectory c
but_directory (Made name obj kind uid gid mode) is = absurd is
but_directory (Linked name obj) is = absurd is
but_directory (Removed name) is = absurd is
but_directory (Renamed old new) is = absurd is
but_directory (Written obj at bytes) is = absurd is
but_directory (Cut obj len) is = absurd is
but_directory (Moded obj mode) is = absurd is
but_directory (Owned obj uid gid) is = absurd is
but_directory (Put space at bytes) is = absurd is
but_directory (Forked pid space tid) is = absurd is
but_directory (Execed binary space) is = absurd is
but_directory (SetIds ids) is = absurd is
but_directory (Cwd name) is = record { tree = λ tree. refl; memory = λ own before. refl; space = λ all m p before. moved_space name before (m == p) }
but_directory (Dying pid) is = absurd is
but_directory (Renewed old new) is = absurd is
but_directory (Policy binary) is = absurd is

pub memory_left : (own : ℕ) (memory : ℕ → ℕ → ℕ) (changes : List Change) → Each IsOfTree changes → memory_after own memory changes ≡ memory
memory_left own memory changes each = fold_same (memory_after_change own) IsOfTree (λ before c is. (but_tree c is).memory own before) memory changes each

pub processes_left : (processes : ℕ → Process) (m p : ℕ) (changes : List Change) → Each IsOfTree changes → process_after processes m p changes ≡ processes p
processes_left processes m p changes each = fold_same (process_after_change processes m p) IsOfTree (λ before c is. (but_tree c is).processes processes m p before) (processes p) changes each

pub tree_left_by_puts : (tree : Tree) (changes : List Change) → Each IsOfMemory changes → tree_after tree changes ≡ tree
tree_left_by_puts tree changes each = fold_same tree_after_change IsOfMemory (λ before c is. (but_memory c is).tree before) tree changes each

pub processes_left_by_puts : (processes : ℕ → Process) (m p : ℕ) (changes : List Change) → Each IsOfMemory changes → process_after processes m p changes ≡ processes p
processes_left_by_puts processes m p changes each = fold_same (process_after_change processes m p) IsOfMemory (λ before c is. (but_memory c is).processes processes m p before) (processes p) changes each

pub tree_left_by_moves : (tree : Tree) (changes : List Change) → Each IsOfDirectory changes → tree_after tree changes ≡ tree
tree_left_by_moves tree changes each = fold_same tree_after_change IsOfDirectory (λ before c is. (but_directory c is).tree before) tree changes each

pub memory_left_by_moves : (own : ℕ) (memory : ℕ → ℕ → ℕ) (changes : List Change) → Each IsOfDirectory changes → memory_after own memory changes ≡ memory
memory_left_by_moves own memory changes each = fold_same (memory_after_change own) IsOfDirectory (λ before c is. (but_directory c is).memory own before) memory changes each

space_from : (processes : ℕ → Process) (m p : ℕ) (before : Process) (changes : List Change) → Each IsOfDirectory changes → (fold (process_after_change processes m p) before changes).space ≡ before.space
space_from processes m p before [] each = refl
space_from processes m p before (c ∷ changes) each = space_from processes m p (process_after_change processes m p before c) changes each.1 ∙ (but_directory c each.0).space processes m p before

pub space_left : (processes : ℕ → Process) (m p : ℕ) (changes : List Change) → Each IsOfDirectory changes → (process_after processes m p changes).space ≡ (processes p).space
space_left processes m p changes each = space_from processes m p (processes p) changes each

pub none_left : (changes : List Change) → Each IsNone changes → changes ≡ []
none_left [] each = refl
none_left (c ∷ changes) each = absurd each.0

-- ---- outcomes by their cases

-- P holds of each change of an outcome
pub record Makes (P : Change → Type 0) (outcome : Outcome) : Type 0 where
  pub changes : Each P outcome.changes

module _ (P : Change → Type 0) (system : System) where
  unless_error_makes : (error : Option Errno) (outcome : Outcome) → Makes P outcome → Makes P (unless_error system error outcome)
  unless_error_makes None outcome makes = makes
  unless_error_makes (Some errno) outcome makes = record { changes = tt }

  -- a call that is refused changes nothing
  unless : (reasons : List (Option Errno)) (outcome : Outcome) → Makes P outcome → Makes P (unless_refused system reasons outcome)
  unless reasons outcome makes = unless_error_makes (first_error reasons) outcome makes

  found : (outcome : Object → Outcome) → ((object : Object) → Makes P (outcome object)) → (o : Option Object) → Makes P (on_found system outcome o)
  found outcome makes None = record { changes = tt }
  found outcome makes (Some object) = makes object

  -- a call whose name has no object changes nothing
  on : (name : Components) (outcome : Object → Outcome) → ((object : Object) → Makes P (outcome object)) → Makes P (on_object system name outcome)
  on name outcome makes = found outcome makes (object_at system.tree name)

  either : (b : Bool) (first second : Outcome) → Makes P first → Makes P second → Makes P (cond b first second)
  either true first second one other = one
  either false first second one other = other

  none : (result : CallResult) (table : Table) → Makes P (record { result = result; changes = []; descriptors = table })
  none result table = record { changes = tt }

  one : (result : CallResult) (table : Table) (c : Change) → P c → Makes P (record { result = result; changes = c ∷ []; descriptors = table })
  one result table c is = record { changes = (is, tt) }

  two : (result : CallResult) (table : Table) (c d : Change) → P c → P d → Makes P (record { result = result; changes = c ∷ d ∷ []; descriptors = table })
  two result table c d is other = record { changes = (is, (other, tt)) }

  some : (result : CallResult) (table : Table) (changes : List Change) → Each P changes → Makes P (record { result = result; changes = changes; descriptors = table })
  some result table changes each = record { changes = each }

module _ (system : System) (request : Request) where
  -- ---- changes of the tree

  moved : (old new : Components) (object other : Object) → Makes IsOfTree (move_outcome system request old new object (Some other))
  moved old new object other = search (either, unless, none, two)

  moves : (old new : Components) (object : Object) (o : Option Object) → Makes IsOfTree (move_outcome system request old new object o)
  moves old new object None = search (unless, one)
  moves old new object (Some other) = moved old new object other

  makes : (name : Components) (kind : NewKind) (mode : ℕ) → Makes IsOfTree (make_outcome system request name kind mode)
  makes name kind mode = search (unless, one)

  -- the changes of calls on names
  pub names_change : (call : SysCall) → IsOnNames call → Makes IsOfTree (effect system call request)
  names_change Unlink is = search (unless, on, one)
  names_change Link is = search (unless, on, one)
  names_change Symlink is = search (unless, makes)
  names_change Rename is = search (unless, on, moves)
  names_change Mkdir is = search (makes)
  names_change Rmdir is = search (unless, on, one)
  names_change Chmod is = search (unless, on, one)
  names_change Chown is = search (unless, on, one)
  names_change Truncate is = search (unless, on, one)
  names_change Open is = absurd is
  names_change Close is = absurd is
  names_change Read is = absurd is
  names_change Write is = absurd is
  names_change Lseek is = absurd is
  names_change Dup is = absurd is
  names_change Stat is = absurd is
  names_change Lstat is = absurd is
  names_change Access is = absurd is
  names_change Readlink is = absurd is
  names_change Chdir is = absurd is
  names_change Fork is = absurd is
  names_change Execve is = absurd is
  names_change Exit is = absurd is
  names_change Kill is = absurd is
  names_change GetPid is = absurd is
  names_change GetUid is = absurd is
  names_change GetEuid is = absurd is
  names_change SetUid is = absurd is
  names_change SetEuid is = absurd is
  names_change SetGid is = absurd is
  names_change SetEgid is = absurd is
  names_change Socket is = absurd is
  names_change Bind is = absurd is
  names_change Connect is = absurd is

  cuts : (obj : ℕ) (b : Bool) → Each IsOfTree (cond b (Cut obj 0 ∷ []) [])
  cuts obj true = (tt, tt)
  cuts obj false = tt

  opened : (object : Object) → Makes IsOfTree (open_object_outcome system request object.number (truncation object.number (register request 1)))
  opened object = record { changes = cuts object.number (has_flag (register request 1) O_TRUNC) }

  opens : (o : Option Object) → Makes IsOfTree (open_node_outcome system request o)
  opens None = search (unless, one)
  opens (Some object) = search (unless, opened)

  pub open_changes : Makes IsOfTree (effect system Open request)
  open_changes = search (unless, opens)

  writes_into : (file : OpenFile) (of : FileKind) → Makes IsOfTree (write_kind_outcome system request file of)
  writes_into file kind.Console = record { changes = tt }
  writes_into file (kind.Node obj) = either IsOfTree system (register request 2 == 0) (success system 0 []) (write_bytes_outcome system request obj (write_offset system.tree obj file)) (record { changes = tt }) written where
    written : Makes IsOfTree (write_bytes_outcome system request obj (write_offset system.tree obj file))
    written = search (unless, one)
  writes_into file (kind.Socket port connected) = record { changes = tt }

  writes : (o : Option OpenFile) → Makes IsOfTree (write_file_outcome system request o)
  writes None = record { changes = tt }
  writes (Some file) = search (unless, writes_into)

  pub write_changes : Makes IsOfTree (effect system Write request)
  write_changes = writes (file_at system.descriptors request.pid (register request 0))

  -- ---- changes of memory

  puts : (space at : ℕ) (bytes : List ℕ) → Each IsOfMemory (put_changes space at bytes)
  puts space at [] = tt
  puts space at (byte ∷ bytes) = (tt, tt)

  reads : (o : Option OpenFile) → Makes IsOfMemory (read_file_outcome system request o)
  reads None = record { changes = tt }
  reads (Some file) = search (unless, some, puts)

  pub read_changes : Makes IsOfMemory (effect system Read request)
  read_changes = reads (file_at system.descriptors request.pid (register request 0))

  -- the changes of looks
  pub looks_change : (call : SysCall) → IsLookingCall call → Makes IsOfMemory (effect system call request)
  looks_change Stat is = search (unless, on, one)
  looks_change Lstat is = search (unless, on, one)
  looks_change Access is = search (unless, on, none)
  looks_change Readlink is = search (unless, on, one)
  looks_change Open is = absurd is
  looks_change Close is = absurd is
  looks_change Read is = absurd is
  looks_change Write is = absurd is
  looks_change Lseek is = absurd is
  looks_change Dup is = absurd is
  looks_change Unlink is = absurd is
  looks_change Link is = absurd is
  looks_change Symlink is = absurd is
  looks_change Rename is = absurd is
  looks_change Mkdir is = absurd is
  looks_change Rmdir is = absurd is
  looks_change Chdir is = absurd is
  looks_change Chmod is = absurd is
  looks_change Chown is = absurd is
  looks_change Truncate is = absurd is
  looks_change Fork is = absurd is
  looks_change Execve is = absurd is
  looks_change Exit is = absurd is
  looks_change Kill is = absurd is
  looks_change GetPid is = absurd is
  looks_change GetUid is = absurd is
  looks_change GetEuid is = absurd is
  looks_change SetUid is = absurd is
  looks_change SetEuid is = absurd is
  looks_change SetGid is = absurd is
  looks_change SetEgid is = absurd is
  looks_change Socket is = absurd is
  looks_change Bind is = absurd is
  looks_change Connect is = absurd is

  -- ---- calls that change neither the tree nor memory

  pub chdir_changes : Makes IsOfDirectory (effect system Chdir request)
  chdir_changes = search (unless, on, one)

  pub access_changes : Makes IsNone (effect system Access request)
  access_changes = search (unless, on, none)

  sought : (place : Option ℕ) → Makes IsNone (seek_outcome system request place)
  sought None = record { changes = tt }
  sought (Some place) = record { changes = tt }

  seeks : (o : Option OpenFile) → Makes IsNone (seek_file_outcome system request o)
  seeks None = record { changes = tt }
  seeks (Some file) = sought (seek_offset system.tree request file file.kind)

  -- calls on descriptors have no changes but of these
  pub descriptors_change : (call : SysCall) → IsOnDescriptors call → Makes IsNone (effect system call request)
  descriptors_change Close is = search (unless, none)
  descriptors_change Lseek is = seeks (file_at system.descriptors request.pid (register request 0))
  descriptors_change Dup is = search (unless, none)
  descriptors_change Open is = absurd is
  descriptors_change Read is = absurd is
  descriptors_change Write is = absurd is
  descriptors_change Stat is = absurd is
  descriptors_change Lstat is = absurd is
  descriptors_change Access is = absurd is
  descriptors_change Readlink is = absurd is
  descriptors_change Unlink is = absurd is
  descriptors_change Link is = absurd is
  descriptors_change Symlink is = absurd is
  descriptors_change Rename is = absurd is
  descriptors_change Mkdir is = absurd is
  descriptors_change Rmdir is = absurd is
  descriptors_change Chdir is = absurd is
  descriptors_change Chmod is = absurd is
  descriptors_change Chown is = absurd is
  descriptors_change Truncate is = absurd is
  descriptors_change Fork is = absurd is
  descriptors_change Execve is = absurd is
  descriptors_change Exit is = absurd is
  descriptors_change Kill is = absurd is
  descriptors_change GetPid is = absurd is
  descriptors_change GetUid is = absurd is
  descriptors_change GetEuid is = absurd is
  descriptors_change SetUid is = absurd is
  descriptors_change SetEuid is = absurd is
  descriptors_change SetGid is = absurd is
  descriptors_change SetEgid is = absurd is
  descriptors_change Socket is = absurd is
  descriptors_change Bind is = absurd is
  descriptors_change Connect is = absurd is
