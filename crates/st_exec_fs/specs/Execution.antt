-- The calls on names and files, by the parts of the system that they are made over, and the system after a call.
use Rattle.std.specs.Prelude.{◌≡◌, ℕ}
use Rattle.st_calls.specs.declared.call.SysCall.{SysCall}
use Rattle.st_calls.specs.declared.call.SysCall.TheVariants.{Open, Close, Read, Write, Lseek, Dup, Stat, Lstat, Access, Readlink, Unlink, Link, Symlink, Rename, Mkdir, Rmdir, Chdir, Chmod, Chown, Truncate}
use Rattle.st_memory.specs.Memory.{Memories, byte_in}
use Rattle.st_model.specs.Descriptors.{Table}
use Rattle.st_model.specs.Processes.{Processes, process_at}
use Rattle.st_model.specs.Tree.{Tree}
use Rattle.st_effects.specs.Changes.{memory_after, tree_after}
use Rattle.st_effects.specs.Effect.{effect}
use Rattle.st_effects.specs.System as effects
use Rattle.st_request.specs.Outcome.{outcome_of, assembled_system}
use Rattle.st_request.specs.Processes.{AreProcessesAfter}
use Rattle.st_request.specs.declared.outcome.Outcome.{Outcome}

-- a call that changes descriptors or their offsets, and nothing else
abbrev pub IsOnDescriptors : SysCall → Type 0
IsOnDescriptors Close = Unit {0}
IsOnDescriptors Lseek = Unit {0}
IsOnDescriptors Dup = Unit {0}
IsOnDescriptors _ = ⊥

-- a call that looks at what a name has
abbrev pub IsLookingCall : SysCall → Type 0
IsLookingCall Stat = Unit {0}
IsLookingCall Lstat = Unit {0}
IsLookingCall Access = Unit {0}
IsLookingCall Readlink = Unit {0}
IsLookingCall _ = ⊥

-- a call that changes what a name has, or whether it has an object
abbrev pub IsOnNames : SysCall → Type 0
IsOnNames Unlink = Unit {0}
IsOnNames Link = Unit {0}
IsOnNames Symlink = Unit {0}
IsOnNames Rename = Unit {0}
IsOnNames Mkdir = Unit {0}
IsOnNames Rmdir = Unit {0}
IsOnNames Chmod = Unit {0}
IsOnNames Chown = Unit {0}
IsOnNames Truncate = Unit {0}
IsOnNames _ = ⊥

-- a call on names and files
abbrev pub IsOnFiles : SysCall → Type 0
IsOnFiles Open = Unit {0}
IsOnFiles Close = Unit {0}
IsOnFiles Read = Unit {0}
IsOnFiles Write = Unit {0}
IsOnFiles Lseek = Unit {0}
IsOnFiles Dup = Unit {0}
IsOnFiles Stat = Unit {0}
IsOnFiles Lstat = Unit {0}
IsOnFiles Access = Unit {0}
IsOnFiles Readlink = Unit {0}
IsOnFiles Unlink = Unit {0}
IsOnFiles Link = Unit {0}
IsOnFiles Symlink = Unit {0}
IsOnFiles Rename = Unit {0}
IsOnFiles Mkdir = Unit {0}
IsOnFiles Rmdir = Unit {0}
IsOnFiles Chdir = Unit {0}
IsOnFiles Chmod = Unit {0}
IsOnFiles Chown = Unit {0}
IsOnFiles Truncate = Unit {0}
IsOnFiles _ = ⊥

-- a call had its outcome over these parts of the system, and left the parts as its changes say
pub record IsFileCallExecuted (call : SysCall) (request : effects.Request) (given : Outcome) (old_tree : Tree) (old_descriptors : Table) (old_processes : Processes) (old_memories : Memories) (new_tree : Tree) (new_descriptors : Table) (new_processes : Processes) (new_memories : Memories) : Type 0 where
  pub outcome : (system : effects.System) → outcome_of given new_descriptors ≡ effect (assembled_system system old_tree old_descriptors old_processes old_memories) call request
  pub tree : new_tree ≡ tree_after old_tree given.changes
  pub processes : AreProcessesAfter old_processes request.pid given.changes new_processes
  pub memory : (s b : ℕ) → byte_in new_memories s b ≡ memory_after (process_at old_processes request.pid).space (byte_in old_memories) given.changes s b
