-- A single argument, in the memory and the tree of one step.
use Rattle.std.specs.Prelude.{◌≡◌, ℕ, slice_index_or}
use Rattle.st_arguments.specs.declared.fault.ArgFault.{ArgFault}
use Rattle.st_arguments.specs.declared.fault.ArgFault.TheVariants as fault
use Rattle.st_base.specs.declared.errno.Errno.{Errno}
use Rattle.st_calls.specs.declared.argument.ArgSpec.{ArgSpec}
use Rattle.st_calls.specs.declared.argument.ArgText.{ArgText}
use Rattle.st_calls.specs.declared.argument.PartKind.{PartKind}
use Rattle.st_effects.specs.Progress.{ArgRequest, Progress, Stuck, with_arg}
use Rattle.st_law.specs.Arguments.{Surroundings, part_of_spelling, spelled_in}
use Rattle.st_memory.specs.Memory.{Memories, byte_in}
use Rattle.st_model.specs.Spelling.{Spelled}
use Rattle.st_model.specs.Tree.{Tree}
use Rattle.st_resolve.specs.declared.walk.WalkFault.{WalkFault}
use Rattle.st_resolve.specs.declared.walk.WalkFault.TheVariants as walk

-- the bytes of this memory space, and the tree
abbrev pub surroundings : Tree → Memories → ℕ → Surroundings
surroundings tree spaces space = record { bytes = byte_in spaces space; tree = tree }

-- why an argument has no text if its name can't be resolved
abbrev pub fault_of_walk : WalkFault → ArgFault
fault_of_walk (walk.Os errno) = fault.Os errno
fault_of_walk walk.NoMemory = fault.NoMemory

-- what the words of a memory spell, for an argument of this kind that begins at this byte
pub record IsSpelledBy (bytes : ℕ → ℕ) (kind : PartKind) (at : ℕ) (spelled : Spelled) : Type 0 where
  pub is : spelled_in bytes kind at ≡ spelled

-- the progress of the argument at position j, followed by that of the arguments after it
abbrev pub part_in : ArgRequest → Surroundings → ArgSpec → ℕ → Progress → Progress
part_in asked around spec j rest = part_of_spelling j spec asked around.tree (spelled_in around.bytes spec.kind (slice_index_or asked.regs spec.register 0)) rest

-- an argument has this text, at any position
pub record IsArgument (asked : ArgRequest) (around : Surroundings) (spec : ArgSpec) (arg : ArgText) : Type 0 where
  pub is : (j : ℕ) (rest : Progress) → part_in asked around spec j rest ≡ with_arg arg rest

-- an argument has this fault, at any position
pub record IsFaultOf (asked : ArgRequest) (around : Surroundings) (spec : ArgSpec) (errno : Errno) : Type 0 where
  pub is : (j : ℕ) (rest : Progress) → part_in asked around spec j rest ≡ Stuck errno
