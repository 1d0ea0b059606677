use Rattle.std.proofs.Common.{◌-◌, length}
use Rattle.st_memory.specs.Memory.{byte_in}
use Rattle.st_arguments.proofs.Spelled.{IsCopying}
use Rattle.st_arguments.proofs.part.copied.Given as goal

abbrev pub invariant-loop-place : goal.invariant-loop-place
invariant-loop-place l = IsCopying (byte_in l.spaces l.space) l.fn.kind l.at l.copying

-- a part that asks for a word has at most 192 words
abbrev pub decreases-loop-place : goal.decreases-loop-place
decreases-loop-place l = 193 - length l.copying.words
