use Rattle.std.proofs.Common.{◌≡◌, map, take}
use Rattle.st_linux.specs.Native.{native_instruction}
use Rattle.st_linux.proofs.native.native_row.Given as goal

abbrev pub invariant-loop-instr : goal.invariant-loop-instr
invariant-loop-instr l = l.body ≡ map native_instruction (take l.instr-index l.row.body)
