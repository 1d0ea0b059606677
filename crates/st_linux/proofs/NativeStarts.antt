-- What making a start native changes.
use Rattle.std.proofs.Common.{◌≡◌, ℕ, List, [], ◌∷◌, length, set, Some, refl, ap, ◌∙◌}
use Rattle.std.proofs.lemmas.List.{length-map, length-set, get_or-set_other}
use Rattle.std.proofs.lemmas.Option.{slice_get-map}
use Rattle.std.specs.Prelude.{option_map, slice_get, slice_index}
use Rattle.st_calls.specs.declared.call.SysCall.{SysCall}
use Rattle.st_calls.specs.declared.call.SysCall.TheVariants as call
use Rattle.st_trace.specs.declared.start.Instr.{Instr}
use Rattle.st_trace.specs.declared.start.Instr.TheVariants.{Store, Call, Fork, Reload}
use Rattle.st_trace.specs.declared.start.Start.{Start}
use Rattle.st_trace.specs.declared.start.ThreadRow.{ThreadRow}
use Rattle.st_linux.specs.Flags.{native_flags}
use Rattle.st_linux.specs.Laws.{HasNativeFlags, HasNativeRegisters, IsNativeOf, IsNativeRow}
use Rattle.st_linux.specs.Native.{native_registers, native_instruction, native_row, to_native}

second : (regs : List ℕ) → slice_index (set regs 1 (native_flags (slice_index regs 1))) 1 ≡ native_flags (slice_index regs 1)
second [] = refl
second (a ∷ []) = refl
second (a ∷ b ∷ regs) = refl

flags_native : (regs : List ℕ) → HasNativeFlags regs (set regs 1 (native_flags (slice_index regs 1)))
flags_native regs = record {
  as_many = length-set regs 1 (native_flags (slice_index regs 1));
  flags = second regs;
  others = λ k other. get_or-set_other regs 1 k (native_flags (slice_index regs 1)) 0 other;
}

registers_native : (made : SysCall) (regs : List ℕ) → HasNativeRegisters made regs (native_registers made regs)
registers_native call.Open regs = flags_native regs
registers_native _ regs = refl

instruction_native : (instr : Instr) → IsNativeOf instr (native_instruction instr)
instruction_native (Store place word) = refl
instruction_native (Call made regs) = (native_registers made regs, refl, registers_native made regs)
instruction_native (Fork child) = refl
instruction_native (Reload n) = refl

row_native : (row : ThreadRow) → IsNativeRow row (native_row row)
row_native row = record {
  process = refl;
  as_many = length-map row.body native_instruction;
  each = λ k instr there. (native_instruction instr, slice_get-map native_instruction row.body k ∙ ap (option_map native_instruction) there, instruction_native instr);
}

pub as_many_threads : (start : Start) → length (to_native start).threads ≡ length start.threads
as_many_threads start = length-map start.threads native_row

pub threads_native : (start : Start) (k : ℕ) (row : ThreadRow) → slice_get start.threads k ≡ Some row →
    (native : ThreadRow) × (slice_get (to_native start).threads k ≡ Some native) × IsNativeRow row native
threads_native start k row there = (native_row row, slice_get-map native_row start.threads k ∙ ap (option_map native_row) there, row_native row)
