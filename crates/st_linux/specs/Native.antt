-- The start of a run whose opens have flags of Linux, as the kernel runs it.
use Rattle.std.specs.Prelude.{ℕ, List, map, set, slice_index}
use Rattle.st_calls.specs.declared.call.SysCall.{SysCall}
use Rattle.st_calls.specs.declared.call.SysCall.TheVariants as call
use Rattle.st_trace.specs.declared.start.Instr.{Instr}
use Rattle.st_trace.specs.declared.start.Instr.TheVariants.{Call}
use Rattle.st_trace.specs.declared.start.Start.{Start}
use Rattle.st_trace.specs.declared.start.ThreadRow.{ThreadRow}
use Rattle.st_linux.specs.Flags.{native_flags}

-- the registers of a call of Linux as the kernel reads them: an open has its native flags in the second register
abbrev pub native_registers : SysCall → List ℕ → List ℕ
native_registers call.Open regs = set regs 1 (native_flags (slice_index regs 1))
native_registers _ regs = regs

-- an instruction, with the native registers of its call
abbrev pub native_instruction : Instr → Instr
native_instruction (Call made regs) = Call made (native_registers made regs)
native_instruction instr = instr

-- the row of a thread, with each instruction made native
abbrev pub native_row : ThreadRow → ThreadRow
native_row row = record { process = row.process; body = map native_instruction row.body }

-- the start, with each thread's instructions made native
abbrev pub to_native : Start → Start
to_native start = record start { threads = map native_row start.threads }
