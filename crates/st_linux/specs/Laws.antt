-- The conclusions of the laws of programs of Linux.
use Rattle.std.specs.Prelude.{◌≡◌, ◌≢◌, ℕ, List, length, Some, slice_get, slice_index}
use Rattle.st_calls.specs.declared.call.SysCall.{SysCall}
use Rattle.st_calls.specs.declared.call.SysCall.TheVariants as call
use Rattle.st_trace.specs.declared.start.Instr.{Instr}
use Rattle.st_trace.specs.declared.start.Instr.TheVariants.{Call}
use Rattle.st_trace.specs.declared.start.ThreadRow.{ThreadRow}
use Rattle.st_linux.specs.Flags.{native_flags}

-- the second of some registers is made native, and each other is the same
pub record HasNativeFlags (own native : List ℕ) : Type 0 where
  pub as_many : length native ≡ length own
  pub flags : slice_index native 1 ≡ native_flags (slice_index own 1)
  pub others : (k : ℕ) → k ≢ 1 → slice_index native k ≡ slice_index own k

-- registers of this call for those of Linux: the same, but for the flags of an open
abbrev pub HasNativeRegisters : SysCall → List ℕ → List ℕ → Type 0
HasNativeRegisters call.Open own native = HasNativeFlags own native
HasNativeRegisters _ own native = native ≡ own

-- an instruction for one of Linux: the same, but for the flags of an open
abbrev pub IsNativeOf : Instr → Instr → Type 0
IsNativeOf (Call made own) native = (regs : List ℕ) × (native ≡ Call made regs) × HasNativeRegisters made own regs
IsNativeOf instr native = native ≡ instr

-- the row of a thread for one of Linux: it starts in the same process, and has an instruction for each
pub record IsNativeRow (own native : ThreadRow) : Type 0 where
  pub process : native.process ≡ own.process
  pub as_many : length native.body ≡ length own.body
  pub each : (k : ℕ) (instr : Instr) → slice_get own.body k ≡ Some instr → (other : Instr) × (slice_get native.body k ≡ Some other) × IsNativeOf instr other
