-- The calls that the instructions of a thread's body make.
use Rattle.std.specs.Prelude.{◌≡◌, ℕ, List, replicate}
use Rattle.st_calls.specs.declared.call.SysCall.{SysCall}
use Rattle.st_calls.specs.declared.call.SysCall.TheVariants as call
use Rattle.st_trace.specs.declared.start.Instr.{Instr}
use Rattle.st_trace.specs.declared.start.Instr.TheVariants.{Store, Call, Fork, Reload}

-- the registers of a call without arguments
abbrev pub no_registers : List ℕ
no_registers = replicate 6 0

-- the instruction enters this call with these registers
abbrev pub IsCallOf : Instr → SysCall → List ℕ → Type 0
IsCallOf (Store place word) made regs = ⊥
IsCallOf (Call own own_regs) made regs = (made ≡ own) × (regs ≡ own_regs)
IsCallOf (Fork child) made regs = (made ≡ call.Fork) × (regs ≡ no_registers)
IsCallOf (Reload policy) made regs = ⊥
