-- A call has the same outcome over systems that differ only in their held calls, and in memories that aren't its process's.
use Rattle.std.proofs.Common.{◌≡◌, ℕ, List, refl}
use Rattle.st_calls.specs.declared.call.SysCall.{SysCall}
use Rattle.st_calls.specs.declared.call.SysCall.TheVariants.{SetUid, SetEuid, SetGid, SetEgid, Write}
use Rattle.st_effects.specs.Effect.{effect}
use Rattle.st_effects.specs.System.{System, Request, HeldCall, space_of_caller}

-- the held calls are the same for a call that sets ids
abbrev pub HasSameHeld : SysCall → List HeldCall → List HeldCall → Type 0
HasSameHeld SetUid held other = held ≡ other
HasSameHeld SetEuid held other = held ≡ other
HasSameHeld SetGid held other = held ≡ other
HasSameHeld SetEgid held other = held ≡ other
HasSameHeld _ held other = Unit {0}

-- only a write looks at memory, that of its process, and only a call that sets ids looks at held calls
pub alike : (system : System) (memory : ℕ → ℕ → ℕ) (held : List HeldCall) (request : Request) → ((b : ℕ) → system.memory (space_of_caller system request) b ≡ memory (space_of_caller system request) b)
    → (call : SysCall) → HasSameHeld call system.held held → effect system call request ≡ effect (record system { memory = memory; held = held }) call request
alike system memory held request row Write same = λ k. effect (record system { memory = λ s b. row b k }) Write request
alike system memory held request row SetUid same = λ k. effect (record system { held = same k }) SetUid request
alike system memory held request row SetEuid same = λ k. effect (record system { held = same k }) SetEuid request
alike system memory held request row SetGid same = λ k. effect (record system { held = same k }) SetGid request
alike system memory held request row SetEgid same = λ k. effect (record system { held = same k }) SetEgid request
alike system memory held request row call same = refl
