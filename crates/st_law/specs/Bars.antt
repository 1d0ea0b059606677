-- Calls that the kernel answers by itself: its answer when the call is entered, and which entries end the call.
use Rattle.std.specs.Prelude.{◌≡◌, ℕ, List, ◌∷◌, ◌++◌, Option, None}
use Rattle.st_base.specs.declared.errno.Errno.{Errno}
use Rattle.st_calls.specs.declared.call.SysCall.{SysCall}
use Rattle.st_calls.specs.declared.rule.FastAnswer.{FastAnswer}
use Rattle.st_calls.specs.declared.rule.FastAnswer.TheVariants as answer
use Rattle.st_trace.specs.declared.entry.Cause.{Cause}
use Rattle.st_trace.specs.declared.entry.Cause.TheVariants.{Filter}
use Rattle.st_trace.specs.declared.entry.Entry.{Entry}
use Rattle.st_trace.specs.declared.entry.Entry.TheVariants.{Entered, Used, Denied}
use Rattle.st_trace.specs.declared.entry.Way.{Way}
use Rattle.st_law.specs.declared.input.Input.{Input}
use Rattle.st_law.specs.History.{looking_back}
use Rattle.st_law.specs.Lawful.{IsLawfulBack}
use Rattle.st_law.specs.Splits.{NoneTouches}
use Rattle.st_law.specs.State.{process_in, answer_in}
use Rattle.st_law.specs.Threads.{History}

-- an entry makes or denies the call of thread t
abbrev pub EndsCallOf : ℕ → Entry → History → Type 0
EndsCallOf t (Used u seq call regs args ids result changes) h = u ≡ t
EndsCallOf t (Denied u seq errno cause) h = u ≡ t
EndsCallOf t _ h = ⊥

-- the kernel's own answer to this call of thread t, after these entries
abbrev pub answer_at : Input → History → ℕ → SysCall → List ℕ → FastAnswer
answer_at i h t call regs = answer_in i (looking_back i h) (process_in (looking_back i h) t) call regs

-- an entry gives thread t the kernel's own answer to the call that it enters
abbrev pub GivesAnswer : Input → ℕ → Entry → History → FastAnswer → Type 0
GivesAnswer i t (Entered u call regs way) h v = (u ≡ t) × (v ≡ answer_at i h t call regs)
GivesAnswer i t _ h v = ⊥

-- thread t enters a call on this way, and no later entry makes or denies it
pub record IsEnteredSince (i : Input) (t : ℕ) (call : SysCall) (regs : List ℕ) (way : Way) (later earlier : History) : Type 0 where
  pub lawful : IsLawfulBack i (later ++ Entered t call regs way ∷ earlier)
  pub waits : NoneTouches (EndsCallOf t) later (Entered t call regs way ∷ earlier)

-- the call has no number, and is denied with the error of the kernel's own answer when it was entered, by filter 1
pub record IsDeniedByBar (i : Input) (t : ℕ) (call : SysCall) (regs : List ℕ) (earlier : History) (seq : Option ℕ) (errno : Errno) (cause : Cause) : Type 0 where
  pub unheld : seq ≡ None
  pub refused : answer_at i earlier t call regs ≡ answer.Refuse errno
  pub cause_is : cause ≡ Filter 1
