-- Threads that couldn't move and aren't woken by an entry can't move after it either.
use Rattle.std.proofs.Common.{◌≡◌, ◌∙◌, ℕ, Bool, true, false, refl, sym, true≢false}
use Rattle.st_trace.specs.declared.entry.Entry.{Entry}
use Rattle.st_trace.specs.declared.entry.Entry.TheVariants.{Used, Faulted, Answered, Learned, Replied}
use Rattle.st_law.specs.Machine.{state_after}
use Rattle.st_law.specs.State.{State}
use Rattle.st_law.specs.declared.input.Input.{Input}
use Rattle.st_reached.specs.Waiting.{wakes}

-- whether an entry wakes a thread is the same in the state after it
pub wakes_after : (i : Input) (st : State) (e : Entry) (t : ℕ) → wakes (state_after i st e) e t ≡ wakes st e t
wakes_after i st (Used u seq call regs args ids result changes) t = refl
wakes_after i st (Faulted q errno) t = refl
wakes_after i st (Answered w s v applied) t = refl
wakes_after i st (Learned q n) t = refl
wakes_after i st (Replied q reply n) t = refl
wakes_after i st _ t = refl

-- a thread that isn't marked as woken isn't woken by the entry
pub not_woken : (a b : Bool) → (a ≡ true → b ≡ true) → b ≡ false → a ≡ false
not_woken true b wakes none = absurd (true≢false (sym (wakes refl) ∙ none))
not_woken false b wakes none = refl
