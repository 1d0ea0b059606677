-- Which thread has a live number.
use Rattle.std.proofs.Common.{◌≡◌, ◌∙◌, ℕ, Bool, true, false, Option, Some, refl, sym}
use Rattle.std.proofs.lemmas.Option.{none-some, same_Some}
use Rattle.st_law.specs.State.{Message}
use Rattle.st_workers.specs.Refinement.{head_of, AgreesWithMachine, IsLive}
use Rattle.st_workers.specs.Laws.{OthersHaveNoDrawing}
use Rattle.st_workers.specs.UnderWay.{found_in, Found}

-- a number that is some thread's is live
thread_live : (messages : ℕ → Message) (turns : ℕ → Option ℕ) (alive : ℕ → Bool) (posted : ℕ) (found : Found) → AgreesWithMachine messages turns alive posted found → (q tid : ℕ) → found.thread q ≡ Some tid → (b : Bool) → alive q ≡ b → alive q ≡ true
thread_live messages turns alive posted found agrees q tid is true e = e
thread_live messages turns alive posted found agrees q tid is false e = absurd (none-some tid (sym (agrees.dead q e).thread ∙ is))

pub others_have_no_drawing : OthersHaveNoDrawing
others_have_no_drawing i messages turns alive posted kept tid are others q is =
    let live : alive q ≡ true = thread_live messages turns alive posted (found_in kept) are.agrees q tid is (alive q) refl in
    let was : IsLive turns q (messages q) (found_in kept) = are.agrees.live q live in
    others q (head_of was.tid was.slot.head) live was.is_slot.head (same_Some was.tid tid (sym was.thread_is ∙ is))
