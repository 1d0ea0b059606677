-- Choices that are never enabled: workers that don't exist.
use native.Mathlib.Omega.{arith}
use Rattle.std.proofs.Common.{◌≡◌, ◌<◌, ◌∙◌, ◌&&◌, ℕ, Bool, true, false, cond, None, inl, inr, refl, ap}
use Rattle.std.proofs.lemmas.Bool.Decides.{leb_tells}
use Rattle.std.specs.Prelude.{nat_le, nat_lt}
use Rattle.st_law.specs.Machine.{entry_of, turn_entry}
use Rattle.st_law.specs.State.{State, is_worker, worker_at}
use Rattle.st_trace.specs.declared.entry.Choice.TheVariants as choice
use Rattle.st_decide.specs.Machine.{Refines, Running}

module _ (m : Running) (st : State) (is : Refines m st) where
  absent : (w : ℕ) → is_worker m.input w ≡ false → entry_of m.input st (choice.Worker w) ≡ None
  absent w e = ap (λ (b : Bool). cond b (turn_entry m.input st w (worker_at st w)) None) e

  and_no : (b : Bool) → (b && false) ≡ false
  and_no true = refl
  and_no false = refl

  -- no worker has a number below the first, or above the last
  pub none_below : (w : ℕ) → w < 1 → entry_of m.input st (choice.Worker w) ≡ None
  none_below w low = absent w (elim (leb_tells 1 w) [
    | inl x ↦ let high = x.1 in absurd (omega (arith, low, high))
    | inr x ↦ ap (λ (b : Bool). b && nat_le w m.input.options.workers) x.0
  ])

  pub none_above : (w : ℕ) → m.workers.calls.workers < w → entry_of m.input st (choice.Worker w) ≡ None
  none_above w high = absent w (elim (leb_tells w m.input.options.workers) [
    | inl x ↦ let low = x.1 in let same = is.workers.workers in absurd (omega (arith, low, high, same))
    | inr x ↦ ap (λ (b : Bool). nat_lt 0 w && b) x.0 ∙ and_no (nat_lt 0 w)
  ])
