-- How many numbers a choice draws.
use native.Mathlib.Omega.{arith}
use Rattle.std.proofs.Common.{◌≡◌, ◌≤◌, ℕ, ap, inl, inr, List, [], ◌∷◌, Option, Some, None, reverse, subst, sym}
use Rattle.std.proofs.Math.Nat.{le_refl}
use Rattle.std.proofs.lemmas.List.{reverse-append}
use Rattle.st_trace.specs.declared.entry.Choice.{Choice}
use Rattle.st_trace.specs.declared.entry.Entry.{Entry}
use Rattle.st_trace.specs.declared.entry.Entry.TheVariants.{Entered, Reloaded, Used}
use Rattle.st_trace.specs.declared.entry.Way.TheVariants.{Held}
use Rattle.st_law.specs.Machine.{entry_of, history, history_with, state_at}
use Rattle.st_law.specs.Messages.{posted_after}
use Rattle.st_law.specs.Threads.{History}
use Rattle.st_law.specs.declared.input.Input.{Input}
use Rattle.st_law.proofs.MessageHistory.{posted_changes}
use Rattle.st_kernel.specs.Kernel.{RunSoFar, state_in, with_choice}
use Rattle.st_noted.specs.Steps.{MayHaveMade}

-- no fewer numbers are drawn after an entry than before it
entry_draws : (e : Entry) (n : ℕ) → n ≤ posted_after e n
entry_draws (Entered t call regs (Held q)) n = omega arith
entry_draws (Used t seq call regs args ids result changes) n = let all = posted_changes n changes in omega (arith, all)
entry_draws (Reloaded t policy done changes) n = let all = posted_changes n changes in omega (arith, all)
entry_draws _ n = le_refl n

drawn_after : (i : Input) (h : History) (added : Option Entry) → (state_at i h).posted ≤ (state_at i (history_with h added)).posted
drawn_after i h None = le_refl (state_at i h).posted
drawn_after i h (Some e) = entry_draws e (state_at i h).posted

choice_draws : (old new : RunSoFar) (c : Choice) → new ≡ with_choice old c → (state_in old).posted ≤ (state_in new).posted
choice_draws old new c on =
    subst (λ (so_far : RunSoFar). (state_in old).posted ≤ (state_in so_far).posted) (sym on)
    (subst (λ (choices : List Choice). (state_in old).posted ≤ (state_at old.input (history old.input choices)).posted) (sym (reverse-append old.choices (c ∷ [])))
    (drawn_after old.input (history old.input (reverse old.choices)) (entry_of old.input (state_in old) c)))

-- nor after a step
pub step_draws : (old new : RunSoFar) (c : Choice) → MayHaveMade old c new → (state_in old).posted ≤ (state_in new).posted
step_draws old new c (inl same) = subst (λ (so_far : RunSoFar). (state_in old).posted ≤ (state_in so_far).posted) (sym same) (le_refl (state_in old).posted)
step_draws old new c (inr on) = choice_draws old new c on

-- and its input stays
pub step_keeps_input : (old new : RunSoFar) (c : Choice) → MayHaveMade old c new → new.input ≡ old.input
step_keeps_input old new c (inl same) = ap (λ (so_far : RunSoFar). so_far.input) same
step_keeps_input old new c (inr on) = ap (λ (so_far : RunSoFar). so_far.input) on
