-- Whether no choice is enabled.
use Rattle.std.proofs.Common.{◌≡◌, ◌↔◌, ◌∙◌, ℕ, Bool, true, false, not, Option, Some, None, refl, ap, sym, subst, true≢false}
use Rattle.std.proofs.lemmas.Option.{none-some}
use Rattle.std.specs.Prelude.{is_some}
use Rattle.st_trace.specs.declared.entry.Choice.{Choice}
use Rattle.st_trace.specs.declared.entry.Choice.TheVariants as choice
use Rattle.st_trace.specs.declared.entry.Entry.{Entry}
use Rattle.st_law.specs.Machine.{entry_of, IsEnabled, IsSettled}
use Rattle.st_law.specs.Schedules.{choice_or}
use Rattle.st_law.specs.State.{thread_count}
use Rattle.st_kernel.specs.Kernel.{RunSoFar, IsPlayed, state_in}
use Rattle.st_kernel.specs.Runners.{HasEnabled}
use Rattle.st_kernel.proofs.Cursors.{nobody_else}
use Rattle.st_kernel.proofs.Rests.{settled_at}

pub enabled_of : (o : Option Entry) → true ≡ is_some o → (e : Entry) × (o ≡ Some e)
enabled_of None x = absurd (true≢false x)
enabled_of (Some e) x = (e, refl)

pub stuck_of : (o : Option Entry) → false ≡ is_some o → o ≡ None
stuck_of None x = refl
stuck_of (Some e) x = absurd (true≢false (sym x))

module _ (so_far : RunSoFar) where
  abbrev Settled : Type 0
  Settled = IsSettled so_far.input (state_in so_far)

  -- a run with an enabled choice isn't settled
  unsettled : (c : Choice) → IsEnabled so_far.input (state_in so_far) c → Settled → ⊥
  unsettled c (e, adds) settled = none-some e (sym (settled c) ∙ adds)

  pub not_settled : (of : ℕ → Choice) (count : ℕ) (has : Bool) → HasEnabled of count so_far has → has ≡ true → (false ≡ true) ↔ Settled
  not_settled of count true (n, adds) is = ((λ e. absurd (true≢false (sym e))), λ settled. absurd (unsettled (of n) adds settled))
  not_settled of count false has is = absurd (true≢false (sym is))

  none_of : (of : ℕ → Choice) (count : ℕ) (has : Bool) → HasEnabled of count so_far has → has ≡ false → HasEnabled of count so_far false
  none_of of count has x is = subst (HasEnabled of count so_far) is x

  -- if no thread and no worker can move, the run is settled iff the operator has no question
  pub settled_by : (threads workers asks : Bool) → IsPlayed so_far → HasEnabled choice.Thread (thread_count so_far.input) so_far threads → threads ≡ false
      → HasEnabled choice.Worker so_far.input.options.workers so_far workers → workers ≡ false → asks ≡ is_some (entry_of so_far.input (state_in so_far) choice.Operator) → (not asks ≡ true) ↔ Settled
  settled_by threads workers true played moving no_thread working no_worker asked =
      ((λ e. absurd (true≢false (sym e))), λ settled. absurd (unsettled choice.Operator (enabled_of (entry_of so_far.input (state_in so_far) choice.Operator) asked) settled))
  settled_by threads workers false played moving no_thread working no_worker asked = (
    (λ e. settled_at so_far played
        (nobody_else so_far.input (state_in so_far) (none_of choice.Thread (thread_count so_far.input) threads moving no_thread) (none_of choice.Worker so_far.input.options.workers workers working no_worker)
        ∙ ap (λ (o : Option Entry). choice_or choice.Operator o None) (stuck_of (entry_of so_far.input (state_in so_far) choice.Operator) asked))),
    λ settled. refl,
  )
