-- A drawing keeps its number when a choice is made, and lives after it only if it lived before.
use Rattle.std.proofs.Common.{◌≡◌, ◌≤◌, ◌∙◌, ℕ, true, ◌∷◌, ◌++◌, List, [], Option, Some, None, reverse, ap, refl, sym, subst}
use Rattle.std.proofs.lemmas.List.{reverse-append}
use Rattle.st_trace.specs.declared.entry.Choice.{Choice}
use Rattle.st_trace.specs.declared.entry.Entry.{Entry}
use Rattle.st_law.proofs.Laws.{lawful_history}
use Rattle.st_law.proofs.Moves.{live_before, moves}
use Rattle.st_law.proofs.Ties.{state-is}
use Rattle.st_law.specs.Inputs.{IsStartable}
use Rattle.st_law.specs.Lawful.{IsLawful, IsLawfulBack}
use Rattle.st_law.specs.Machine.{entry_of, history, history_with, state_after, state_at, state_of_run}
use Rattle.st_law.specs.Numbers.{largest_number, numbers_at}
use Rattle.st_law.specs.State.{State, is_live}
use Rattle.st_law.specs.Threads.{History}
use Rattle.st_law.specs.declared.input.Input.{Input}
use Rattle.st_reached.proofs.NumbersBack.{keeps_number, roomy}
use Rattle.st_reached.proofs.Reached.{Reached, reached_run}
use Rattle.st_kernel.specs.Kernel.{RunSoFar, number_now, state_in, with_choice}

-- a drawing has the same number as before, and was live before if it is live
abbrev pub KeepsDrawing : RunSoFar → RunSoFar → ℕ → Type 0
KeepsDrawing old new q = (number_now new q ≡ number_now old q) × (is_live (state_in new) q ≡ true → is_live (state_in old) q ≡ true)

module _ (i : Input) (startable : IsStartable i) (choices : List Choice) (c : Choice) (q : ℕ) where
  abbrev old : RunSoFar
  old = record { input = i; choices = choices }

  abbrev before : History
  before = history i (reverse choices)

  abbrev later : History
  later = history i (reverse (choices ++ c ∷ []))

  later_is : (o : Option Entry) → entry_of i (state_of_run i choices) c ≡ o → later ≡ history_with before o
  later_is o adds = ap (history i) (reverse-append choices (c ∷ [])) ∙ ap (history_with before) adds

  -- a choice that adds no entry changes nothing
  unmoved : later ≡ before → KeepsDrawing old (with_choice old c) q
  unmoved same = (
    ap (λ (h : History). (numbers_at largest_number i h).number_of q) same,
    λ live. subst (λ (h : History). is_live (state_at i h) q ≡ true) same live,
  )

  moved : (e : Entry) → later ≡ e ∷ before → q ≤ (state_of_run i choices).posted → KeepsDrawing old (with_choice old c) q
  moved e more low =
      let lawful : IsLawfulBack i (e ∷ before) = subst (IsLawfulBack i) more (lawful_history i startable (reverse (choices ++ c ∷ []))) in
      let st : State = state_of_run i choices in
      let reached : Reached i st = reached_run i startable choices in
      let here = state-is i before in (
        ap (λ (h : History). (numbers_at largest_number i h).number_of q) more
            ∙ (keeps_number largest_number i startable (roomy i startable) q (e ∷ []) before lawful (subst (λ (s : State). q ≤ s.posted) here low)).1,
        λ live. live_before st (state_after i st e) (moves i st reached.whole.calls e (subst (λ (s : State). IsLawful i s e) (sym here) lawful.0)) q low
            (subst (λ (h : History). is_live (state_at i h) q ≡ true) more live),
      )

  pub drawing_kept : q ≤ (state_of_run i choices).posted → KeepsDrawing old (with_choice old c) q
  drawing_kept low = by (entry_of i (state_of_run i choices) c) refl where
    by : (o : Option Entry) → entry_of i (state_of_run i choices) c ≡ o → KeepsDrawing old (with_choice old c) q
    by None adds = unmoved (later_is None adds)
    by (Some e) adds = moved e (later_is (Some e) adds) low
