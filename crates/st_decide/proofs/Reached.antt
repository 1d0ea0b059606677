-- What holds of every state that a run reaches.
use Rattle.std.proofs.Common.{◌≡◌, ◌∷◌, ◌++◌, ◌∙◌, [], Some, ap, refl, reverse, sym, subst}
use Rattle.std.proofs.lemmas.List.{reverse-append}
use Rattle.st_trace.specs.declared.entry.Choice.{Choice}
use Rattle.st_trace.specs.declared.entry.Entry.{Entry}
use Rattle.st_law.specs.declared.input.Input.{Input}
use Rattle.st_law.specs.Inputs.{IsStartable}
use Rattle.st_law.specs.Machine.{entry_of, first_state, history, history_with, state_after, state_at}
use Rattle.st_law.specs.State.{State}
use Rattle.st_reached.proofs.Reached.{Reached, reached_run}
use Rattle.st_decide.specs.Machine.{IsReached}

-- all that the law says of reached states
pub reached_of : (i : Input) (st : State) → IsReached i st → Reached i st
reached_of i st reached = subst (Reached i) (sym reached.state_is) (reached_run i reached.startable reached.choices)

-- the first state is reached
pub reached_first : (i : Input) → IsStartable i → IsReached i (first_state i)
reached_first i startable = record { startable = startable; choices = []; state_is = refl }

-- a state that a choice leads to is reached
pub reached_more : (i : Input) (st : State) → IsReached i st → (c : Choice) (e : Entry) → entry_of i st c ≡ Some e → IsReached i (state_after i st e)
reached_more i st reached c e is =
    let before = reverse reached.choices in
    let here : entry_of i (state_at i (history i before)) c ≡ Some e = ap (λ (s : State). entry_of i s c) (sym reached.state_is) ∙ is in
    let longer : reverse (reached.choices ++ c ∷ []) ≡ c ∷ before = reverse-append reached.choices (c ∷ []) in
    record {
      startable = reached.startable;
      choices = reached.choices ++ c ∷ [];
      state_is = ap (λ (s : State). state_after i s e) reached.state_is
          ∙ ap (λ h. state_at i h) (ap (history_with (history i before)) (sym here))
          ∙ ap (λ cs. state_at i (history i cs)) (sym longer);
    }
