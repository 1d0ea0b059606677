-- The law and the machine agree: an entry after a lawful history is lawful exactly when the choice that it implies adds it, and so a trace
-- is lawful exactly when it is the run of the choices that it implies.
use Rattle.std.proofs.Common.{◌≡◌, ◌↔◌, List, [], ◌∷◌, ◌++◌, reverse, Some, refl, sym, ap, subst, ◌∙◌}
use Rattle.std.proofs.lemmas.List.{append_assoc, reverse-append, reverse-reverse}
use Rattle.st_trace.specs.declared.entry.Choice.{Choice}
use Rattle.st_trace.specs.declared.entry.Entry.{Entry}
use Rattle.st_trace.specs.declared.entry.Entry.TheVariants.{Stored, Entered, Claimed, Copied, Looked, Faulted, Answered, Used, Denied, Ended, Replied, Learned, Reloaded}
use Rattle.st_law.specs.declared.input.Input.{Input}
use Rattle.st_law.specs.History.{looking_back}
use Rattle.st_law.specs.Inputs.{IsStartable}
use Rattle.st_law.specs.Lawful.{IsLawful, IsLawfulBack, Lawful}
use Rattle.st_law.specs.Machine.{entry_of, history, history_with, run, state_at, state_of_run}
use Rattle.st_law.specs.State.{State}
use Rattle.st_law.specs.Threads.{History}
use Rattle.st_law.specs.Recorded.{choice_of, choices_back, recorded_choices}
use Rattle.st_law.proofs.Laws.{lawful_step, prefix_lawful, run_lawful}
use Rattle.st_law.proofs.OperatorRecorded.{learned_recorded, replied_recorded}
use Rattle.st_law.proofs.Steps.{Says}
use Rattle.st_law.proofs.ThreadsRecorded.{reloaded_recorded, denied_recorded, ended_recorded, entered_recorded, stored_recorded, used_recorded}
use Rattle.st_law.proofs.Ties.{state-is}
use Rattle.st_law.proofs.Whole.{Whole, whole_of}
use Rattle.st_law.proofs.WorkersRecorded.{answered_recorded, claimed_recorded, copied_recorded, faulted_recorded, looked_recorded}

-- ---- one entry

-- a lawful entry is added by the choice that it implies
entry_recorded : (i : Input) (st : State) → Whole i st → (e : Entry) → IsLawful i st e → entry_of i st (choice_of i st e) ≡ Some e
entry_recorded i st whole (Stored t place word) x = stored_recorded i st t place word x
entry_recorded i st whole (Entered t call regs way) x = entered_recorded i st t call regs way x
entry_recorded i st whole (Claimed w q) x = claimed_recorded i st whole w q x
entry_recorded i st whole (Copied q part place word) x = copied_recorded i st q part place word x
entry_recorded i st whole (Looked q part name seen) x = looked_recorded i st q part name seen x
entry_recorded i st whole (Faulted q errno) x = faulted_recorded i st q errno x
entry_recorded i st whole (Answered w s v applied) x = answered_recorded i st w s v applied x
entry_recorded i st whole (Reloaded t n done changes) x = reloaded_recorded i st t n done changes x
entry_recorded i st whole (Used t seq call regs args ids result changes) x = used_recorded i st t seq call regs args ids result changes x
entry_recorded i st whole (Denied t seq errno cause) x = denied_recorded i st t whole.calls seq errno cause x
entry_recorded i st whole (Ended t) x = ended_recorded i st t x
entry_recorded i st whole (Replied q reply n) x = replied_recorded i st whole q reply n x
entry_recorded i st whole (Learned q n) x = learned_recorded i st whole q n x

module _ (i : Input) (startable : IsStartable i) where
  recorded_back : (h : History) → IsLawfulBack i h → (e : Entry) → IsLawful i (looking_back i h) e → entry_of i (looking_back i h) (choice_of i (looking_back i h) e) ≡ Some e
  recorded_back h lawful e x = entry_recorded i (looking_back i h) (whole_of i startable h lawful) e x

  -- an entry after a lawful history is lawful exactly when the choice that it implies adds it
  pub law_of_entry : (h : History) → IsLawfulBack i h → (e : Entry) → IsLawful i (looking_back i h) e ↔ (entry_of i (looking_back i h) (choice_of i (looking_back i h) e) ≡ Some e)
  law_of_entry h lawful e = (recorded_back h lawful e, added) where
    added : entry_of i (looking_back i h) (choice_of i (looking_back i h) e) ≡ Some e → IsLawful i (looking_back i h) e
    added x = subst (Says (IsLawful i (looking_back i h))) (ap (λ st. entry_of i st (choice_of i (looking_back i h) e)) (state-is i h) ∙ x) (lawful_step i startable h (choice_of i (looking_back i h) e) lawful)

  -- ---- traces

  -- a lawful history is that of the choices that it implies
  history_recorded : (h : History) → IsLawfulBack i h → history i (choices_back i h) ≡ h
  history_recorded [] lawful = refl
  history_recorded (e ∷ h) lawful =
      (λ k. history_with (history_recorded h lawful.1 k) (entry_of i (state_at i (history_recorded h lawful.1 k)) (choice_of i (looking_back i h) e)))
      ∙ ap (history_with h) (ap (λ st. entry_of i st (choice_of i (looking_back i h) e)) (state-is i h) ∙ recorded_back h lawful.1 e lawful.0)

  history_of_trace : (trace : List Entry) → Lawful i trace → history i (reverse (recorded_choices i trace)) ≡ reverse trace
  history_of_trace trace lawful = ap (history i) (reverse-reverse (choices_back i (reverse trace))) ∙ history_recorded (reverse trace) lawful

  run_recorded : (trace : List Entry) → Lawful i trace → run i (recorded_choices i trace) ≡ trace
  run_recorded trace lawful = ap reverse (history_of_trace trace lawful) ∙ reverse-reverse trace

  -- a trace is lawful exactly when it is the run of the choices that it implies
  pub law_of_trace : (trace : List Entry) → Lawful i trace ↔ (run i (recorded_choices i trace) ≡ trace)
  law_of_trace trace = (run_recorded trace, λ same. subst (Lawful i) same (run_lawful i startable (recorded_choices i trace)))

  -- a trace is lawful exactly when it is a run
  pub lawful_is_run : (trace : List Entry) → Lawful i trace ↔ ((choices : List Choice) × (run i choices ≡ trace))
  lawful_is_run trace = (λ lawful. (recorded_choices i trace, run_recorded trace lawful), λ x. subst (Lawful i) x.1 (run_lawful i startable x.0))

  -- each choice that a lawful trace implies adds its entry at its turn
  pub recorded_at_its_turn : (front rest : List Entry) (e : Entry) → Lawful i (front ++ e ∷ rest) → entry_of i (state_of_run i (recorded_choices i front)) (choice_of i (looking_back i (reverse front)) e) ≡ Some e
  recorded_at_its_turn front rest e lawful =
      let so_far : Lawful i ((front ++ e ∷ []) ++ rest) = subst (Lawful i) (sym (append_assoc front (e ∷ []) rest)) lawful in
      let last : IsLawfulBack i (e ∷ reverse front) = subst (IsLawfulBack i) (reverse-append front (e ∷ [])) (prefix_lawful i (front ++ e ∷ []) rest so_far) in
      ap (λ st. entry_of i st (choice_of i (looking_back i (reverse front)) e)) (ap (state_at i) (history_of_trace front last.1) ∙ state-is i (reverse front))
      ∙ recorded_back (reverse front) last.1 e last.0
