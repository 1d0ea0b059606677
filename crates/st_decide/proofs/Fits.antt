-- The copies of a held call are fit for it.
use Rattle.std.proofs.Common.{◌≡◌, ◌∙◌, ℕ, List, Option, Some, None, refl, ap, reverse, sym, subst}
use Rattle.std.proofs.lemmas.Option.{same_Some}
use Rattle.st_calls.specs.Call.{rule_of}
use Rattle.st_calls.specs.declared.judged.Snapshot.{Snapshot}
use Rattle.st_calls.specs.declared.rule.Rule.{Rule}
use Rattle.st_effects.specs.Progress.{Progress, Word, Look, Stuck, Ready, progress}
use Rattle.st_names.specs.declared.seen.SeenText.{SeenText}
use Rattle.st_law.specs.Machine.{history}
use Rattle.st_law.specs.Messages.{Head}
use Rattle.st_law.specs.State.{State, progress_of_head, request_of_head, snapshot_in, snapshot_of_progress, snapshot_with}
use Rattle.st_law.specs.Threads.{History}
use Rattle.st_law.proofs.Laws.{lawful_history}
use Rattle.st_law.proofs.ShortArguments.{HasRule}
use Rattle.st_law.proofs.ShortLinks.{Short, short_of}
use Rattle.st_law.proofs.Ties.{state-is}
use Rattle.st_system.specs.Fit.{AreFit}
use Rattle.st_system.proofs.Fit.{held_fit}
use Rattle.st_decide.specs.Machine.{Refines, Running}

module _ (m : Running) (st : State) (is : Refines m st) (q : ℕ) (s : Snapshot) where
  short : Short m.input st
  short =
      let h : History = history m.input (reverse is.reached.choices) in
      subst (Short m.input) (sym (is.reached.state_is ∙ state-is m.input h)) (short_of m.input is.reached.startable h (lawful_history m.input is.reached.startable (reverse is.reached.choices)))

  by_progress : (head : Head) (words : ℕ → List ℕ) (lookups : ℕ → List SeenText) → head.rule ≡ rule_of head.call head.regs m.input.options.aliasing → (p : Progress) → progress (request_of_head head) words lookups ≡ p
      → snapshot_of_progress q (Some head) p ≡ Some s → AreFit s.call s.parts
  by_progress head words lookups rule (Word part place) is e = cc
  by_progress head words lookups rule (Look part name) is e = cc
  by_progress head words lookups rule (Stuck errno) is e = cc
  by_progress head words lookups rule (Ready args) is e =
      subst (λ (copies : Snapshot). AreFit copies.call copies.parts) (same_Some (snapshot_with q head args) s e)
      (held_fit head.cwd head.call head.regs m.input.options.aliasing words lookups args (ap (λ (r : Rule). progress (record { rule = r; call = head.call; regs = head.regs; cwd = head.cwd }) words lookups) (sym rule) ∙ is))

  by_head : (o : Option Head) → (st.messages q).head ≡ o → snapshot_in st q ≡ Some s → AreFit s.call s.parts
  by_head None posted e = let none = ap (λ (o : Option Head). snapshot_of_progress q o (progress_of_head o (st.messages q).words (st.messages q).lookups)) (sym posted) in cc
  by_head (Some head) posted e =
      by_progress head (st.messages q).words (st.messages q).lookups (subst (HasRule m.input) posted (short.rules q)) (progress (request_of_head head) (st.messages q).words (st.messages q).lookups) refl
      (ap (λ (o : Option Head). snapshot_of_progress q o (progress_of_head o (st.messages q).words (st.messages q).lookups)) (sym posted) ∙ e)

  pub copies_fit : snapshot_in st q ≡ Some s → AreFit s.call s.parts
  copies_fit e = by_head (st.messages q).head refl e
