-- Each live number is that of its thread's held call.
use Rattle.std.proofs.Common.{◌≡◌, ◌∙◌, ℕ, true, Option, Some, ap, sym, subst}
use Rattle.st_base.specs.Numbered.{item_at_number}
use Rattle.st_law.specs.Messages.{Head}
use Rattle.st_law.specs.State.{State, is_live}
use Rattle.st_reached.specs.Reached.{HasLiveNumber, IsHolding}
use Rattle.st_reached.proofs.Owning.{live_parts}
use Rattle.st_reached.proofs.Reached.{Reached, held_live}
use Rattle.st_threads.specs.Ending.{AreLiveDrawingsHeld, HasDrawing, IsDrawingOf}
use Rattle.st_decide.specs.Machine.{Refines, Running}
use Rattle.st_threads.specs.Thread.{ThreadRow, IsRow, drawing_held}
use Rattle.st_decide.proofs.Started.{row_there}
use Rattle.st_decide.proofs.NextSteps.{row_of}
use Rattle.st_decide.proofs.Reached.{reached_of}
use Rattle.st_threads.proofs.Rows.{Holds, drawing_of_held, holds}

-- ---- the machine that runs

module _ (m : Running) (st : State) (is : Refines m st) where
  reached : Reached m.input st
  reached = reached_of m.input st is.reached

  own : (q : ℕ) (head : Head) → is_live st q ≡ true → (st.messages q).head ≡ Some head → HasDrawing (item_at_number m.threads head.tid) q
  own q head live posted =
      let x : IsHolding st head.tid q = reached.owned.own q head live posted in
      let there = row_there m st is head.tid x.started in
      let its : IsRow there.0 (st.threads head.tid) = row_of m st is head.tid there.0 there.1 in
      let mine : drawing_held there.0 ≡ Some there.0.number = drawing_of_held there.0 (sym its.dying ∙ (live_parts st q head live posted).1) x.entered (sym its.pending ∙ x.pending) x.first x.way in
      subst (λ (o : Option ThreadRow). HasDrawing o q) (sym there.1) (mine ∙ ap Some (sym (its.number there.0.number mine) ∙ x.number))

  lives : (t : ℕ) (row : ThreadRow) (q : ℕ) → item_at_number m.threads t ≡ Some row → drawing_held row ≡ Some q → IsDrawingOf st (is_live st) t q
  lives t row q row_is e =
      let x : Holds row q = holds row q e in
      let its : IsRow row (st.threads t) = row_of m st is t row row_is in
      let number : (st.threads t).number ≡ q = its.number q e in
      let live : HasLiveNumber st t = (held_live m.input st reached).held t x.entered x.first (its.pending ∙ x.pending) x.way (its.dying ∙ x.undying) in
      record {
        lives = ap (is_live st) (sym number) ∙ live.live;
        head = live.head;
        posted = ap (λ (n : ℕ). (st.messages n).head) (sym number) ∙ live.posted;
        tid_is = live.own;
      }

  -- each live number is held by its thread's row
  pub are_held : AreLiveDrawingsHeld st (is_live st) m.threads
  are_held = record { own = own; lives = lives }
