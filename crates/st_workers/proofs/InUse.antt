-- Which drawings are in use, by what is kept and in the law's machine.
use Rattle.std.proofs.Common.{◌≡◌, ◌≤◌, ◌-◌, ◌||◌, ◌∙◌, ℕ, Bool, true, false, cond, Some, None, ap, arith, sym, subst}
use Rattle.std.proofs.lemmas.Bool.{and_parts, or_right, true≢false}
use Rattle.std.proofs.lemmas.Option.{none-some, same_Some}
use Rattle.std.specs.Prelude.{get_or, is_some}
use Rattle.st_messages.specs.Messages.{is_kept, is_live_drawing, seq_of}
use Rattle.st_law.specs.declared.input.Input.{Input}
use Rattle.st_law.specs.Lawful.{IsServed}
use Rattle.st_law.specs.Numbers as law
use Rattle.st_law.specs.Numbers.{Numbers}
use Rattle.st_law.specs.State.{is_live, is_ready, progress_in, progress_of_message, seq_at_work, State}
use Rattle.st_law.proofs.Turns.{turn_of, worker_range}
use Rattle.st_reached.proofs.InUse.{kept_by, kept_served}
use Rattle.st_reached.proofs.InUse as reached
use Rattle.st_workers.specs.Numbers.{AreReady, HasNumbers, IsReadyWith}
use Rattle.st_workers.specs.Refinement.{at_work, drawn_copies, IsTurn, RepresentsMessages}
use Rattle.st_workers.specs.UnderWay.{turn_of_worker, UnderWay}
use Rattle.st_workers.specs.declared.turn.Turn.{Turn}
use Rattle.st_workers.specs.declared.turn.Turn.TheVariants.{Idle, Ready, Working}
use Rattle.st_workers.proofs.Cancels.{same_answer}
use Rattle.st_workers.proofs.Ended.{lives_as}
use Rattle.st_workers.proofs.Numbered.{live_or_kept}
use Rattle.st_workers.proofs.Tasks.{sealed_ready, worker_there}
use Rattle.st_workers.proofs.Turns.{item_here, number_within}

module _ (i : Input) (st : State) (alive : ℕ → Bool) (kept : UnderWay) (is : RepresentsMessages i st alive kept) (q : ℕ) where
  -- the turn of a worker that is at a complete message
  its_turn : (w : ℕ) → st.turns w ≡ Some q → is_ready (progress_in st q) ≡ true → (t : Turn) → turn_of_worker kept w ≡ Some t → IsReadyWith kept q
  its_turn w turned ready Idle e =
      absurd (none-some q (sym (is.agrees.workers w Idle e) ∙ ap (at_work st.messages alive) turned ∙ ap (λ (b : Bool). cond b (Some q) None) (or_right (alive q) (is_ready (progress_of_message (st.messages q))) ready)))
  its_turn w turned ready (Working p) e =
      let at : IsTurn st.messages alive (st.turns w) (Working p) = is.agrees.workers w (Working p) e in
      let same : p ≡ q = same_Some p q (sym at.0 ∙ turned) in
      absurd (true≢false (sym ready ∙ ap (λ (n : ℕ). is_ready (progress_of_message (st.messages n))) (sym same) ∙ at.2))
  its_turn w turned ready (Ready p s) e =
      let at : IsTurn st.messages alive (st.turns w) (Ready p s) = is.agrees.workers w (Ready p s) e in
      (w, s, e ∙ ap (λ (n : ℕ). Some (Ready n s)) (same_Some p q (sym at.0 ∙ turned)))

  served_ready : IsServed i st q → is_ready (progress_in st q) ≡ true → IsReadyWith kept q
  served_ready x ready =
      let range = worker_range i x.number x.worker in
      let low : 1 ≤ x.number = range.0 in
      let high : x.number ≤ i.options.workers = range.1 in
      let count = is.numbered.count in
      let workers = is.workers in
      its_turn x.number (turn_of st (st.turns x.number) q x.at) ready (get_or kept.turns (x.number - 1) Idle) (item_here kept.turns x.number Idle low (omega (arith, high, count, workers)))

  ready_served : IsReadyWith kept q → law.is_kept i st q ≡ true
  ready_served it =
      let at : IsTurn st.messages alive (st.turns it.0) (Ready q it.1) = is.agrees.workers it.0 (Ready q it.1) it.2 in
      let ready : is_ready (progress_in st q) ≡ true = sealed_ready q (st.messages q).head (progress_of_message (st.messages q)) (drawn_copies q it.1) at.1 in
      let within = number_within kept.turns it.0 (Ready q it.1) it.2 in
      kept_by i st q (record {
        number = it.0;
        worker = worker_there i st alive kept it.0 within.0 (subst (λ (n : ℕ). it.0 ≤ n) is.numbered.count within.1) is;
        at = ap (seq_at_work st) at.0 ∙ ap (λ (b : Bool). cond b (Some q) None) (or_right (is_live st q) (is_ready (progress_in st q)) ready);
      }) ready

-- a worker is ready with a drawing exactly if the law says that it keeps it
pub ready_is : (i : Input) (st : State) (alive : ℕ → Bool) (kept : UnderWay) → RepresentsMessages i st alive kept → AreReady (law.is_kept i st) kept
ready_is i st alive kept is q = (
  λ e. served_ready i st alive kept is q (kept_served i st q e) (and_parts (law.is_at_work i st q) (is_ready (progress_in st q)) e).1,
  ready_served i st alive kept is q,
)

-- a drawing has a number exactly if it is in use by the law
pub in_use_is : (i : Input) (st : State) (kept : UnderWay) → RepresentsMessages i st (is_live st) kept → (q : ℕ) → is_some (seq_of kept.calls q) ≡ law.is_in_use i st q
in_use_is i st kept is q = live_or_kept kept.calls q ∙ by (is_live st q) (lives_as i st (is_live st) kept q is) ∙ sym (reached.live_or_kept i st q) where
  by : (b : Bool) → is_live_drawing kept.calls q ≡ b → (is_live_drawing kept.calls q || is_kept kept.calls q) ≡ (b || law.is_kept i st q)
  by true e = ap (λ (b : Bool). b || is_kept kept.calls q) e
  by false e = ap (λ (b : Bool). b || is_kept kept.calls q) e
      ∙ same_answer (is_kept kept.calls q) (law.is_kept i st q) (IsReadyWith kept q) (is.numbered.ready q, λ ready. is.numbered.ended q ready e) (ready_is i st (is_live st) kept is q)

-- what the calls have numbers for is in use by the law
pub rebased : (i : Input) (st : State) (kept : UnderWay) → RepresentsMessages i st (is_live st) kept → (numbers : Numbers) (in_use : ℕ → Bool) → HasNumbers (record numbers { in_use = in_use }) kept.calls → HasNumbers (law.in_use_now i st numbers) kept.calls
rebased i st kept is numbers in_use has = record {
  greatest = has.greatest;
  next = has.next;
  last = has.last;
  seqs = has.seqs;
  in_use = in_use_is i st kept is;
  zero = sym (in_use_is i st kept is 0) ∙ has.in_use 0 ∙ has.zero;
}
