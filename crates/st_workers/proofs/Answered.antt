-- The messages and workers agree with the law's machine after a worker has answered, in time or too late.
use Rattle.std.proofs.Common.{◌≡◌, ◌≢◌, ◌↔◌, ◌≤◌, ◌-◌, ℕ, ◌==◌, ◌&&◌, ◌||◌, Bool, true, false, cond, List, set, Option, Some, None, inl, inr, refl, ap, sym, ◌∙◌, subst}
use Rattle.std.proofs.lemmas.Bool.{cases_eq, cases_lt, eq-eqb, ne_eqb, true≢false}
use Rattle.std.proofs.lemmas.Option.{none-some, same_Some}
use Rattle.std.specs.Prelude.{is_some}
use Rattle.st_calls.specs.declared.judged.Snapshot.{Snapshot}
use Rattle.st_calls.specs.declared.judged.Verdict.{Verdict}
use Rattle.st_filter.specs.Judged.{verdict_under}
use Rattle.st_lookaside.specs.Slot.{Slot}
use Rattle.st_lookaside.specs.Slots.{slot_at}
use Rattle.st_messages.specs.declared.kept.KeptNumber.{KeptNumber}
use Rattle.st_messages.specs.declared.message.Delivered.{Delivered}
use Rattle.st_messages.specs.declared.message.Delivered.TheVariants.{Applied, Stale}
use Rattle.st_messages.specs.declared.message.MsgState.{MsgState}
use Rattle.st_messages.specs.declared.message.MsgState.TheVariants.{Answered, Claimed}
use Rattle.st_messages.specs.Messages.{calls_after_let_go, is_claimed, is_claimed_state, is_kept, is_live_drawing, kept_in, message_state, seq_of, thread_of_drawing, with_state, AreValidCalls, HasWorker, HeldCalls}
use Rattle.st_messages.proofs.Lookups.{kept_without}
use Rattle.st_messages.proofs.Seqs.{seqs_let_go, seqs_moved}
use Rattle.st_messages.proofs.Whole.{states_moved, threads_moved, whole-let_go, whole-moved}
use Rattle.st_trace.specs.declared.entry.Entry.TheVariants as entry
use Rattle.st_law.specs.declared.input.Input.{Input}
use Rattle.st_law.specs.Numbers.{without_replaced}
use Rattle.st_law.specs.State.{progress_of_message, snapshot_of_message, Message, State}
use Rattle.st_workers.specs.Numbers.{AreNumbered, CarriesNumbers, HasNumbers, IsReadyWith}
use Rattle.st_workers.specs.Refinement.{at_work, drawn_copies, AgreesWithMachine, HasMessageFlags, IsDead, RepresentsMessages, RepresentsMessagesAfter, IsLive, IsTurn, AreValidWorkers}
use Rattle.st_workers.specs.UnderWay.{found_in, turn_of_worker, UnderWay}
use Rattle.st_workers.specs.declared.turn.Turn.TheVariants.{Idle, Ready}
use Rattle.st_workers.proofs.Carried.{numbers_let_go, numbers_moved, numbers_still}
use Rattle.st_workers.proofs.Ended.{dead_not_live, none_live, state_live, turned_claimed}
use Rattle.st_workers.proofs.Numbered.{idle_no_drawing, numbered_by, put_count, ready_before, ready_still, same_life, same_ready, turn_other, turn_same, worked}
use Rattle.st_workers.proofs.Seqs.{left_seqs, let_go_seqs}
use Rattle.st_workers.proofs.Steps.{all_turned, all_worked, count_kept, message_worked, stepped, verdicts_kept, IsStep}
use Rattle.st_workers.proofs.Tasks.{sealed_ready}
use Rattle.st_workers.proofs.Turns.{number_within}

-- whether the answer was applied, and the held calls after it
pub record IsDelivered (old new : HeldCalls) (q : ℕ) (v : Verdict) (delivered : Delivered) : Type 0 where
  pub applied : (delivered ≡ Applied) ↔ (is_claimed old q ≡ true)
  pub ok : delivered ≡ Applied → new ≡ with_state old q (Answered v)
  pub stale : delivered ≡ Stale → new ≡ calls_after_let_go old q

and_false : (b : Bool) → (b && false) ≡ false
and_false true = refl
and_false false = refl

stale_by : (d : Delivered) → (d ≡ Applied → ⊥) → d ≡ Stale
stale_by Applied unlike = absurd (unlike refl)
stale_by Stale unlike = refl

-- what a worker is ready with is claimed, or has ended and is kept
pub claimed_or_kept : (kept : UnderWay) → AreValidWorkers kept → AreNumbered kept → (w q : ℕ) (s : Snapshot) → turn_of_worker kept w ≡ Some (Ready q s) → is_claimed kept.calls q ≡ false → is_kept kept.calls q ≡ true
claimed_or_kept kept whole numbered w q s ready unclaimed = by (whole.alive q) refl where
  by : (b : Bool) → whole.alive q ≡ b → is_kept kept.calls q ≡ true
  by true e =
      let at : IsTurn whole.messages whole.alive (whole.turns w) (Ready q s) = whole.agrees.workers w (Ready q s) ready in
      let claimed = turned_claimed whole.messages whole.turns whole.alive whole.posted (found_in kept) whole.agrees w q at.0 e in
      absurd (true≢false (sym (ap is_claimed_state claimed.1) ∙ unclaimed))
  by false e = numbered.ended q (w, s, ready) (none_live kept.calls q (whole.agrees.dead q e).state)

-- a worker is ready with copies that have a number; the law's machine has the drawing there
module _ (old new : UnderWay) (w : ℕ) (s its : Snapshot) (drawn : drawn_copies s.seq its ≡ s) (v : Verdict) (delivered : Delivered) (ready : turn_of_worker old w ≡ Some (Ready s.seq its)) (is : IsDelivered old.calls new.calls s.seq v delivered)
    (slots : new.slots ≡ old.slots) (put : new.turns ≡ set old.turns (w - 1) Idle) where
  answered_other : (a : Bool) (q : ℕ) (m : Message) → q ≢ s.seq → message_worked (entry.Answered w s v a) q m ≡ m
  answered_other a q m ne =
      let e : (s.seq == q) ≡ false = ne_eqb s.seq q (λ x. ne (sym x)) in
      λ k. record { head = m.head; claimed = m.claimed; words = m.words; lookups = m.lookups; fault = m.fault; answered = (e k && a) || m.answered; closed = m.closed }

  answered_come : (m : Message) → HasMessageFlags m true None false → HasMessageFlags (message_worked (entry.Answered w s v true) s.seq m) true None true
  answered_come m was = record { claimed = was.claimed; fault = was.fault; answered = ap (λ (b : Bool). (b && true) || m.answered) (eq-eqb s.seq s.seq refl) }

  stale_come : (m : Message) → HasMessageFlags m true None false → HasMessageFlags (message_worked (entry.Answered w s v false) s.seq m) true None false
  stale_come m was = record { claimed = was.claimed; fault = was.fault; answered = ap (λ (b : Bool). b || m.answered) (and_false (s.seq == s.seq)) ∙ was.answered }

  module _ (messages : ℕ → Message) (turns : ℕ → Option ℕ) (alive : ℕ → Bool) (posted : ℕ) (agrees : AgreesWithMachine messages turns alive posted (found_in old)) where
    at : IsTurn messages alive (turns w) (Ready s.seq its)
    at = agrees.workers w (Ready s.seq its) ready

    came : HasMessageFlags (messages s.seq) true None false
    came = agrees.turned w s.seq at.0

    gone : (a : Bool) → all_turned (entry.Answered w s v a) turns w ≡ None
    gone a = ap (λ (b : Bool). cond b None (turns w)) (eq-eqb w w refl)

    stay : (a : Bool) (x : ℕ) → x ≢ w → all_turned (entry.Answered w s v a) turns x ≡ turns x
    stay a x ne = ap (λ (b : Bool). cond b None (turns x)) (ne_eqb w x (λ e. ne (sym e)))

    -- ---- in time

    module _ (live : alive s.seq ≡ true) where
      claimed : (x : ℕ) × (message_state old.calls s.seq ≡ Some (Claimed x))
      claimed = turned_claimed messages turns alive posted (found_in old) agrees w s.seq at.0 live

      pub is_applied : delivered ≡ Applied
      is_applied = is.applied.1 (ap is_claimed_state claimed.1)

      calls : new.calls ≡ with_state old.calls s.seq (Answered v)
      calls = is.ok is_applied

      live_calls : is_live_drawing old.calls s.seq ≡ true
      live_calls = state_live old.calls s.seq (Claimed claimed.0) claimed.1

      states : (q : ℕ) → q ≢ s.seq → message_state new.calls q ≡ message_state old.calls q
      states q ne = ap (λ (c : HeldCalls). message_state c q) calls ∙ states_moved old.calls s.seq (Answered v) live_calls q ∙ ap (λ (b : Bool). cond b (Some (Answered v)) (message_state old.calls q)) (ne_eqb q s.seq ne)

      state : message_state new.calls s.seq ≡ Some (Answered v)
      state = ap (λ (c : HeldCalls). message_state c s.seq) calls ∙ states_moved old.calls s.seq (Answered v) live_calls s.seq ∙ ap (λ (b : Bool). cond b (Some (Answered v)) (message_state old.calls s.seq)) (eq-eqb s.seq s.seq refl)

      threads : (q : ℕ) → thread_of_drawing new.calls q ≡ thread_of_drawing old.calls q
      threads q = ap (λ (c : HeldCalls). thread_of_drawing c q) calls ∙ threads_moved old.calls s.seq (Answered v) q

      was : IsLive turns s.seq (messages s.seq) (found_in old)
      was = agrees.live s.seq live

      applied_step : IsStep messages (all_worked (entry.Answered w s v true) messages) turns (all_turned (entry.Answered w s v true) turns) alive posted old new w s.seq Idle
      applied_step = record {
        from = (number_within old.turns w (Ready s.seq its) ready).0;
        to = (number_within old.turns w (Ready s.seq its) ready).1;
        put = put;
        next = ap (λ (c : HeldCalls). c.next) calls;
        others = λ q ne. answered_other true q (messages q) ne;
        states = states;
        threads = threads;
        slots = λ q ne. ap (λ (l : List Slot). slot_at l q) slots;
        only = λ x ne turned. ne (agrees.apart x w s.seq turned at.0);
        stay = λ x ne other. stay true x ne;
        was = λ q turned alive_q. same_Some q s.seq (sym turned ∙ at.0);
        onto = λ q turned. absurd (none-some q (sym (gone true) ∙ turned));
        come = λ turned. absurd (none-some s.seq (sym (gone true) ∙ turned));
        turn = ap (at_work (all_worked (entry.Answered w s v true) messages) alive) (gone true);
        within = (agrees.given s.seq live).1;
        live = λ lives. record {
          state = Answered v;
          tid = was.tid;
          slot = was.slot;
          state_is = state;
          thread_is = threads s.seq ∙ was.thread_is;
          slot_is = ap (λ (l : List Slot). slot_at l s.seq) slots ∙ was.slot_is;
          is_state = (answered_come (messages s.seq) came, sealed_ready s.seq (messages s.seq).head (progress_of_message (messages s.seq)) (drawn_copies s.seq its) at.1);
          is_slot = record { head = was.is_slot.head; count = was.is_slot.count; words = was.is_slot.words; lookups = was.is_slot.lookups };
          is_sealed = was.is_sealed;
        };
        dead = λ none. absurd (true≢false (sym live ∙ none));
      }

    -- ---- too late

    module _ (dead : alive s.seq ≡ false) where
      none_there : IsDead s.seq (found_in old)
      none_there = agrees.dead s.seq dead

      not_applied : delivered ≡ Applied → ⊥
      not_applied e = true≢false (sym (is.applied.0 e) ∙ ap is_claimed_state none_there.state)

      stale_calls : new.calls ≡ calls_after_let_go old.calls s.seq
      stale_calls = is.stale (stale_by delivered not_applied)

      stale_step : s.seq ≤ posted → IsStep messages (all_worked (entry.Answered w s v false) messages) turns (all_turned (entry.Answered w s v false) turns) alive posted old new w s.seq Idle
      stale_step within = record {
        from = (number_within old.turns w (Ready s.seq its) ready).0;
        to = (number_within old.turns w (Ready s.seq its) ready).1;
        put = put;
        next = ap (λ (c : HeldCalls). c.next) stale_calls;
        others = λ q ne. answered_other false q (messages q) ne;
        states = λ q ne. ap (λ (c : HeldCalls). message_state c q) stale_calls;
        threads = λ q. ap (λ (c : HeldCalls). thread_of_drawing c q) stale_calls;
        slots = λ q ne. ap (λ (l : List Slot). slot_at l q) slots;
        only = λ x ne turned. ne (agrees.apart x w s.seq turned at.0);
        stay = λ x ne other. stay false x ne;
        was = λ q turned alive_q. same_Some q s.seq (sym turned ∙ at.0);
        onto = λ q turned. absurd (none-some q (sym (gone false) ∙ turned));
        come = λ turned. absurd (none-some s.seq (sym (gone false) ∙ turned));
        turn = ap (at_work (all_worked (entry.Answered w s v false) messages) alive) (gone false);
        within = within;
        live = λ lives. absurd (true≢false (sym lives ∙ dead));
        dead = λ none. record {
          state = ap (λ (c : HeldCalls). message_state c s.seq) stale_calls ∙ none_there.state;
          thread = ap (λ (c : HeldCalls). thread_of_drawing c s.seq) stale_calls ∙ none_there.thread;
          slot = ap (λ (l : List Slot). slot_at l s.seq) slots ∙ none_there.slot;
        };
      }

    -- a number that is a worker's turn was posted
    within_posted : s.seq ≤ posted
    within_posted = elim (cases_lt posted s.seq) [
      | inl lt ↦ absurd (true≢false (sym came.claimed ∙ (agrees.later s.seq lt).come.claimed))
      | inr ge ↦ ge
    ]

    step_by : (b : Bool) → alive s.seq ≡ b → IsStep messages (all_worked (entry.Answered w s v b) messages) turns (all_turned (entry.Answered w s v b) turns) alive posted old new w s.seq Idle
    step_by true e = applied_step e
    step_by false e = stale_step e within_posted

    answered_step : IsStep messages (all_worked (entry.Answered w s v (alive s.seq)) messages) turns (all_turned (entry.Answered w s v (alive s.seq)) turns) alive posted old new w s.seq Idle
    answered_step = step_by (alive s.seq) refl

    answered_agrees : AgreesWithMachine (all_worked (entry.Answered w s v (alive s.seq)) messages) (all_turned (entry.Answered w s v (alive s.seq)) turns) alive posted (found_in new)
    answered_agrees = stepped messages (all_worked (entry.Answered w s v (alive s.seq)) messages) turns (all_turned (entry.Answered w s v (alive s.seq)) turns) alive posted old new w s.seq Idle answered_step agrees

    -- each number that is kept is kept by a ready worker
    ready_only : (q : ℕ) (t : Snapshot) → Ready s.seq its ≡ Ready q t → q ≡ s.seq
    ready_only q t e = sym (same_ready s.seq q its t e)

    numbered_by_life : (b : Bool) → alive s.seq ≡ b → AreNumbered old → AreNumbered new
    numbered_by_life true e numbered =
        worked old new w s.seq (Ready s.seq its) Idle ready ready_only (idle_no_drawing s.seq) put (state_live new.calls s.seq (Answered v) (state e)) (λ q. ap (λ (c : HeldCalls). is_kept c q) (calls e))
        (λ q ne. same_life old.calls new.calls q (states e q ne)) (ap (λ (c : HeldCalls). c.workers) (calls e))
        (subst AreValidCalls (sym (calls e)) (whole-moved old.calls s.seq (Answered v) numbered.calls (live_calls e) (λ x is_claim. not_claim x is_claim)))
        (left_seqs old new w s.seq (Ready s.seq its) Idle ready put (λ q. ap (λ (c : HeldCalls). seq_of c q) (calls e) ∙ seqs_moved old.calls s.seq (Answered v) q) refl slots numbered.seqs) numbered
      where
        not_claim : (x : ℕ) → Answered v ≡ Claimed x → HasWorker old.calls x
        not_claim x is_claim = cc
    numbered_by_life false e numbered =
        numbered_by old new s.seq (put_count old new w s.seq (Ready s.seq its) Idle ready ready_only (idle_no_drawing s.seq) put (ap (λ (c : HeldCalls). c.workers) (stale_calls e)) numbered.count) (subst AreValidCalls (sym (stale_calls e)) (whole-let_go old.calls s.seq numbered.calls was_kept)) (record {
          kept = λ q ne. ap (λ (c : HeldCalls). is_kept c q) (stale_calls e) ∙ ap (λ (o : Option KeptNumber). is_some o) (kept_without old.calls.kept s.seq q ∙ ap (λ (b : Bool). cond b None (kept_in old.calls.kept q)) (ne_eqb q s.seq ne));
          live = λ q ne. ap (λ (c : HeldCalls). is_live_drawing c q) (stale_calls e);
          ready = ready_before old new w s.seq (Ready s.seq its) Idle ready ready_only (idle_no_drawing s.seq) put;
          still = ready_still old new w s.seq (Ready s.seq its) Idle ready ready_only (idle_no_drawing s.seq) put;
          its_ready = λ is_there. absurd (true≢false (sym is_there ∙ let_go));
          its_kept = λ at_it dead. absurd (nobody at_it);
        }) (let_go_seqs old new w s.seq (Ready s.seq its) Idle ready put (λ q. ap (λ (c : HeldCalls). seq_of c q) (stale_calls e) ∙ seqs_let_go old.calls s.seq numbered.calls was_kept q) refl slots (none_there e).slot nobody numbered.seqs) numbered
      where
        was_kept : is_kept old.calls s.seq ≡ true
        was_kept = numbered.ended s.seq (w, its, ready) (none_live old.calls s.seq (none_there e).state)

        let_go : is_kept new.calls s.seq ≡ false
        let_go = ap (λ (c : HeldCalls). is_kept c s.seq) (stale_calls e) ∙ ap (λ (o : Option KeptNumber). is_some o) (kept_without old.calls.kept s.seq s.seq ∙ ap (λ (b : Bool). cond b None (kept_in old.calls.kept s.seq)) (eq-eqb s.seq s.seq refl))

        nobody : IsReadyWith new s.seq → ⊥
        nobody it = elim (cases_eq it.0 w) [
          | inl same ↦ not_idle it.1 (same_Some Idle (Ready s.seq it.1) (sym (turn_same old new w s.seq (Ready s.seq its) Idle ready ready_only (idle_no_drawing s.seq) put it.0 same) ∙ it.2))
          | inr other ↦ (
              let before : turn_of_worker old it.0 ≡ Some (Ready s.seq it.1) = sym (turn_other old new w s.seq (Ready s.seq its) Idle ready ready_only (idle_no_drawing s.seq) put it.0 other) ∙ it.2 in
              let there : IsTurn messages alive (turns it.0) (Ready s.seq it.1) = agrees.workers it.0 (Ready s.seq it.1) before in
              other (agrees.apart it.0 w s.seq there.0 at.0)
              )
        ] where
          not_idle : (t : Snapshot) → Idle ≡ Ready s.seq t → ⊥
          not_idle t same = cc

    -- a drawing that isn't live isn't in use any more
    numbers_by_life : (b : Bool) → alive s.seq ≡ b → AreNumbered old → CarriesNumbers (without_replaced (is_live_drawing old.calls) s.seq) old.calls new.calls
    numbers_by_life true e numbered numbers has =
        subst (HasNumbers (without_replaced (is_live_drawing old.calls) s.seq numbers)) (sym (calls e))
        (numbers_moved old.calls numbered.calls s.seq (Answered v) (without_replaced (is_live_drawing old.calls) s.seq numbers) (numbers_still old.calls s.seq (is_live_drawing old.calls) (live_calls e) numbers has))
    numbers_by_life false e numbered numbers has =
        subst (HasNumbers (without_replaced (is_live_drawing old.calls) s.seq numbers)) (sym (stale_calls e))
        (numbers_let_go old.calls numbered.calls s.seq (numbered.ended s.seq (w, its, ready) (none_live old.calls s.seq (none_there e).state)) (is_live_drawing old.calls) (none_live old.calls s.seq (none_there e).state) numbers has)

    workers_by : (b : Bool) → alive s.seq ≡ b → new.calls.workers ≡ old.calls.workers
    workers_by true e = ap (λ (c : HeldCalls). c.workers) (calls e)
    workers_by false e = ap (λ (c : HeldCalls). c.workers) (stale_calls e)

    states_by : (b : Bool) → alive s.seq ≡ b → (q : ℕ) → q ≢ s.seq → message_state new.calls q ≡ message_state old.calls q
    states_by true e q ne = states e q ne
    states_by false e q ne = ap (λ (c : HeldCalls). message_state c q) (stale_calls e)

    same_answer : (a b : Verdict) → Answered a ≡ Answered b → a ≡ b
    same_answer a b e = cc

    verdict_by : (i : Input) → v ≡ verdict_under i.policies s → (b : Bool) → alive s.seq ≡ b → (x : Verdict) (t : Snapshot) → message_state new.calls s.seq ≡ Some (Answered x)
        → snapshot_of_message s.seq (all_worked (entry.Answered w s v b) messages s.seq) ≡ Some t → x ≡ verdict_under i.policies t
    verdict_by i is_verdict true e x t answered copies =
        let same : s ≡ t = sym drawn ∙ same_Some (drawn_copies s.seq its) t (sym at.1 ∙ copies) in
        sym (same_answer v x (same_Some (Answered v) (Answered x) (sym (state e) ∙ answered))) ∙ is_verdict ∙ ap (verdict_under i.policies) same
    verdict_by i is_verdict false e x t answered copies =
        absurd (none-some (Answered x) (sym (ap (λ (c : HeldCalls). message_state c s.seq) (stale_calls e) ∙ (none_there e).state) ∙ answered))

  -- the messages and workers stay whole
  pub answered_whole : AreValidWorkers old → AreValidWorkers new
  answered_whole whole =
      let e = entry.Answered w s v (whole.alive s.seq) in
      record {
        count = count_kept whole.messages (all_worked e whole.messages) whole.turns (all_turned e whole.turns) whole.alive whole.posted old new w s.seq Idle
            (answered_step whole.messages whole.turns whole.alive whole.posted whole.agrees) whole.count (workers_by whole.messages whole.turns whole.alive whole.posted whole.agrees (whole.alive s.seq) refl);
        messages = all_worked e whole.messages;
        turns = all_turned e whole.turns;
        alive = whole.alive;
        posted = whole.posted;
        agrees = answered_agrees whole.messages whole.turns whole.alive whole.posted whole.agrees;
      }

  pub answered_numbered : AreValidWorkers old → AreNumbered old → AreNumbered new
  answered_numbered whole = numbered_by_life whole.messages whole.turns whole.alive whole.posted whole.agrees (whole.alive s.seq) refl

  pub answered_numbers : AreValidWorkers old → AreNumbered old → CarriesNumbers (without_replaced (is_live_drawing old.calls) s.seq) old.calls new.calls
  answered_numbers whole = numbers_by_life whole.messages whole.turns whole.alive whole.posted whole.agrees (whole.alive s.seq) refl

  pub answered_workers : AreValidWorkers old → new.calls.workers ≡ old.calls.workers
  answered_workers whole = workers_by whole.messages whole.turns whole.alive whole.posted whole.agrees (whole.alive s.seq) refl

  -- the messages and workers represent the state after the entry
  pub answered_kept : (i : Input) (st : State) (alive : ℕ → Bool) → RepresentsMessages i st alive old → v ≡ verdict_under i.policies s → RepresentsMessagesAfter i st (entry.Answered w s v (alive s.seq)) alive new
  answered_kept i st alive kept is_verdict = record {
    workers = workers_by st.messages st.turns alive st.posted kept.agrees (alive s.seq) refl ∙ kept.workers;
    numbered = numbered_by_life st.messages st.turns alive st.posted kept.agrees (alive s.seq) refl kept.numbered;
    agrees = answered_agrees st.messages st.turns alive st.posted kept.agrees;
    verdicts = verdicts_kept i st.messages (all_worked (entry.Answered w s v (alive s.seq)) st.messages) old.calls new.calls s.seq (λ q ne. answered_other (alive s.seq) q (st.messages q) ne)
        (states_by st.messages st.turns alive st.posted kept.agrees (alive s.seq) refl) (verdict_by st.messages st.turns alive st.posted kept.agrees i is_verdict (alive s.seq) refl) kept.verdicts;
  }

  applied_by : (whole : AreValidWorkers old) (b : Bool) → whole.alive s.seq ≡ b → is_live_drawing old.calls s.seq ≡ true → delivered ≡ Applied
  applied_by whole true e live = is_applied whole.messages whole.turns whole.alive whole.posted whole.agrees e
  applied_by whole false e live = absurd (dead_not_live old.calls s.seq (whole.agrees.dead s.seq e).state live)

  claimed_live : (held : HeldCalls) (q : ℕ) (o : Option MsgState) → message_state held q ≡ o → is_claimed_state o ≡ true → is_live_drawing held q ≡ true
  claimed_live held q None e claimed_is = absurd (true≢false (sym claimed_is))
  claimed_live held q (Some x) e claimed_is = state_live held q x e

  -- an answer is applied iff its number is live
  pub applied_where : AreValidWorkers old → (delivered ≡ Applied) ↔ (is_live_drawing old.calls s.seq ≡ true)
  applied_where whole = (λ e. claimed_live old.calls s.seq (message_state old.calls s.seq) refl (is.applied.0 e), λ live. applied_by whole (whole.alive s.seq) refl live)
