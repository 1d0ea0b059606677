-- The messages and workers agree with the law's machine after a worker has claimed a number.
use Rattle.std.proofs.Common.{◌≡◌, ◌≢◌, ◌-◌, ℕ, ◌==◌, ◌||◌, Bool, true, false, cond, set, Option, Some, None, refl, ap, sym, ◌∙◌, subst}
use Rattle.std.proofs.lemmas.Bool.{eq-eqb, ne_eqb, true≢false}
use Rattle.std.proofs.lemmas.Option.{none-some, same_Some}
use Rattle.st_calls.specs.declared.judged.Verdict.{Verdict}
use Rattle.st_lookaside.specs.Slot.{Slot}
use Rattle.st_lookaside.specs.Slots.{slot_at, ChangesSlot}
use Rattle.st_messages.specs.declared.message.MsgState.{MsgState}
use Rattle.st_messages.specs.declared.message.MsgState.TheVariants.{Waiting, Claimed, Answered}
use Rattle.st_messages.specs.Messages.{is_kept, is_live_drawing, AreValidCalls, HasWorker, HeldCalls, message_state, seq_of, thread_of_drawing, with_state}
use Rattle.st_messages.proofs.Seqs.{seqs_moved}
use Rattle.st_messages.proofs.Whole.{states_moved, threads_moved, waiting_live, whole-moved}
use Rattle.st_trace.specs.declared.entry.Entry.TheVariants as entry
use Rattle.st_law.specs.State.{Message, is_ready, progress_of_message}
use Rattle.st_workers.specs.Filling.{sealed_if_ready, IsTurnFor}
use Rattle.st_workers.specs.Numbers.{AreNumbered}
use Rattle.st_workers.specs.Refinement.{at_work, AgreesWithMachine, RepresentsAfterEntry, HasMessageFlags, IsLive, IsSlotOf, IsState, AreValidWorkers}
use Rattle.st_workers.specs.UnderWay.{Found, UnderWay, found_in, turn_of_worker}
use Rattle.st_workers.specs.declared.turn.Turn.{Turn}
use Rattle.st_workers.specs.declared.turn.Turn.TheVariants.{Idle}
use Rattle.st_workers.proofs.Copies.{sealed_then, slot_sealed}
use Rattle.st_workers.proofs.Ended.{state_live}
use Rattle.st_workers.proofs.Filled.{changed_to}
use Rattle.st_workers.proofs.Numbered.{idle_no_drawing, its_drawing, same_life, worked}
use Rattle.st_workers.proofs.Seqs.{filled_seqs}
use Rattle.st_workers.proofs.Steps.{all_turned, all_worked, count_kept, message_worked, stepped, turn_is, verdicts_kept, waiting_unturned, IsStep}
use Rattle.st_workers.proofs.Turns.{number_within}

-- an idle worker is at no live number
pub idle_at_none : (messages : ℕ → Message) (alive : ℕ → Bool) (o : Option ℕ) (q : ℕ) → at_work messages alive o ≡ None → o ≡ Some q → alive q ≡ true → ⊥
idle_at_none messages alive None q idle is live = none-some q is
idle_at_none messages alive (Some p) q idle is live =
    let here : alive p ≡ true = ap alive (same_Some p q is) ∙ live in
    none-some p (sym idle ∙ ap (λ (b : Bool). cond (b || is_ready (progress_of_message (messages p))) (Some p) None) here)

waiting_come : (turns : ℕ → Option ℕ) (q : ℕ) (m : Message) (state : MsgState) → state ≡ Waiting → IsState turns q m state → HasMessageFlags m false None false
waiting_come turns q m state e is = subst (IsState turns q m) e is

-- a number with a state is live
pub live_by_state : (messages : ℕ → Message) (turns : ℕ → Option ℕ) (alive : ℕ → Bool) (posted : ℕ) (found : Found) → AgreesWithMachine messages turns alive posted found → (q : ℕ) (state : MsgState) → found.state q ≡ Some state → (b : Bool) → alive q ≡ b → alive q ≡ true
live_by_state messages turns alive posted found agrees q state is true e = e
live_by_state messages turns alive posted found agrees q state is false e = absurd (none-some state (sym (agrees.dead q e).state ∙ is))

module _ (old new : UnderWay) (w p : ℕ) (slot : Slot) (t : Turn) (idle : turn_of_worker old w ≡ Some Idle) (waits : message_state old.calls p ≡ Some Waiting) (there : slot_at old.slots p ≡ Some slot)
    (calls : new.calls ≡ with_state old.calls p (Claimed w)) (slots : ChangesSlot old.slots p (Some (sealed_if_ready slot)) new.slots) (put : new.turns ≡ set old.turns (w - 1) t) (turn : IsTurnFor p slot t)
    (its_worker : HasWorker old.calls w) where
  states_now : (q : ℕ) → q ≢ p → message_state new.calls q ≡ message_state old.calls q
  states_now q ne = ap (λ (c : HeldCalls). message_state c q) calls ∙ states_moved old.calls p (Claimed w) (waiting_live old.calls p waits) q ∙ ap (λ (b : Bool). cond b (Some (Claimed w)) (message_state old.calls q)) (ne_eqb q p ne)

  state_now : message_state new.calls p ≡ Some (Claimed w)
  state_now = ap (λ (c : HeldCalls). message_state c p) calls ∙ states_moved old.calls p (Claimed w) (waiting_live old.calls p waits) p ∙ ap (λ (b : Bool). cond b (Some (Claimed w)) (message_state old.calls p)) (eq-eqb p p refl)

  threads_now : (q : ℕ) → thread_of_drawing new.calls q ≡ thread_of_drawing old.calls q
  threads_now q = ap (λ (c : HeldCalls). thread_of_drawing c q) calls ∙ threads_moved old.calls p (Claimed w) q

  claimed_other : (q : ℕ) (m : Message) → q ≢ p → message_worked (entry.Claimed w p) q m ≡ m
  claimed_other q m ne =
      let e : (p == q) ≡ false = ne_eqb p q (λ x. ne (sym x)) in
      λ k. record { head = m.head; claimed = e k || m.claimed; words = m.words; lookups = m.lookups; fault = m.fault; answered = m.answered; closed = m.closed }

  claimed_come : (m : Message) → HasMessageFlags m false None false → HasMessageFlags (message_worked (entry.Claimed w p) p m) true None false
  claimed_come m was = record { claimed = ap (λ (b : Bool). b || m.claimed) (eq-eqb p p refl); fault = was.fault; answered = was.answered }

  module _ (messages : ℕ → Message) (turns : ℕ → Option ℕ) (alive : ℕ → Bool) (posted : ℕ) (agrees : AgreesWithMachine messages turns alive posted (found_in old)) where
    live_p : alive p ≡ true
    live_p = live_by_state messages turns alive posted (found_in old) agrees p Waiting waits (alive p) refl

    was : IsLive turns p (messages p) (found_in old)
    was = agrees.live p live_p

    come : HasMessageFlags (messages p) false None false
    come = waiting_come turns p (messages p) was.state (same_Some was.state Waiting (sym was.state_is ∙ waits)) was.is_state

    is_slot : IsSlotOf (all_worked (entry.Claimed w p) messages p) was.tid slot
    is_slot =
        let is : IsSlotOf (messages p) was.tid slot = subst (IsSlotOf (messages p) was.tid) (same_Some was.slot slot (sym was.slot_is ∙ there)) was.is_slot in
        record { head = is.head; count = is.count; words = is.words; lookups = is.lookups }

    turned_w : all_turned (entry.Claimed w p) turns w ≡ Some p
    turned_w = ap (λ (b : Bool). cond b (Some p) (turns w)) (eq-eqb w w refl)

    claimed_step : IsStep messages (all_worked (entry.Claimed w p) messages) turns (all_turned (entry.Claimed w p) turns) alive posted old new w p t
    claimed_step = record {
      from = (number_within old.turns w Idle idle).0;
      to = (number_within old.turns w Idle idle).1;
      put = put;
      next = ap (λ (c : HeldCalls). c.next) calls;
      others = λ q ne. claimed_other q (messages q) ne;
      states = states_now;
      threads = threads_now;
      slots = λ q ne. slots q ∙ ap (λ (b : Bool). cond b (Some (sealed_if_ready slot)) (slot_at old.slots q)) (ne_eqb q p ne);
      only = λ v ne is. waiting_unturned (messages p) come (agrees.turned v p is);
      stay = λ v ne other. ap (λ (b : Bool). cond b (Some p) (turns v)) (ne_eqb w v (λ x. ne (sym x)));
      was = λ q is live. absurd (idle_at_none messages alive (turns w) q (agrees.workers w Idle idle) is live);
      onto = λ q is. same_Some q p (sym is ∙ turned_w);
      come = λ is. claimed_come (messages p) come;
      turn = turn_is (all_worked (entry.Claimed w p) messages) alive (all_turned (entry.Claimed w p) turns w) p was.tid slot t is_slot turned_w live_p turn;
      within = (agrees.given p live_p).1;
      live = λ is. record {
        state = Claimed w;
        tid = was.tid;
        slot = sealed_if_ready slot;
        state_is = state_now;
        thread_is = threads_now p ∙ was.thread_is;
        slot_is = changed_to old.slots new.slots p (Some (sealed_if_ready slot)) slots;
        is_state = (claimed_come (messages p) come, turned_w);
        is_slot = slot_sealed (all_worked (entry.Claimed w p) messages p) was.tid slot is_slot;
        is_sealed = λ claimed ready. sealed_then (all_worked (entry.Claimed w p) messages p) was.tid slot is_slot ready;
      };
      dead = λ e. absurd (true≢false (sym live_p ∙ e));
    }

    claimed_agrees : AgreesWithMachine (all_worked (entry.Claimed w p) messages) (all_turned (entry.Claimed w p) turns) alive posted (found_in new)
    claimed_agrees = stepped messages (all_worked (entry.Claimed w p) messages) turns (all_turned (entry.Claimed w p) turns) alive posted old new w p t claimed_step agrees

  workers_now : new.calls.workers ≡ old.calls.workers
  workers_now = ap (λ (c : HeldCalls). c.workers) calls

  -- the drawing is live
  pub claimed_live : is_live_drawing new.calls p ≡ true
  claimed_live = state_live new.calls p (Claimed w) state_now

  same_worker : (a b : ℕ) → Claimed a ≡ Claimed b → a ≡ b
  same_worker a b e = cc

  -- each number that is kept is kept by a ready worker
  pub claimed_numbered : AreNumbered old → AreNumbered new
  claimed_numbered numbered =
      worked old new w p Idle t idle (idle_no_drawing p) (its_drawing p slot t turn) put claimed_live (λ q. ap (λ (c : HeldCalls). is_kept c q) calls)
      (λ q ne. same_life old.calls new.calls q (states_now q ne)) (ap (λ (c : HeldCalls). c.workers) calls)
      (subst AreValidCalls (sym calls) (whole-moved old.calls p (Claimed w) numbered.calls (waiting_live old.calls p waits) (λ v e. subst (HasWorker old.calls) (same_worker w v e) its_worker)))
      (filled_seqs old new w p Idle t idle put (λ q. ap (λ (c : HeldCalls). seq_of c q) calls ∙ seqs_moved old.calls p (Claimed w) q) slot slot there slots refl turn numbered.seqs) numbered

  -- the messages and workers stay whole
  pub claimed_whole : AreValidWorkers old → AreValidWorkers new
  claimed_whole whole = record {
    count = count_kept whole.messages (all_worked (entry.Claimed w p) whole.messages) whole.turns (all_turned (entry.Claimed w p) whole.turns) whole.alive whole.posted old new w p t
        (claimed_step whole.messages whole.turns whole.alive whole.posted whole.agrees) whole.count workers_now;
    messages = all_worked (entry.Claimed w p) whole.messages;
    turns = all_turned (entry.Claimed w p) whole.turns;
    alive = whole.alive;
    posted = whole.posted;
    agrees = claimed_agrees whole.messages whole.turns whole.alive whole.posted whole.agrees;
  }

  -- the messages and workers represent the state after the entry
  pub claimed_follows : RepresentsAfterEntry old (entry.Claimed w p) new
  claimed_follows i st alive kept = record {
    workers = workers_now ∙ kept.workers;
    numbered = claimed_numbered kept.numbered;
    agrees = claimed_agrees st.messages st.turns alive st.posted kept.agrees;
    verdicts = verdicts_kept i st.messages (all_worked (entry.Claimed w p) st.messages) old.calls new.calls p (λ q ne. claimed_other q (st.messages q) ne) states_now
        (λ v s is copies. absurd (not_answer w v (same_Some (Claimed w) (Answered v) (sym state_now ∙ is)))) kept.verdicts;
  } where
    not_answer : (w : ℕ) (v : Verdict) → Claimed w ≡ Answered v → ⊥
    not_answer w v e = cc
