-- The messages and workers agree with the law's machine after a worker has marked a message as faulted, or has answered.
use Rattle.std.proofs.Common.{◌≡◌, ◌≢◌, ◌-◌, ℕ, ◌==◌, Bool, true, false, cond, List, set, Option, Some, None, refl, ap, sym, ◌∙◌, subst}
use Rattle.std.specs.Prelude.{is_some}
use Rattle.std.specs.Option.{option_map}
use Rattle.std.proofs.lemmas.Bool.{eq-eqb, ne_eqb, true≢false}
use Rattle.std.proofs.lemmas.Option.{none-some, same_Some}
use Rattle.st_base.specs.declared.errno.Errno.{Errno}
use Rattle.st_calls.specs.declared.judged.Verdict.{Verdict}
use Rattle.st_lookaside.specs.Slot.{Slot}
use Rattle.st_lookaside.specs.Slots.{slot_at}
use Rattle.st_messages.specs.declared.message.Message as message
use Rattle.st_messages.specs.declared.message.MsgState.{MsgState}
use Rattle.st_messages.specs.declared.message.MsgState.TheVariants.{Claimed, Answered, Faulted}
use Rattle.st_messages.specs.Messages.{is_kept, is_live_drawing, message_of_drawing, message_state, seq_of, thread_of_drawing, with_state, AreValidCalls, HasWorker, HeldCalls}
use Rattle.st_messages.proofs.Seqs.{seqs_moved}
use Rattle.st_messages.proofs.Whole.{states_moved, threads_moved, whole-moved}
use Rattle.st_trace.specs.declared.entry.Entry.TheVariants as entry
use Rattle.st_law.specs.Messages.{unless_same}
use Rattle.st_law.specs.State.{Message, State}
use Rattle.st_law.specs.declared.input.Input.{Input}
use Rattle.st_workers.specs.Numbers.{AreNumbered}
use Rattle.st_workers.specs.Refinement.{at_work, AgreesWithMachine, RepresentsAfterEntry, HasMessageFlags, RepresentsMessages, IsLive, IsTurn, AreValidWorkers}
use Rattle.st_workers.specs.UnderWay.{found_in, turn_of_worker, Found, UnderWay}
use Rattle.st_workers.specs.declared.turn.Turn.TheVariants.{Idle, Working}
use Rattle.st_workers.proofs.Numbered.{idle_no_drawing, same_life, worked, working_no_drawing}
use Rattle.st_workers.proofs.Seqs.{left_seqs}
use Rattle.st_workers.proofs.Steps.{all_turned, all_worked, count_kept, message_worked, stepped, turned_state, verdicts_kept, IsStep}
use Rattle.st_workers.proofs.Turns.{number_within}

-- ---- the number of a worker

-- a number with a state is live
pub state_live : (calls : HeldCalls) (q : ℕ) (state : MsgState) → message_state calls q ≡ Some state → is_live_drawing calls q ≡ true
state_live calls q state is = by (message_of_drawing calls q) is where
  by : (o : Option message.Message) → option_map (λ (m : message.Message). m.state) o ≡ Some state → is_some o ≡ true
  by None is = absurd (none-some state is)
  by (Some m) is = refl

-- a number without a state isn't live
pub dead_not_live : (calls : HeldCalls) (q : ℕ) → message_state calls q ≡ None → is_live_drawing calls q ≡ true → ⊥
dead_not_live calls q is live = by (message_of_drawing calls q) is live where
  by : (o : Option message.Message) → option_map (λ (m : message.Message). m.state) o ≡ None → is_some o ≡ true → ⊥
  by None is live = true≢false (sym live)
  by (Some m) is live = none-some m.state (sym is)

-- a number without a state isn't live
pub none_live : (calls : HeldCalls) (q : ℕ) → message_state calls q ≡ None → is_live_drawing calls q ≡ false
none_live calls q is = by (message_of_drawing calls q) is where
  by : (o : Option message.Message) → option_map (λ (m : message.Message). m.state) o ≡ None → is_some o ≡ false
  by None is = refl
  by (Some m) is = absurd (none-some m.state (sym is))

-- a number is live iff it is live by what is kept
pub lives_as : (i : Input) (st : State) (alive : ℕ → Bool) (kept : UnderWay) (q : ℕ) → RepresentsMessages i st alive kept → is_live_drawing kept.calls q ≡ alive q
lives_as i st alive kept q x = by (alive q) refl where
  by : (b : Bool) → alive q ≡ b → is_live_drawing kept.calls q ≡ alive q
  by true is = state_live kept.calls q (x.agrees.live q is).state (x.agrees.live q is).state_is ∙ sym is
  by false is = none_live kept.calls q (x.agrees.dead q is).state ∙ sym is

-- a live number that is a worker's turn is claimed
pub turned_claimed : (messages : ℕ → Message) (turns : ℕ → Option ℕ) (alive : ℕ → Bool) (posted : ℕ) (found : Found) → AgreesWithMachine messages turns alive posted found → (w q : ℕ) → turns w ≡ Some q → alive q ≡ true → (v : ℕ) × (found.state q ≡ Some (Claimed v))
turned_claimed messages turns alive posted found agrees w q turned live =
    let was : IsLive turns q (messages q) found = agrees.live q live in
    let claimed = turned_state turns q (messages q) was.state (agrees.turned w q turned) was.is_state in
    (claimed.0, was.state_is ∙ ap Some claimed.1)

-- the number that a worker is at is claimed
pub working_claimed : (kept : UnderWay) → AreValidWorkers kept → (w q : ℕ) → turn_of_worker kept w ≡ Some (Working q) → (v : ℕ) × (message_state kept.calls q ≡ Some (Claimed v))
working_claimed kept whole w q working =
    let at : IsTurn whole.messages whole.alive (whole.turns w) (Working q) = whole.agrees.workers w (Working q) working in
    turned_claimed whole.messages whole.turns whole.alive whole.posted (found_in kept) whole.agrees w q at.0 at.1

-- ---- a fault

unless_other : (p : ℕ) (o : Option ℕ) → o ≢ Some p → unless_same p o ≡ o
unless_other p None ne = refl
unless_other p (Some q) ne = ap (λ (b : Bool). cond b None (Some q)) (ne_eqb p q (λ e. ne (ap Some (sym e))))

unless_gone : (p : ℕ) (o : Option ℕ) → o ≡ Some p → unless_same p o ≡ None
unless_gone p o is = ap (unless_same p) is ∙ ap (λ (b : Bool). cond b None (Some p)) (eq-eqb p p refl)

module _ (old new : UnderWay) (w p : ℕ) (errno : Errno) (working : turn_of_worker old w ≡ Some (Working p)) (claimed_is : (v : ℕ) × (message_state old.calls p ≡ Some (Claimed v)))
    (calls : new.calls ≡ with_state old.calls p (Faulted errno)) (slots : new.slots ≡ old.slots) (put : new.turns ≡ set old.turns (w - 1) Idle) where
  fault_live : is_live_drawing old.calls p ≡ true
  fault_live = state_live old.calls p (Claimed claimed_is.0) claimed_is.1

  fault_states : (q : ℕ) → q ≢ p → message_state new.calls q ≡ message_state old.calls q
  fault_states q ne = ap (λ (c : HeldCalls). message_state c q) calls ∙ states_moved old.calls p (Faulted errno) fault_live q ∙ ap (λ (b : Bool). cond b (Some (Faulted errno)) (message_state old.calls q)) (ne_eqb q p ne)

  fault_state : message_state new.calls p ≡ Some (Faulted errno)
  fault_state = ap (λ (c : HeldCalls). message_state c p) calls ∙ states_moved old.calls p (Faulted errno) fault_live p ∙ ap (λ (b : Bool). cond b (Some (Faulted errno)) (message_state old.calls p)) (eq-eqb p p refl)

  fault_threads : (q : ℕ) → thread_of_drawing new.calls q ≡ thread_of_drawing old.calls q
  fault_threads q = ap (λ (c : HeldCalls). thread_of_drawing c q) calls ∙ threads_moved old.calls p (Faulted errno) q

  fault_other : (q : ℕ) (m : Message) → q ≢ p → message_worked (entry.Faulted p errno) q m ≡ m
  fault_other q m ne =
      let e : (p == q) ≡ false = ne_eqb p q (λ x. ne (sym x)) in
      λ k. record { head = m.head; claimed = m.claimed; words = m.words; lookups = m.lookups; fault = cond (e k) (Some errno) m.fault; answered = m.answered; closed = m.closed }

  fault_come : (m : Message) → HasMessageFlags m true None false → HasMessageFlags (message_worked (entry.Faulted p errno) p m) true (Some errno) false
  fault_come m was = record { claimed = was.claimed; fault = ap (λ (b : Bool). cond b (Some errno) m.fault) (eq-eqb p p refl); answered = was.answered }

  module _ (messages : ℕ → Message) (turns : ℕ → Option ℕ) (alive : ℕ → Bool) (posted : ℕ) (agrees : AgreesWithMachine messages turns alive posted (found_in old)) where
    fault_at : IsTurn messages alive (turns w) (Working p)
    fault_at = agrees.workers w (Working p) working

    fault_was : IsLive turns p (messages p) (found_in old)
    fault_was = agrees.live p fault_at.1

    fault_gone : all_turned (entry.Faulted p errno) turns w ≡ None
    fault_gone = unless_gone p (turns w) fault_at.0

    fault_step : IsStep messages (all_worked (entry.Faulted p errno) messages) turns (all_turned (entry.Faulted p errno) turns) alive posted old new w p Idle
    fault_step = record {
      from = (number_within old.turns w (Working p) working).0;
      to = (number_within old.turns w (Working p) working).1;
      put = put;
      next = ap (λ (c : HeldCalls). c.next) calls;
      others = λ q ne. fault_other q (messages q) ne;
      states = fault_states;
      threads = fault_threads;
      slots = λ q ne. ap (λ (l : List Slot). slot_at l q) slots;
      only = λ v ne is. ne (agrees.apart v w p is fault_at.0);
      stay = λ v ne other. unless_other p (turns v) other;
      was = λ q is live. same_Some q p (sym is ∙ fault_at.0);
      onto = λ q is. absurd (none-some q (sym fault_gone ∙ is));
      come = λ is. absurd (none-some p (sym fault_gone ∙ is));
      turn = ap (at_work (all_worked (entry.Faulted p errno) messages) alive) fault_gone;
      within = (agrees.given p fault_at.1).1;
      live = λ is. record {
        state = Faulted errno;
        tid = fault_was.tid;
        slot = fault_was.slot;
        state_is = fault_state;
        thread_is = fault_threads p ∙ fault_was.thread_is;
        slot_is = ap (λ (l : List Slot). slot_at l p) slots ∙ fault_was.slot_is;
        is_state = fault_come (messages p) (agrees.turned w p fault_at.0);
        is_slot = record { head = fault_was.is_slot.head; count = fault_was.is_slot.count; words = fault_was.is_slot.words; lookups = fault_was.is_slot.lookups };
        is_sealed = fault_was.is_sealed;
      };
      dead = λ none. absurd (true≢false (sym fault_at.1 ∙ none));
    }

    fault_agrees : AgreesWithMachine (all_worked (entry.Faulted p errno) messages) (all_turned (entry.Faulted p errno) turns) alive posted (found_in new)
    fault_agrees = stepped messages (all_worked (entry.Faulted p errno) messages) turns (all_turned (entry.Faulted p errno) turns) alive posted old new w p Idle fault_step agrees

  fault_workers : new.calls.workers ≡ old.calls.workers
  fault_workers = ap (λ (c : HeldCalls). c.workers) calls

  -- each number that is kept is kept by a ready worker
  pub fault_numbered : AreNumbered old → AreNumbered new
  fault_numbered numbered =
      worked old new w p (Working p) Idle working (working_no_drawing p p) (idle_no_drawing p) put (state_live new.calls p (Faulted errno) fault_state) (λ q. ap (λ (c : HeldCalls). is_kept c q) calls)
      (λ q ne. same_life old.calls new.calls q (fault_states q ne)) (ap (λ (c : HeldCalls). c.workers) calls)
      (subst AreValidCalls (sym calls) (whole-moved old.calls p (Faulted errno) numbered.calls fault_live (λ v e. not_claim v e)))
      (left_seqs old new w p (Working p) Idle working put (λ q. ap (λ (c : HeldCalls). seq_of c q) calls ∙ seqs_moved old.calls p (Faulted errno) q) refl slots numbered.seqs) numbered
    where
      not_claim : (v : ℕ) → Faulted errno ≡ Claimed v → HasWorker old.calls v
      not_claim v e = cc

  pub fault_whole : AreValidWorkers old → AreValidWorkers new
  fault_whole whole = record {
    count = count_kept whole.messages (all_worked (entry.Faulted p errno) whole.messages) whole.turns (all_turned (entry.Faulted p errno) whole.turns) whole.alive whole.posted old new w p Idle
        (fault_step whole.messages whole.turns whole.alive whole.posted whole.agrees) whole.count fault_workers;
    messages = all_worked (entry.Faulted p errno) whole.messages;
    turns = all_turned (entry.Faulted p errno) whole.turns;
    alive = whole.alive;
    posted = whole.posted;
    agrees = fault_agrees whole.messages whole.turns whole.alive whole.posted whole.agrees;
  }

  fault_no_answer : (v : Verdict) → Faulted errno ≡ Answered v → ⊥
  fault_no_answer v e = cc

  pub fault_follows : RepresentsAfterEntry old (entry.Faulted p errno) new
  fault_follows i st alive kept = record {
    workers = fault_workers ∙ kept.workers;
    numbered = fault_numbered kept.numbered;
    agrees = fault_agrees st.messages st.turns alive st.posted kept.agrees;
    verdicts = verdicts_kept i st.messages (all_worked (entry.Faulted p errno) st.messages) old.calls new.calls p (λ q ne. fault_other q (st.messages q) ne) fault_states
        (λ v s is copies. absurd (fault_no_answer v (same_Some (Faulted errno) (Answered v) (sym fault_state ∙ is)))) kept.verdicts;
  }
