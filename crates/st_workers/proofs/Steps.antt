-- A step of one worker on one number, and what is unchanged.
use Rattle.std.proofs.Common.{◌≡◌, ◌≢◌, ◌≤◌, ◌-◌, ℕ, ◌==◌, Bool, true, false, cond, List, length, set, Option, Some, None, ◌⊎◌, inl, inr, refl, ap, sym, ◌∙◌, subst, arith}
use Rattle.std.proofs.lemmas.Bool.{cases_eq, eq-eqb, ne_eqb, true≢false}
use Rattle.std.proofs.lemmas.List.{length-set}
use Rattle.std.proofs.lemmas.Option.{none-some, same_Some}
use Rattle.st_base.specs.Numbered.{item_at_number}
use Rattle.st_base.specs.declared.errno.Errno.{Errno}
use Rattle.st_calls.specs.declared.judged.Snapshot.{Snapshot}
use Rattle.st_calls.specs.declared.judged.Verdict.{Verdict}
use Rattle.st_effects.specs.Progress.{Ready as Whole}
use Rattle.st_filter.specs.Judged.{verdict_under}
use Rattle.st_lookaside.specs.Slot.{Slot, slot_progress, snapshot_with}
use Rattle.st_lookaside.specs.Slots.{slot_at}
use Rattle.st_messages.specs.declared.message.MsgState.{MsgState}
use Rattle.st_messages.specs.declared.message.MsgState.TheVariants.{Waiting, Claimed, Answered, Faulted}
use Rattle.st_messages.specs.Messages.{HeldCalls, message_state, thread_of_drawing}
use Rattle.st_trace.specs.declared.entry.Entry.{Entry}
use Rattle.st_law.specs.declared.input.Input.{Input}
use Rattle.st_law.specs.Messages.{claimed_after, words_after, lookups_after, fault_after, answered_after, turn_after}
use Rattle.st_law.specs.State.{Message, is_ready, progress_of_message, snapshot_of_message}
use Rattle.st_workers.specs.Filling.{IsTurnFor}
use Rattle.st_workers.specs.Refinement.{drawn_copies, AgreesWithMachine, HasMessageFlags, IsDead, IsLive, IsSlotOf, IsState, IsTurn}
use Rattle.st_workers.specs.UnderWay.{UnderWay, found_in, turn_of_worker}
use Rattle.st_workers.specs.declared.turn.Turn.{Turn}
use Rattle.st_workers.specs.declared.turn.Turn.TheVariants.{Idle, Working, Ready}
use Rattle.st_workers.proofs.Changed.{changed, Stays, Moves}
use Rattle.st_workers.proofs.Copies.{same_progress, same_snapshot}
use Rattle.st_workers.proofs.Turns.{item_put}

-- how an entry of a worker changes the message of a number
abbrev pub message_worked : Entry → ℕ → Message → Message
message_worked e q message = record {
  head = message.head;
  claimed = claimed_after e q message.claimed;
  words = λ j. words_after e q j (message.words j);
  lookups = λ j. lookups_after e q j (message.lookups j);
  fault = fault_after e q message.fault;
  answered = answered_after e q message.answered;
  closed = message.closed;
}

-- how an entry changes all messages
abbrev pub all_worked : Entry → (ℕ → Message) → ℕ → Message
all_worked e messages q = message_worked e q (messages q)

-- how an entry changes all turns
abbrev pub all_turned : Entry → (ℕ → Option ℕ) → ℕ → Option ℕ
all_turned e turns w = turn_after e w (turns w)

-- the step of a worker on a number, which gives it this turn
pub record IsStep (messages after : ℕ → Message) (turns turned : ℕ → Option ℕ) (alive : ℕ → Bool) (posted : ℕ) (old new : UnderWay) (w p : ℕ) (t : Turn) : Type 0 where
  pub from : 1 ≤ w
  pub to : w ≤ length old.turns
  pub put : new.turns ≡ set old.turns (w - 1) t
  pub next : new.calls.next ≡ old.calls.next
  pub others : (q : ℕ) → q ≢ p → after q ≡ messages q
  pub states : (q : ℕ) → q ≢ p → message_state new.calls q ≡ message_state old.calls q
  pub threads : (q : ℕ) → thread_of_drawing new.calls q ≡ thread_of_drawing old.calls q
  pub slots : (q : ℕ) → q ≢ p → slot_at new.slots q ≡ slot_at old.slots q
  pub only : (v : ℕ) → v ≢ w → turns v ≢ Some p
  pub stay : (v : ℕ) → v ≢ w → turns v ≢ Some p → turned v ≡ turns v
  pub was : (q : ℕ) → turns w ≡ Some q → alive q ≡ true → q ≡ p
  pub onto : (q : ℕ) → turned w ≡ Some q → q ≡ p
  pub come : turned w ≡ Some p → HasMessageFlags (after p) true None false
  pub turn : IsTurn after alive (turned w) t
  pub within : p ≤ posted
  pub live : alive p ≡ true → IsLive turned p (after p) (found_in new)
  pub dead : alive p ≡ false → IsDead p (found_in new)

module _ (messages after : ℕ → Message) (turns turned : ℕ → Option ℕ) (alive : ℕ → Bool) (posted : ℕ) (old new : UnderWay) (w p : ℕ) (t : Turn)
    (step : IsStep messages after turns turned alive posted old new w p t) where
  turn_put : (v : ℕ) → turn_of_worker new v ≡ cond (v == w) (Some t) (turn_of_worker old v)
  turn_put v = ap (λ (ts : List Turn). item_at_number ts v) step.put ∙ item_put old.turns w t step.from step.to v

  pub count_kept : length old.turns ≡ old.calls.workers → new.calls.workers ≡ old.calls.workers → length new.turns ≡ new.calls.workers
  count_kept count workers = ap (λ (ts : List Turn). length ts) step.put ∙ length-set old.turns (w - 1) t ∙ count ∙ sym workers

  module _ (agrees : AgreesWithMachine messages turns alive posted (found_in old)) where
    each : (v : ℕ) → Stays turns turned p (found_in old) (found_in new) v ⊎ Moves turns turned after alive alive p w (found_in new) v
    each v = elim (cases_eq v w) [
      | inl e ↦ inr (record {
        is = e;
        from = λ q is live. step.was q (ap turns (sym e) ∙ is) live;
        onto = λ q is. step.onto q (ap turned (sym e) ∙ is);
        come = λ is. step.come (ap turned (sym e) ∙ is);
        turn = λ s is.
            let same : t ≡ s = same_Some t s (sym (turn_put v ∙ ap (λ (b : Bool). cond b (Some t) (turn_of_worker old v)) (eq-eqb v w e)) ∙ is) in
            subst (IsTurn after alive (turned v)) same (subst (λ (n : ℕ). IsTurn after alive (turned n) t) (sym e) step.turn);
      })
      | inr ne ↦ inl (record {
        same = step.stay v ne (step.only v ne);
        other = step.only v ne;
        turn = λ s is. sym (turn_put v ∙ ap (λ (b : Bool). cond b (Some t) (turn_of_worker old v)) (ne_eqb v w ne)) ∙ is;
      })
    ]

    -- what is found agrees after the step
    pub stepped : AgreesWithMachine after turned alive posted (found_in new)
    stepped = changed messages after turns turned alive alive posted posted p w (found_in old) (found_in new) agrees (record {
      others = step.others;
      lives = λ q ne. refl;
      state = step.states;
      thread = λ q ne. step.threads q;
      slot = step.slots;
      more = omega arith;
      within = step.within;
      next = step.next ∙ agrees.next;
      live = λ is. ((agrees.given p is).0, step.live is);
      dead = step.dead;
      each = each;
    })

-- the verdicts of all other numbers are unchanged
pub verdicts_kept : (i : Input) (messages after : ℕ → Message) (old new : HeldCalls) (p : ℕ) → ((q : ℕ) → q ≢ p → after q ≡ messages q) → ((q : ℕ) → q ≢ p → message_state new q ≡ message_state old q)
    → ((v : Verdict) (s : Snapshot) → message_state new p ≡ Some (Answered v) → snapshot_of_message p (after p) ≡ Some s → v ≡ verdict_under i.policies s)
    → ((q : ℕ) (v : Verdict) (s : Snapshot) → message_state old q ≡ Some (Answered v) → snapshot_of_message q (messages q) ≡ Some s → v ≡ verdict_under i.policies s)
    → (q : ℕ) (v : Verdict) (s : Snapshot) → message_state new q ≡ Some (Answered v) → snapshot_of_message q (after q) ≡ Some s → v ≡ verdict_under i.policies s
verdicts_kept i messages after old new p others states here all q v s is copies = elim (cases_eq q p) [
  | inl e ↦ here v s (ap (message_state new) (sym e) ∙ is) (ap (λ (n : ℕ). snapshot_of_message n (after n)) (sym e) ∙ copies)
  | inr ne ↦ all q v s (sym (states q ne) ∙ is) (ap (snapshot_of_message q) (sym (others q ne)) ∙ copies)
]

-- ---- the state of a number that is some worker's turn

not_claimed : (m : Message) → HasMessageFlags m true None false → HasMessageFlags m false None false → ⊥
not_claimed m come other = true≢false (sym come.claimed ∙ other.claimed)

not_answered : (m : Message) → HasMessageFlags m true None false → HasMessageFlags m true None true → ⊥
not_answered m come other = true≢false (sym other.answered ∙ come.answered)

not_faulted : (m : Message) (errno : Errno) → HasMessageFlags m true None false → HasMessageFlags m true (Some errno) false → ⊥
not_faulted m errno come other = none-some errno (sym come.fault ∙ other.fault)

-- it is claimed by the worker whose turn it is
pub turned_state : (turns : ℕ → Option ℕ) (q : ℕ) (m : Message) (state : MsgState) → HasMessageFlags m true None false → IsState turns q m state → (v : ℕ) × (state ≡ Claimed v) × (turns v ≡ Some q)
turned_state turns q m Waiting come is = absurd (not_claimed m come is)
turned_state turns q m (Claimed v) come is = (v, refl, is.1)
turned_state turns q m (Answered x) come is = absurd (not_answered m come is.0)
turned_state turns q m (Faulted errno) come is = absurd (not_faulted m errno come is)

-- a waiting number is no worker's turn
pub waiting_unturned : (m : Message) → HasMessageFlags m false None false → HasMessageFlags m true None false → ⊥
waiting_unturned m waits come = not_claimed m come waits

-- ---- the turn by a slot

turn_for-ready : (after : ℕ → Message) (alive : ℕ → Bool) (o : Option ℕ) (p tid : ℕ) (slot : Slot) (s : Snapshot) → IsSlotOf (after p) tid slot → o ≡ Some p
    → slot_progress slot ≡ Whole s.parts → s ≡ snapshot_with slot.head s.parts → IsTurn after alive o (Ready p s)
turn_for-ready after alive o p tid slot s is turned ready sealed = (turned, same_snapshot (after p) tid slot is p s.parts ready ∙ ap (λ (u : Snapshot). Some (drawn_copies p u)) (sym sealed))

-- the turn of a worker at a live number, by the slot of the number
pub turn_is : (after : ℕ → Message) (alive : ℕ → Bool) (o : Option ℕ) (p tid : ℕ) (slot : Slot) (t : Turn) → IsSlotOf (after p) tid slot → o ≡ Some p → alive p ≡ true → IsTurnFor p slot t → IsTurn after alive o t
turn_is after alive o p tid slot Idle is turned live turn = absurd turn
turn_is after alive o p tid slot (Working q) is turned live turn =
    let e : q ≡ p = turn.0 in
    (turned ∙ ap Some (sym e), ap alive e ∙ live, ap (λ (n : ℕ). is_ready (progress_of_message (after n))) e ∙ ap is_ready (same_progress (after p) tid slot is) ∙ turn.1)
turn_is after alive o p tid slot (Ready q s) is turned live turn = subst (λ (n : ℕ). IsTurn after alive o (Ready n s)) (sym turn.0) (turn_for-ready after alive o p tid slot s is turned turn.1 turn.2)
