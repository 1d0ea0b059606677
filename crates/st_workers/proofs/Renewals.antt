-- The messages and workers agree with the law's machine after a number is renewed: it has ended, and its call is posted again.
use Rattle.std.proofs.Common.{◌≡◌, ◌≢◌, ◌↔◌, ◌≤◌, ℕ, suc, ◌==◌, Bool, true, false, cond, length, IfSome, Option, Some, None, inl, inr, refl, ap, sym, ◌∙◌, subst}
use Rattle.std.specs.Prelude.{if◌then◌else◌}
use Rattle.std.specs.Option.{option_map}
use Rattle.std.proofs.lemmas.Bool.{cases_eq, eq-eqb, ne_eqb}
use Rattle.std.proofs.lemmas.Option.{none-some, same_Some}
use Rattle.st_calls.specs.declared.judged.Verdict.{Verdict}
use Rattle.st_lookaside.specs.Slot.{renewed, Slot}
use Rattle.st_lookaside.specs.Slots.{slot_at, ChangesSlot, RenewsSlot}
use Rattle.st_lookaside.specs.declared.head.Head as kept
use Rattle.st_lookaside.specs.declared.head.Renewal.{Renewal}
use Rattle.st_messages.specs.declared.message.Message as message
use Rattle.st_messages.specs.declared.message.MsgState.TheVariants.{Waiting, Answered}
use Rattle.st_messages.specs.Messages.{calls_after_cancel, calls_after_post_as, calls_after_renew, calls_after_renew_of, count_in_use, is_live_drawing, message_of_drawing, message_state, most_in_use, next_seq, seq_left, seq_of, thread_of_drawing, AreValidCalls, HeldCalls, RenewsState}
use Rattle.st_messages.proofs.Whole.{seqs_renewed, states_cancelled, threads_cancelled, whole-renewed}
use Rattle.st_law.specs.declared.input.Input.{Input}
use Rattle.st_law.specs.Messages.{Head}
use Rattle.st_law.specs.Numbers.{drawn_as, largest_number, without_replaced}
use Rattle.st_law.specs.State.{snapshot_of_message, Message}
use Rattle.st_workers.specs.Refinement.{head_of, head_renewed, messages_renewed, AgreesWithMachine, RepresentsMachineMessages, IsLive, AreValidWorkers, RenewsLife}
use Rattle.st_workers.specs.Leaving.{is_claimer_ready, HasLeft}
use Rattle.st_workers.specs.Numbers.{AreFew, AreNumbered, AreReady, CarriesNumbers, HasNumbers, HaveSeqs, IsReadyWith}
use Rattle.st_workers.specs.UnderWay.{found_in, Found, UnderWay}
use Rattle.st_workers.proofs.Cancels.{claimer_ready, ended_agrees, live_message, live_there, same_answer, without_live, IsEnded}
use Rattle.st_workers.proofs.Carried.{numbers_renewed}
use Rattle.st_workers.proofs.Few.{few_renewed}
use Rattle.st_workers.proofs.Filled.{known}
use Rattle.st_workers.proofs.Numbered.{cancelled_numbered, left_turn, posted_numbered, ready_left}
use Rattle.st_workers.proofs.Seqs.{cancelled_seqs, posted_seqs, without_slot, without_slot_changes}
use Rattle.st_workers.proofs.Posts.{head_other, not_answer, posted_agrees, thread_other, with_head, with_live, IsPosted}

-- what is found after a number has ended, with these turns
abbrev pub found_without : Found → ℕ → Found → Found
found_without old p new = record {
  next = old.next;
  state = λ q. if q == p then None else old.state q;
  thread = λ q. if q == p then None else old.thread q;
  slot = λ q. if q == p then None else old.slot q;
  turn = new.turn;
}

renewed_calls : (calls : HeldCalls) (p : ℕ) (keeps : Bool) (m : message.Message) → message_of_drawing calls p ≡ Some m → calls_after_renew calls p keeps ≡ calls_after_post_as (calls_after_cancel calls p keeps) m.tid (next_seq calls)
renewed_calls calls p keeps m is = ap (calls_after_renew_of calls p keeps) is

-- a head under another drawing and its number, after this renewal
abbrev pub fresh_head : kept.Head → ℕ → ℕ → Renewal → kept.Head
fresh_head head drawing seq renewal =
    record head { drawing = drawing; seq = seq; ids = renewal.ids; cwd = renewal.cwd; version = renewal.version }

module _ (old new : UnderWay) (p : ℕ) (keeps : Bool) (seq : ℕ) (renewal : Renewal) (here : is_live_drawing old.calls p ≡ true) (calls : new.calls ≡ calls_after_renew old.calls p keeps) (thread : thread_of_drawing new.calls old.calls.next ≡ thread_of_drawing old.calls p)
    (states : RenewsState old.calls p old.calls.next new.calls) (slots : IfSome (slot_at old.slots p) (λ slot. RenewsSlot old.slots p old.calls.next (renewed slot old.calls.next seq renewal) new.slots))
    (turns_left : HasLeft old.turns (message_state old.calls p) new.turns) (count : length new.turns ≡ length old.turns) (keeps_is : keeps ≡ is_claimer_ready old.turns (message_state old.calls p)) (few : count_in_use old.calls ≤ most_in_use) (number : seq ≡ next_seq old.calls) where
  message_there : (m : message.Message) × (message_of_drawing old.calls p ≡ Some m)
  message_there = live_message old.calls p here

  calls_are : new.calls ≡ calls_after_post_as (calls_after_cancel old.calls p keeps) message_there.0.tid (next_seq old.calls)
  calls_are = calls ∙ renewed_calls old.calls p keeps message_there.0 message_there.1

  threads_now : (q : ℕ) → q ≢ old.calls.next → thread_of_drawing new.calls q ≡ cond (q == p) None (thread_of_drawing old.calls q)
  threads_now q ne = ap (λ (c : HeldCalls). thread_of_drawing c q) calls_are ∙ thread_other (calls_after_cancel old.calls p keeps) message_there.0.tid (next_seq old.calls) q ne ∙ threads_cancelled old.calls p keeps q

  states_now : (q : ℕ) → q ≢ old.calls.next → message_state new.calls q ≡ cond (q == p) None (message_state old.calls q)
  states_now q ne = states q ∙ ap (λ (b : Bool). cond b (Some Waiting) (cond (q == p) None (message_state old.calls q))) (ne_eqb q old.calls.next ne)

  state_now : message_state new.calls old.calls.next ≡ Some Waiting
  state_now = states old.calls.next ∙ ap (λ (b : Bool). cond b (Some Waiting) (cond (old.calls.next == p) None (message_state old.calls old.calls.next))) (eq-eqb old.calls.next old.calls.next refl)

  ended : IsEnded (found_in old) (found_without (found_in old) p (found_in new)) p
  ended =
      let same : (p == p) ≡ true = eq-eqb p p refl in
      record {
        next = refl;
        dead = record {
          state = ap (λ (b : Bool). cond b None (message_state old.calls p)) same;
          thread = ap (λ (b : Bool). cond b None (thread_of_drawing old.calls p)) same;
          slot = ap (λ (b : Bool). cond b None (slot_at old.slots p)) same;
        };
        states = λ q ne. ap (λ (b : Bool). cond b None (message_state old.calls q)) (ne_eqb q p ne);
        threads = λ q ne. ap (λ (b : Bool). cond b None (thread_of_drawing old.calls q)) (ne_eqb q p ne);
        slots = λ q ne. ap (λ (b : Bool). cond b None (slot_at old.slots q)) (ne_eqb q p ne);
        turn = turns_left;
      }

  pub renewed_ready : (q : ℕ) → IsReadyWith new q ↔ IsReadyWith old q
  renewed_ready = ready_left old new (message_state old.calls p) turns_left

  -- what is under way when the old drawing has ended, before the call is posted again
  abbrev between : UnderWay
  between = record { calls = calls_after_cancel old.calls p keeps; slots = without_slot old.slots p; turns = new.turns }

  between_states : (q : ℕ) → q ≢ p → message_state between.calls q ≡ message_state old.calls q
  between_states q ne = states_cancelled old.calls p keeps q ∙ ap (λ (b : Bool). cond b None (message_state old.calls q)) (ne_eqb q p ne)

  module _ (messages : ℕ → Message) (turns : ℕ → Option ℕ) (alive : ℕ → Bool) (posted : ℕ) (agrees : AgreesWithMachine messages turns alive posted (found_in old)) where
    keeps_iff : (keeps ≡ true) ↔ IsReadyWith old p
    keeps_iff = claimer_ready messages turns alive posted old agrees p (live_there messages turns alive posted old agrees p here) keeps keeps_is

    slot_there : (slot : Slot) × (slot_at old.slots p ≡ Some slot)
    slot_there = (let was : IsLive turns p (messages p) (found_in old) = agrees.live p (live_there messages turns alive posted old agrees p here) in (was.slot, was.slot_is))

    -- from the slots without that of the old drawing to those with that of the new one
    again_slots : ChangesSlot between.slots old.calls.next (Some (renewed slot_there.0 old.calls.next seq renewal)) new.slots
    again_slots other =
        known (slot_at old.slots p) (λ s. RenewsSlot old.slots p old.calls.next (renewed s old.calls.next seq renewal) new.slots) slot_there.0 slot_there.1 slots other
        ∙ ap (λ (o : Option Slot). cond (other == old.calls.next) (Some (renewed slot_there.0 old.calls.next seq renewal)) o) (sym (without_slot_changes old.slots p other))

    -- each number that is kept is kept by a ready worker
    again_numbered : AreNumbered old → AreNumbered new
    again_numbered numbered =
        let left_first : HaveSeqs between =
        cancelled_seqs old between p keeps message_there.0 numbered.calls message_there.1 refl (without_slot_changes old.slots p) (left_turn old new (message_state old.calls p) turns_left) keeps_iff.1 numbered.seqs in
        let between_numbered : AreNumbered between = cancelled_numbered old between p keeps message_there.0 message_there.1 refl between_states count renewed_ready keeps_iff left_first numbered in
        posted_numbered between new message_there.0.tid (next_seq old.calls) calls_are refl (subst AreValidCalls (sym calls) (whole-renewed old.calls p keeps numbered.calls few message_there.0 message_there.1))
        (posted_seqs between new message_there.0.tid (next_seq old.calls) (renewed slot_there.0 old.calls.next seq renewal).head calls_are again_slots refl number between_numbered.calls left_first) between_numbered

    again_numbers : AreNumbered old → (ready : ℕ → Bool) → AreReady ready old → CarriesNumbers (λ numbers. without_replaced ready p (drawn_as largest_number old.calls.next numbers)) old.calls new.calls
    again_numbers numbered ready are numbers has =
        subst (HasNumbers (without_replaced ready p (drawn_as largest_number old.calls.next numbers))) (sym calls)
        (numbers_renewed old.calls numbered.calls p keeps ready (same_answer keeps (ready p) (IsReadyWith old p) keeps_iff (are p)) message_there.0 message_there.1 numbers has few)

  -- the new drawing has the number that was drawn
  pub renewed_seq : AreNumbered old → seq_of new.calls old.calls.next ≡ Some (next_seq old.calls)
  renewed_seq numbered =
      ap (λ (c : HeldCalls). seq_of c old.calls.next) calls ∙ seqs_renewed old.calls p keeps numbered.calls few message_there.0 message_there.1 old.calls.next
      ∙ ap (λ (b : Bool). cond b (Some (next_seq old.calls)) (cond (old.calls.next == p) (seq_left old.calls p keeps) (seq_of old.calls old.calls.next))) (eq-eqb old.calls.next old.calls.next refl)

  pub renewed_stays : AreValidWorkers old → AreNumbered old → AreNumbered new
  renewed_stays whole = again_numbered whole.messages whole.turns whole.alive whole.posted whole.agrees

  pub renewed_numbers : AreValidWorkers old → AreNumbered old → (ready : ℕ → Bool) → AreReady ready old → CarriesNumbers (λ numbers. without_replaced ready p (drawn_as largest_number old.calls.next numbers)) old.calls new.calls
  renewed_numbers whole = again_numbers whole.messages whole.turns whole.alive whole.posted whole.agrees

  -- there are no more threads with calls than before
  pub renewed_few : AreFew old.calls → AreFew new.calls
  renewed_few = few_renewed old.calls new.calls p (ap (λ (c : HeldCalls). c.workers) calls_are) threads_now thread

  module _ (messages : ℕ → Message) (turns : ℕ → Option ℕ) (alive : ℕ → Bool) (posted : ℕ) (agrees : AgreesWithMachine messages turns alive posted (found_in old)) where
    live : alive p ≡ true
    live = live_there messages turns alive posted old agrees p here

    pub was : IsLive turns p (messages p) (found_in old)
    was = agrees.live p live

    slots_are : RenewsSlot old.slots p old.calls.next (renewed was.slot old.calls.next seq renewal) new.slots
    slots_are = known (slot_at old.slots p) (λ s. RenewsSlot old.slots p old.calls.next (renewed s old.calls.next seq renewal) new.slots) was.slot was.slot_is slots

    is_posted : IsPosted (found_without (found_in old) p (found_in new)) (found_in new) old.calls.next was.tid (fresh_head was.slot.head old.calls.next seq renewal)
    is_posted =
        let fresh : Slot = renewed was.slot old.calls.next seq renewal in
        record {
          next = ap (λ (c : HeldCalls). c.next) calls_are;
          state = state_now;
          thread = thread ∙ was.thread_is;
          slot = slots_are old.calls.next ∙ ap (λ (b : Bool). cond b (Some fresh) (cond (old.calls.next == p) None (slot_at old.slots old.calls.next))) (eq-eqb old.calls.next old.calls.next refl);
          states = states_now;
          threads = threads_now;
          slots = λ q ne. slots_are q ∙ ap (λ (b : Bool). cond b (Some fresh) (cond (q == p) None (slot_at old.slots q))) (ne_eqb q old.calls.next ne);
          turn = λ w. refl;
        }

    pub renewed_agrees : (later : ℕ → Bool) → RenewsLife alive p old.calls.next later → AgreesWithMachine (with_head (head_of was.tid (fresh_head was.slot.head old.calls.next seq renewal)) old.calls.next messages) turns later (suc posted) (found_in new)
    renewed_agrees later lives =
        posted_agrees (found_without (found_in old) p (found_in new)) (found_in new) old.calls.next was.tid (fresh_head was.slot.head old.calls.next seq renewal) is_posted messages turns (without_live p alive) later posted
        (ended_agrees (found_in old) (found_without (found_in old) p (found_in new)) p ended messages turns alive (without_live p alive) posted agrees live (λ other. refl)) refl lives

    -- the message of the new number is the old one's, after the renewal
    pub messages_are : with_head (head_of was.tid (fresh_head was.slot.head old.calls.next seq renewal)) old.calls.next messages ≡ messages_renewed renewal p old.calls.next messages
    messages_are =
        let renews : option_map (head_renewed renewal) (messages p).head ≡ Some (head_of was.tid (fresh_head was.slot.head old.calls.next seq renewal)) =
        ap (option_map (head_renewed renewal)) was.is_slot.head in
        let back = sym renews in
        λ k q. record (messages q) { head = cond (old.calls.next == q) (back k) (messages q).head }

  workers_now : new.calls.workers ≡ old.calls.workers
  workers_now = ap (λ (c : HeldCalls). c.workers) calls_are

  -- the messages and workers stay whole
  pub renewed_whole : AreValidWorkers old → AreValidWorkers new
  renewed_whole whole =
      let its : IsLive whole.turns p (whole.messages p) (found_in old) = was whole.messages whole.turns whole.alive whole.posted whole.agrees in
      record {
        count = count ∙ whole.count ∙ sym workers_now;
        messages = with_head (head_of its.tid (fresh_head its.slot.head old.calls.next seq renewal)) old.calls.next whole.messages;
        turns = whole.turns;
        alive = with_live old.calls.next (without_live p whole.alive);
        posted = suc whole.posted;
        agrees = renewed_agrees whole.messages whole.turns whole.alive whole.posted whole.agrees (with_live old.calls.next (without_live p whole.alive)) (λ other. refl);
      }

  answered_before : (q : ℕ) (v : Verdict) → q ≢ old.calls.next → message_state new.calls q ≡ Some (Answered v) → message_state old.calls q ≡ Some (Answered v)
  answered_before q v ne is = by (q == p) (sym (states_now q ne) ∙ is) where
    by : (b : Bool) → cond b None (message_state old.calls q) ≡ Some (Answered v) → message_state old.calls q ≡ Some (Answered v)
    by true e = absurd (none-some (Answered v) e)
    by false e = e

  -- the messages and workers represent the state after the renewal
  pub renewed_kept : (i : Input) (messages : ℕ → Message) (turns : ℕ → Option ℕ) (alive later : ℕ → Bool) (posted : ℕ) → RepresentsMachineMessages i messages turns alive posted old
      → RenewsLife alive p (suc posted) later → RepresentsMachineMessages i (messages_renewed renewal p (suc posted) messages) turns later (suc posted) new
  renewed_kept i messages turns alive later posted kept lives =
      let its : IsLive turns p (messages p) (found_in old) = was messages turns alive posted kept.agrees in
      let head : Head = head_of its.tid (fresh_head its.slot.head old.calls.next seq renewal) in
      let lives_next : RenewsLife alive p old.calls.next later = subst (λ (n : ℕ). RenewsLife alive p n later) (sym kept.agrees.next) lives in
      subst (λ (n : ℕ). RepresentsMachineMessages i (messages_renewed renewal p n messages) turns later (suc posted) new) kept.agrees.next
      (subst (λ (all : ℕ → Message). RepresentsMachineMessages i all turns later (suc posted) new) (messages_are messages turns alive posted kept.agrees) (record {
        workers = workers_now ∙ kept.workers;
        numbered = again_numbered messages turns alive posted kept.agrees kept.numbered;
        agrees = renewed_agrees messages turns alive posted kept.agrees later lives_next;
        verdicts = λ q v s is copies. elim (cases_eq q old.calls.next) [
          | inl e ↦ absurd (not_answer v (same_Some Waiting (Answered v) (sym (ap (message_state new.calls) e ∙ state_now) ∙ is)))
          | inr ne ↦ kept.verdicts q v s (answered_before q v ne is) (ap (snapshot_of_message q) (sym (head_other head old.calls.next messages q ne)) ∙ copies)
        ];
      }))
