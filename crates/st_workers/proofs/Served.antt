-- The messages and workers agree with the law's machine after a worker has copied a word or looked at a name.
use Rattle.std.proofs.Common.{◌≡◌, ◌≢◌, ◌-◌, ℕ, ◌==◌, ◌&&◌, Bool, true, false, cond, [], ◌∷◌, ◌++◌, length, set, Option, Some, None, refl, ap, sym, ◌∙◌, subst}
use Rattle.std.specs.Prelude.{if◌then◌else◌}
use Rattle.std.proofs.lemmas.Bool.{eq-eqb, ne_eqb, true≢false}
use Rattle.std.proofs.lemmas.Option.{same_Some}
use Rattle.st_calls.specs.declared.judged.Verdict.{Verdict}
use Rattle.st_effects.specs.Progress.{Look, Progress, Word}
use Rattle.st_lookaside.specs.Part.{with_lookup, with_word}
use Rattle.st_lookaside.specs.Slot.{after_look, after_word, part_at, part_next, slot_progress, with_part, Slot}
use Rattle.st_lookaside.specs.Slots.{slot_at, ChangesSlot}
use Rattle.st_messages.specs.declared.message.MsgState.TheVariants.{Answered, Claimed}
use Rattle.st_messages.specs.Messages.{is_kept, is_live_drawing, message_state, seq_of, thread_of_drawing, AreValidCalls, HeldCalls}
use Rattle.st_names.specs.Name.{Components}
use Rattle.st_names.specs.declared.seen.SeenText.{SeenText}
use Rattle.st_trace.specs.declared.entry.Entry.{Entry}
use Rattle.st_trace.specs.declared.entry.Entry.TheVariants as entry
use Rattle.st_law.specs.declared.input.Input.{Input}
use Rattle.st_law.specs.Messages.{turn_after}
use Rattle.st_law.specs.State.{Message}
use Rattle.st_workers.specs.Filling.{sealed_if_ready, IsTurnFor}
use Rattle.st_workers.specs.Numbers.{AreNumbered}
use Rattle.st_workers.specs.Refinement.{AgreesWithMachine, RepresentsMachineMessages, HasMessageFlags, IsLive, IsSlotOf, IsTurn, AreValidWorkers}
use Rattle.st_workers.specs.UnderWay.{found_in, turn_of_worker, UnderWay}
use Rattle.st_workers.specs.declared.turn.Turn.{Turn}
use Rattle.st_workers.specs.declared.turn.Turn.TheVariants.{Working}
use Rattle.st_workers.proofs.Copies.{asked_inside, look_kept, sealed_then, slot_sealed, word_kept, IsBelow}
use Rattle.st_workers.proofs.Ended.{state_live}
use Rattle.st_workers.proofs.Filled.{changed_to}
use Rattle.st_workers.proofs.Numbered.{its_drawing, worked, working_no_drawing}
use Rattle.st_workers.proofs.Seqs.{filled_seqs}
use Rattle.st_workers.proofs.Steps.{all_turned, all_worked, count_kept, message_worked, stepped, turn_is, turned_state, verdicts_kept, IsStep}
use Rattle.st_workers.proofs.Turns.{number_within}

-- an entry that fills the slot of a number, and leaves everything else unchanged
pub record Fills (e : Entry) (p : ℕ) (slot filled : Slot) : Type 0 where
  pub number : filled.head.seq ≡ slot.head.seq
  pub other : (q : ℕ) (m : Message) → q ≢ p → message_worked e q m ≡ m
  pub come : (m : Message) → HasMessageFlags m true None false → HasMessageFlags (message_worked e p m) true None false
  pub kept : (m : Message) (tid : ℕ) → IsSlotOf m tid slot → IsSlotOf (message_worked e p m) tid filled
  pub turn : (v : ℕ) (o : Option ℕ) → turn_after e v o ≡ o

module _ (e : Entry) (old new : UnderWay) (w p : ℕ) (slot filled : Slot) (t : Turn) (working : turn_of_worker old w ≡ Some (Working p)) (there : slot_at old.slots p ≡ Some slot)
    (calls : new.calls ≡ old.calls) (slots : ChangesSlot old.slots p (Some (sealed_if_ready filled)) new.slots) (put : new.turns ≡ set old.turns (w - 1) t) (turn : IsTurnFor p filled t) (fills : Fills e p slot filled) where
  states_now : (q : ℕ) → message_state new.calls q ≡ message_state old.calls q
  states_now q = ap (λ (c : HeldCalls). message_state c q) calls

  module _ (messages : ℕ → Message) (turns : ℕ → Option ℕ) (alive : ℕ → Bool) (posted : ℕ) (agrees : AgreesWithMachine messages turns alive posted (found_in old)) where
    at : IsTurn messages alive (turns w) (Working p)
    at = agrees.workers w (Working p) working

    was : IsLive turns p (messages p) (found_in old)
    was = agrees.live p at.1

    came : HasMessageFlags (messages p) true None false
    came = agrees.turned w p at.0

    claimed : (v : ℕ) × (was.state ≡ Claimed v) × (turns v ≡ Some p)
    claimed = turned_state turns p (messages p) was.state came was.is_state

    is_slot : IsSlotOf (all_worked e messages p) was.tid filled
    is_slot = fills.kept (messages p) was.tid (subst (IsSlotOf (messages p) was.tid) (same_Some was.slot slot (sym was.slot_is ∙ there)) was.is_slot)

    state_claimed : message_state new.calls p ≡ Some (Claimed claimed.0)
    state_claimed = states_now p ∙ was.state_is ∙ ap Some claimed.1

    served_step : IsStep messages (all_worked e messages) turns (all_turned e turns) alive posted old new w p t
    served_step = record {
      from = (number_within old.turns w (Working p) working).0;
      to = (number_within old.turns w (Working p) working).1;
      put = put;
      next = ap (λ (c : HeldCalls). c.next) calls;
      others = λ q ne. fills.other q (messages q) ne;
      states = λ q ne. states_now q;
      threads = λ q. ap (λ (c : HeldCalls). thread_of_drawing c q) calls;
      slots = λ q ne. slots q ∙ ap (λ (b : Bool). cond b (Some (sealed_if_ready filled)) (slot_at old.slots q)) (ne_eqb q p ne);
      only = λ v ne is. ne (agrees.apart v w p is at.0);
      stay = λ v ne other. fills.turn v (turns v);
      was = λ q is live. same_Some q p (sym is ∙ at.0);
      onto = λ q is. same_Some q p (sym is ∙ fills.turn w (turns w) ∙ at.0);
      come = λ is. fills.come (messages p) came;
      turn = turn_is (all_worked e messages) alive (all_turned e turns w) p was.tid filled t is_slot (fills.turn w (turns w) ∙ at.0) at.1 turn;
      within = (agrees.given p at.1).1;
      live = λ is. record {
        state = Claimed claimed.0;
        tid = was.tid;
        slot = sealed_if_ready filled;
        state_is = state_claimed;
        thread_is = ap (λ (c : HeldCalls). thread_of_drawing c p) calls ∙ was.thread_is;
        slot_is = changed_to old.slots new.slots p (Some (sealed_if_ready filled)) slots;
        is_state = (fills.come (messages p) came, fills.turn claimed.0 (turns claimed.0) ∙ claimed.2);
        is_slot = slot_sealed (all_worked e messages p) was.tid filled is_slot;
        is_sealed = λ claimed ready. sealed_then (all_worked e messages p) was.tid filled is_slot ready;
      };
      dead = λ none. absurd (true≢false (sym at.1 ∙ none));
    }

    pub served_agrees : AgreesWithMachine (all_worked e messages) (all_turned e turns) alive posted (found_in new)
    served_agrees = stepped messages (all_worked e messages) turns (all_turned e turns) alive posted old new w p t served_step agrees

    -- each number that is kept is kept by a ready worker
    pub served_numbered : AreNumbered old → AreNumbered new
    served_numbered numbered =
        worked old new w p (Working p) t working (working_no_drawing p p) (its_drawing p filled t turn) put (state_live new.calls p (Claimed claimed.0) state_claimed) (λ q. ap (λ (c : HeldCalls). is_kept c q) calls)
        (λ q ne. ap (λ (c : HeldCalls). is_live_drawing c q) calls) (ap (λ (c : HeldCalls). c.workers) calls) (subst AreValidCalls (sym calls) numbered.calls)
        (filled_seqs old new w p (Working p) t working put (λ q. ap (λ (c : HeldCalls). seq_of c q) calls) slot filled there slots fills.number turn numbered.seqs) numbered

  pub served_workers : new.calls.workers ≡ old.calls.workers
  served_workers = ap (λ (c : HeldCalls). c.workers) calls

  -- the messages and workers stay whole
  pub served_whole : AreValidWorkers old → AreValidWorkers new
  served_whole whole = record {
    count = count_kept whole.messages (all_worked e whole.messages) whole.turns (all_turned e whole.turns) whole.alive whole.posted old new w p t
        (served_step whole.messages whole.turns whole.alive whole.posted whole.agrees) whole.count served_workers;
    messages = all_worked e whole.messages;
    turns = all_turned e whole.turns;
    alive = whole.alive;
    posted = whole.posted;
    agrees = served_agrees whole.messages whole.turns whole.alive whole.posted whole.agrees;
  }

  not_answer : (v : ℕ) (x : Verdict) → Claimed v ≡ Answered x → ⊥
  not_answer v x is = cc

  -- the messages and workers represent the state after the entry
  pub served_kept : (i : Input) (messages : ℕ → Message) (turns : ℕ → Option ℕ) (alive : ℕ → Bool) (posted : ℕ) → RepresentsMachineMessages i messages turns alive posted old → RepresentsMachineMessages i (all_worked e messages) (all_turned e turns) alive posted new
  served_kept i messages turns alive posted is = record {
    workers = served_workers ∙ is.workers;
    numbered = served_numbered messages turns alive posted is.agrees is.numbered;
    agrees = served_agrees messages turns alive posted is.agrees;
    verdicts = verdicts_kept i messages (all_worked e messages) old.calls new.calls p (λ q ne. fills.other q (messages q) ne) (λ q ne. states_now q)
        (λ v s answered copies. absurd (not_answer (claimed messages turns alive posted is.agrees).0 v (same_Some (Claimed (claimed messages turns alive posted is.agrees).0) (Answered v) (sym (state_claimed messages turns alive posted is.agrees) ∙ answered)))) is.verdicts;
  }

-- ---- a word

copied_other : (p part place word q : ℕ) (m : Message) → q ≢ p → message_worked (entry.Copied p part place word) q m ≡ m
copied_other p part place word q m ne =
    let e : (p == q) ≡ false = ne_eqb p q (λ x. ne (sym x)) in
    λ k. record { head = m.head; claimed = m.claimed; words = λ j. cond (e k && part == j) (m.words j ++ word ∷ []) (m.words j); lookups = m.lookups; fault = m.fault; answered = m.answered; closed = m.closed }

copied_here : (p part place word : ℕ) (m : Message) → message_worked (entry.Copied p part place word) p m ≡ record m { words = λ j. if part == j then m.words j ++ word ∷ [] else m.words j }
copied_here p part place word m =
    let e : (p == p) ≡ true = eq-eqb p p refl in
    λ k. record { head = m.head; claimed = m.claimed; words = λ j. cond (e k && part == j) (m.words j ++ word ∷ []) (m.words j); lookups = m.lookups; fault = m.fault; answered = m.answered; closed = m.closed }

module _ (p part place word : ℕ) (slot : Slot) (asks : slot_progress slot ≡ Word part place) where
  filled_word : after_word slot word ≡ with_part slot part (with_word (part_at slot.parts part) word)
  filled_word = ap (λ (pr : Progress). with_part slot (part_next pr) (with_word (part_at slot.parts (part_next pr)) word)) asks

  pub fills_word : Fills (entry.Copied p part place word) p slot (after_word slot word)
  fills_word = record {
    number = refl;
    other = λ q m ne. copied_other p part place word q m ne;
    come = λ m is. record { claimed = is.claimed; fault = is.fault; answered = is.answered };
    kept = λ m tid is.
        subst (λ (s : Slot). IsSlotOf (message_worked (entry.Copied p part place word) p m) tid s) (sym filled_word)
        (subst (λ (n : Message). IsSlotOf n tid (with_part slot part (with_word (part_at slot.parts part) word))) (sym (copied_here p part place word m))
        (word_kept m tid slot is part (subst (IsBelow (length slot.parts)) asks (asked_inside slot is.count)) word));
    turn = λ v o. refl;
  }

-- ---- a look

looked_other : (p part : ℕ) (name : Components) (seen : SeenText) (q : ℕ) (m : Message) → q ≢ p → message_worked (entry.Looked p part name seen) q m ≡ m
looked_other p part name seen q m ne =
    let e : (p == q) ≡ false = ne_eqb p q (λ x. ne (sym x)) in
    λ k. record { head = m.head; claimed = m.claimed; words = m.words; lookups = λ j. cond (e k && part == j) (m.lookups j ++ seen ∷ []) (m.lookups j); fault = m.fault; answered = m.answered; closed = m.closed }

looked_here : (p part : ℕ) (name : Components) (seen : SeenText) (m : Message) → message_worked (entry.Looked p part name seen) p m ≡ record m { lookups = λ j. if part == j then m.lookups j ++ seen ∷ [] else m.lookups j }
looked_here p part name seen m =
    let e : (p == p) ≡ true = eq-eqb p p refl in
    λ k. record { head = m.head; claimed = m.claimed; words = m.words; lookups = λ j. cond (e k && part == j) (m.lookups j ++ seen ∷ []) (m.lookups j); fault = m.fault; answered = m.answered; closed = m.closed }

module _ (p part : ℕ) (at name : Components) (seen : SeenText) (slot : Slot) (asks : slot_progress slot ≡ Look part at) where
  filled_look : after_look slot seen ≡ with_part slot part (with_lookup (part_at slot.parts part) seen)
  filled_look = ap (λ (pr : Progress). with_part slot (part_next pr) (with_lookup (part_at slot.parts (part_next pr)) seen)) asks

  pub fills_look : Fills (entry.Looked p part name seen) p slot (after_look slot seen)
  fills_look = record {
    number = refl;
    other = λ q m ne. looked_other p part name seen q m ne;
    come = λ m is. record { claimed = is.claimed; fault = is.fault; answered = is.answered };
    kept = λ m tid is.
        subst (λ (s : Slot). IsSlotOf (message_worked (entry.Looked p part name seen) p m) tid s) (sym filled_look)
        (subst (λ (n : Message). IsSlotOf n tid (with_part slot part (with_lookup (part_at slot.parts part) seen))) (sym (looked_here p part name seen m))
        (look_kept m tid slot is part (subst (IsBelow (length slot.parts)) asks (asked_inside slot is.count)) seen));
    turn = λ v o. refl;
  }
