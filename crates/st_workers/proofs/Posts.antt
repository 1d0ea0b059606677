-- The messages and workers agree with the law's machine after a call is posted.
use Rattle.std.proofs.Common.{◌≡◌, ◌≢◌, ◌≤◌, ℕ, zero, suc, ◌==◌, Bool, true, false, cond, List, [], ◌∷◌, length, map, Option, Some, inl, refl, ap, sym, ◌∙◌, subst, arith}
use Rattle.std.specs.Prelude.{if◌then◌else◌}
use Rattle.std.specs.Option.{option_map}
use Rattle.std.proofs.lemmas.Bool.{eq-eqb, ne_eqb, true≢false}
use Rattle.std.proofs.lemmas.List.{length-map}
use Rattle.std.proofs.lemmas.Option.{same_Some}
use Rattle.st_base.specs.Numbered.{item_at_number}
use Rattle.st_calls.specs.Argument.{args_of}
use Rattle.st_calls.specs.declared.argument.ArgSpec.{ArgSpec}
use Rattle.st_calls.specs.declared.call.SysCall.{SysCall}
use Rattle.st_calls.specs.declared.judged.Verdict.{Verdict}
use Rattle.st_lookaside.specs.Part.{Filled, nothing_filled}
use Rattle.st_lookaside.specs.Slot.{new_slot, part_at}
use Rattle.st_lookaside.specs.Slots.{slot_at, ChangesSlot}
use Rattle.st_lookaside.specs.declared.head.Head as kept
use Rattle.st_messages.specs.declared.message.Message as message
use Rattle.st_messages.specs.declared.message.MsgState.TheVariants.{Waiting, Answered}
use Rattle.st_messages.specs.Messages.{HeldCalls, calls_after_post, calls_after_post_as, count_in_use, message_state, most_in_use, next_seq, thread_of_drawing, AreValidCalls, ChangesState, HasNoDrawing}
use Rattle.st_messages.proofs.Lookups.{found_other}
use Rattle.st_messages.proofs.Whole.{next_free, next_is_nobodys, whole-posted}
use Rattle.st_trace.specs.declared.entry.Entry.TheVariants as entry
use Rattle.st_trace.specs.declared.entry.Way.TheVariants.{Held}
use Rattle.st_law.specs.declared.input.Input.{Input}
use Rattle.st_law.specs.Messages.{Head, new_head}
use Rattle.st_law.specs.Numbers.{drawn_as, largest_number}
use Rattle.st_law.specs.State.{Message, State}
use Rattle.st_workers.specs.Numbers.{AreNumbered, CarriesNumbers, HasNumbers}
use Rattle.st_workers.specs.Refinement.{head_of, AgreesWithMachine, ChangesLife, RepresentsMessages, RepresentsMessagesAfter, IsSlotOf, IsUntouched, AreValidWorkers}
use Rattle.st_workers.specs.UnderWay.{Found, UnderWay, found_in}
use Rattle.st_workers.specs.declared.turn.Turn.{Turn}
use Rattle.st_workers.proofs.Carried.{numbers_posted}
use Rattle.st_workers.proofs.Changed.{changed}
use Rattle.st_workers.proofs.Numbered.{posted_numbered}
use Rattle.st_workers.proofs.Seqs.{posted_seqs}
use Rattle.st_workers.proofs.Steps.{verdicts_kept, waiting_unturned}

-- the message of a number that has this head now; each other is unchanged
abbrev pub with_head : Head → ℕ → (ℕ → Message) → ℕ → Message
with_head head p messages q = record (messages q) { head = if p == q then Some head else (messages q).head }

-- a number is live now, and each other is unchanged
abbrev pub with_live : ℕ → (ℕ → Bool) → ℕ → Bool
with_live p alive q = if q == p then true else alive q

nothing_at : (specs : List ArgSpec) (j : ℕ) → part_at (map (λ (spec : ArgSpec). nothing_filled) specs) j ≡ nothing_filled
nothing_at [] j = refl
nothing_at (spec ∷ specs) zero = refl
nothing_at (spec ∷ specs) (suc j) = nothing_at specs j

-- a message for which nothing was done has a new slot
pub new_slot_of : (m : Message) (tid : ℕ) (head : kept.Head) → m.head ≡ Some (head_of tid head) → IsUntouched m → IsSlotOf m tid (new_slot head)
new_slot_of m tid head is untouched = record {
  head = is;
  count = length-map (args_of head.rule) (λ (spec : ArgSpec). nothing_filled);
  words = λ j. untouched.words j ∙ sym (ap (λ (f : Filled). f.words) (nothing_at (args_of head.rule) j));
  lookups = λ j. untouched.lookups j ∙ sym (ap (λ (f : Filled). f.lookups) (nothing_at (args_of head.rule) j));
}

pub head_other : (head : Head) (p : ℕ) (messages : ℕ → Message) (q : ℕ) → q ≢ p → with_head head p messages q ≡ messages q
head_other head p messages q ne =
    let e : (p == q) ≡ false = ne_eqb p q (λ x. ne (sym x)) in
    let m : Message = messages q in
    λ k. record { head = cond (e k) (Some head) m.head; claimed = m.claimed; words = m.words; lookups = m.lookups; fault = m.fault; answered = m.answered; closed = m.closed }

pub thread_other : (calls : HeldCalls) (tid seq other : ℕ) → other ≢ calls.next → thread_of_drawing (calls_after_post_as calls tid seq) other ≡ thread_of_drawing calls other
thread_other calls tid seq other ne = ap (option_map (λ (m : message.Message). m.tid)) (found_other calls.live calls.next seq tid other ne)

-- a number that is posted is found, and each other is unchanged
pub record IsPosted (old new : Found) (p tid : ℕ) (head : kept.Head) : Type 0 where
  pub next : new.next ≡ suc old.next
  pub state : new.state p ≡ Some Waiting
  pub thread : new.thread p ≡ Some tid
  pub slot : new.slot p ≡ Some (new_slot head)
  pub states : (q : ℕ) → q ≢ p → new.state q ≡ old.state q
  pub threads : (q : ℕ) → q ≢ p → new.thread q ≡ old.thread q
  pub slots : (q : ℕ) → q ≢ p → new.slot q ≡ old.slot q
  pub turn : (w : ℕ) → new.turn w ≡ old.turn w

module _ (old new : Found) (p tid : ℕ) (head : kept.Head) (is_posted : IsPosted old new p tid head) (messages : ℕ → Message) (turns : ℕ → Option ℕ) (alive later : ℕ → Bool) (posted : ℕ)
    (agrees : AgreesWithMachine messages turns alive posted old) (next_is : old.next ≡ p) (lives : ChangesLife alive p true later) where
  is_next : p ≡ suc posted
  is_next = sym next_is ∙ agrees.next

  untouched : IsUntouched (messages p)
  untouched = agrees.later p (let e = is_next in omega (arith, e))

  head_now : (with_head (head_of tid head) p messages p).head ≡ Some (head_of tid head)
  head_now = ap (λ (b : Bool). cond b (Some (head_of tid head)) (messages p).head) (eq-eqb p p refl)

  untouched_now : IsUntouched (with_head (head_of tid head) p messages p)
  untouched_now = record { come = record { claimed = untouched.come.claimed; fault = untouched.come.fault; answered = untouched.come.answered }; words = untouched.words; lookups = untouched.lookups }

  -- what is found agrees after a call is posted
  pub posted_agrees : AgreesWithMachine (with_head (head_of tid head) p messages) turns later (suc posted) new
  posted_agrees = changed messages (with_head (head_of tid head) p messages) turns turns alive later posted (suc posted) p 0 old new agrees (record {
    others = head_other (head_of tid head) p messages;
    lives = λ q ne. lives q ∙ ap (λ (b : Bool). cond b true (alive q)) (ne_eqb q p ne);
    state = is_posted.states;
    thread = is_posted.threads;
    slot = is_posted.slots;
    more = omega arith;
    within = let e = is_next in omega (arith, e);
    next = is_posted.next ∙ ap suc agrees.next;
    live = λ is. (
      let e = is_next in omega (arith, e),
      record {
        state = Waiting;
        tid = tid;
        slot = new_slot head;
        state_is = is_posted.state;
        thread_is = is_posted.thread;
        slot_is = is_posted.slot;
        is_state = untouched_now.come;
        is_slot = new_slot_of (with_head (head_of tid head) p messages p) tid head head_now untouched_now;
        is_sealed = λ claimed ready. absurd (true≢false (sym claimed ∙ untouched_now.come.claimed));
      },
    );
    dead = λ e. absurd (true≢false (sym (lives p ∙ ap (λ (b : Bool). cond b true (alive p)) (eq-eqb p p refl)) ∙ e));
    each = λ v. inl (record {
      same = refl;
      other = λ is. waiting_unturned (messages p) untouched.come (agrees.turned v p is);
      turn = λ s is. sym (is_posted.turn v) ∙ is;
    });
  })

pub not_answer : (v : Verdict) → Waiting ≡ Answered v → ⊥
not_answer v e = cc

module _ (old new : UnderWay) (tid : ℕ) (head : kept.Head) (calls : new.calls ≡ calls_after_post old.calls tid) (thread : thread_of_drawing new.calls old.calls.next ≡ Some tid)
    (states : ChangesState old.calls old.calls.next (Some Waiting) new.calls) (slots : ChangesSlot old.slots old.calls.next (Some (new_slot head)) new.slots) (turns_same : new.turns ≡ old.turns)
    (number : head.seq ≡ next_seq old.calls) (none : HasNoDrawing old.calls tid) (few : count_in_use old.calls ≤ most_in_use) where
  states_now : (q : ℕ) → q ≢ old.calls.next → message_state new.calls q ≡ message_state old.calls q
  states_now q ne = states q ∙ ap (λ (b : Bool). cond b (Some Waiting) (message_state old.calls q)) (ne_eqb q old.calls.next ne)

  state_now : message_state new.calls old.calls.next ≡ Some Waiting
  state_now = states old.calls.next ∙ ap (λ (b : Bool). cond b (Some Waiting) (message_state old.calls old.calls.next)) (eq-eqb old.calls.next old.calls.next refl)

  found_posted : (p : ℕ) → old.calls.next ≡ p → IsPosted (found_in old) (found_in new) p tid head
  found_posted p next_is =
      let apart : (q : ℕ) → q ≢ p → q ≢ old.calls.next = λ q ne e. ne (e ∙ next_is) in
      record {
        next = ap (λ (c : HeldCalls). c.next) calls;
        state = ap (message_state new.calls) (sym next_is) ∙ state_now;
        thread = ap (thread_of_drawing new.calls) (sym next_is) ∙ thread;
        slot = ap (slot_at new.slots) (sym next_is) ∙ slots old.calls.next ∙ ap (λ (b : Bool). cond b (Some (new_slot head)) (slot_at old.slots old.calls.next)) (eq-eqb old.calls.next old.calls.next refl);
        states = λ q ne. states_now q (apart q ne);
        threads = λ q ne. ap (λ (c : HeldCalls). thread_of_drawing c q) calls ∙ thread_other old.calls tid (next_seq old.calls) q (apart q ne);
        slots = λ q ne. slots q ∙ ap (λ (b : Bool). cond b (Some (new_slot head)) (slot_at old.slots q)) (ne_eqb q old.calls.next (apart q ne));
        turn = λ v. ap (λ (ts : List Turn). item_at_number ts v) turns_same;
      }

  workers_now : new.calls.workers ≡ old.calls.workers
  workers_now = ap (λ (c : HeldCalls). c.workers) calls

  -- each number that is kept is kept by a ready worker
  pub posted_stays : AreNumbered old → AreNumbered new
  posted_stays numbered = posted_numbered old new tid (next_seq old.calls) calls turns_same
      (subst AreValidCalls (sym calls) (whole-posted old.calls tid (next_seq old.calls) numbered.calls none (next_free old.calls numbered.calls few).0 (next_is_nobodys old.calls numbered.calls few) few))
      (posted_seqs old new tid (next_seq old.calls) head calls slots turns_same number numbered.calls numbered.seqs) numbered

  pub posted_numbers : AreNumbered old → CarriesNumbers (drawn_as largest_number old.calls.next) old.calls new.calls
  posted_numbers numbered numbers has = subst (HasNumbers (drawn_as largest_number old.calls.next numbers)) (sym calls) (numbers_posted old.calls numbered.calls tid numbers has)

  -- the messages and workers stay whole
  pub posted_whole : AreValidWorkers old → AreValidWorkers new
  posted_whole whole = record {
    count = ap (λ (ts : List Turn). length ts) turns_same ∙ whole.count ∙ sym workers_now;
    messages = with_head (head_of tid head) old.calls.next whole.messages;
    turns = whole.turns;
    alive = with_live old.calls.next whole.alive;
    posted = suc whole.posted;
    agrees = posted_agrees (found_in old) (found_in new) old.calls.next tid head (found_posted old.calls.next refl) whole.messages whole.turns whole.alive (with_live old.calls.next whole.alive) whole.posted whole.agrees refl (λ other. refl);
  }

  -- the messages and workers represent the state after the entry
  pub posted_kept : (i : Input) (st : State) (alive later : ℕ → Bool) (call : SysCall) (regs : List ℕ) → RepresentsMessages i st alive old → head_of tid head ≡ new_head i tid (st.threads tid).owner (st.processes (st.threads tid).owner) (st.versions (st.processes (st.threads tid).owner).policy) call regs
      → ChangesLife alive (suc st.posted) true later → RepresentsMessagesAfter i st (entry.Entered tid call regs (Held (suc st.posted))) later new
  posted_kept i st alive later call regs kept head_is lives =
      let its : Head = new_head i tid (st.threads tid).owner (st.processes (st.threads tid).owner) (st.versions (st.processes (st.threads tid).owner).policy) call regs in
      record {
        workers = workers_now ∙ kept.workers;
        numbered = posted_stays kept.numbered;
        agrees = subst (λ (h : Head). AgreesWithMachine (with_head h (suc st.posted) st.messages) st.turns later (suc st.posted) (found_in new)) head_is
            (posted_agrees (found_in old) (found_in new) (suc st.posted) tid head (found_posted (suc st.posted) kept.agrees.next) st.messages st.turns alive later st.posted kept.agrees kept.agrees.next lives);
        verdicts = verdicts_kept i st.messages (with_head its (suc st.posted) st.messages) old.calls new.calls (suc st.posted) (head_other its (suc st.posted) st.messages)
            (λ q ne. states_now q (λ e. ne (e ∙ kept.agrees.next)))
            (λ v s is copies. absurd (not_answer v (same_Some Waiting (Answered v) (sym (ap (message_state new.calls) (sym kept.agrees.next) ∙ state_now) ∙ is)))) kept.verdicts;
      }
