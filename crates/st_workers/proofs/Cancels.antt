-- The messages and workers agree with the law's machine after a number has ended.
use Rattle.std.proofs.Common.{◌≡◌, ◌≢◌, ◌↔◌, ℕ, ◌==◌, ◌&&◌, ◌||◌, not, Bool, true, false, cond, length, Option, Some, None, ◌⊎◌, inl, inr, refl, ap, sym, ◌∙◌, subst, arith}
use Rattle.std.specs.Prelude.{if◌then◌else◌, is_some}
use Rattle.std.specs.Option.{option_map}
use Rattle.std.proofs.lemmas.Bool.{cases_eq, eq-eqb, ne_eqb, true≢false}
use Rattle.std.proofs.lemmas.Option.{none-some, same_Some}
use Rattle.st_lookaside.specs.Slots.{slot_at, ChangesSlot}
use Rattle.st_messages.specs.declared.message.Message as message
use Rattle.st_messages.specs.declared.message.MsgState.{MsgState}
use Rattle.st_messages.specs.declared.message.MsgState.TheVariants.{Waiting, Claimed, Answered, Faulted}
use Rattle.st_messages.specs.Messages.{calls_after_cancel, is_live_drawing, message_of_drawing, message_state, thread_of_drawing, ChangesState, HeldCalls}
use Rattle.st_messages.proofs.Whole.{threads_cancelled}
use Rattle.st_law.specs.declared.input.Input.{Input}
use Rattle.st_law.specs.Numbers.{without_replaced}
use Rattle.st_law.specs.State.{is_ready, progress_of_message, Message}
use Rattle.st_workers.specs.Refinement.{at_work, AgreesWithMachine, RepresentsMachineMessages, ChangesLife, IsDead, IsLive, IsState, IsTurn, AreValidWorkers}
use Rattle.st_workers.specs.Leaving.{is_claimed_by, is_claimer_ready, is_ready_turn, left, HasLeft}
use Rattle.st_workers.specs.Numbers.{AreNumbered, AreReady, CarriesNumbers, HasNumbers, IsReadyWith, KeepsNumbers}
use Rattle.st_workers.specs.UnderWay.{found_in, turn_of_worker, Found, UnderWay}
use Rattle.st_workers.specs.declared.turn.Turn.{Turn}
use Rattle.st_workers.specs.declared.turn.Turn.TheVariants.{Idle, Ready, Working}
use Rattle.st_workers.proofs.Carried.{numbers_cancelled}
use Rattle.st_workers.proofs.Changed.{changed, Moves, Stays}
use Rattle.st_workers.proofs.Claims.{idle_at_none, live_by_state}
use Rattle.st_workers.proofs.Numbered.{cancelled_numbered, left_turn, ready_left}
use Rattle.st_workers.proofs.Seqs.{cancelled_seqs}
use Rattle.st_workers.proofs.Steps.{turned_state, verdicts_kept}

-- a number that was live has ended, its worker has left it, and each other is unchanged
pub record IsEnded (old new : Found) (p : ℕ) : Type 0 where
  pub next : new.next ≡ old.next
  pub dead : IsDead p new
  pub states : (q : ℕ) → q ≢ p → new.state q ≡ old.state q
  pub threads : (q : ℕ) → q ≢ p → new.thread q ≡ old.thread q
  pub slots : (q : ℕ) → q ≢ p → new.slot q ≡ old.slot q
  pub turn : (w : ℕ) → new.turn w ≡ cond (is_claimed_by (old.state p) w) (left (old.turn w)) (old.turn w)

-- a number is no longer live, and each other is unchanged
abbrev pub without_live : ℕ → (ℕ → Bool) → ℕ → Bool
without_live p alive q = if q == p then false else alive q

module _ (old new : Found) (p : ℕ) (ended : IsEnded old new p) (messages : ℕ → Message) (turns : ℕ → Option ℕ) (alive later : ℕ → Bool) (posted : ℕ)
    (agrees : AgreesWithMachine messages turns alive posted old) (live : alive p ≡ true) (lives : ChangesLife alive p false later) where
  was : IsLive turns p (messages p) old
  was = agrees.live p live

  dead_then : later p ≡ false
  dead_then = lives p ∙ ap (λ (b : Bool). cond b false (alive p)) (eq-eqb p p refl)

  turn_then : (state : MsgState) → old.state p ≡ Some state → (w : ℕ) → new.turn w ≡ cond (is_claimed_by (Some state) w) (left (old.turn w)) (old.turn w)
  turn_then state is w = ended.turn w ∙ ap (λ (o : Option MsgState). cond (is_claimed_by o w) (left (old.turn w)) (old.turn w)) is

  -- ---- the worker whose turn it is

  module _ (w : ℕ) (turned : turns w ≡ Some p) where
    at_idle : (q : ℕ) → IsTurn messages alive (turns w) (Working q) → at_work messages later (turns w) ≡ None
    at_idle q at =
        let e : q ≡ p = same_Some q p (sym at.0 ∙ turned) in
        ap (at_work messages later) turned
        ∙ ap (λ (b : Bool). cond (b || is_ready (progress_of_message (messages p))) (Some p) None) dead_then
        ∙ ap (λ (b : Bool). cond b (Some p) None) (ap (λ (n : ℕ). is_ready (progress_of_message (messages n))) (sym e) ∙ at.2)

    turn_left : (o : Option Turn) → old.turn w ≡ o → (t : Turn) → left o ≡ Some t → IsTurn messages later (turns w) t
    turn_left None o_is t is = absurd (none-some t is)
    turn_left (Some Idle) o_is t is = absurd (idle_at_none messages alive (turns w) p (agrees.workers w Idle o_is) turned live)
    turn_left (Some (Working q)) o_is t is = subst (IsTurn messages later (turns w)) (same_Some Idle t is) (at_idle q (agrees.workers w (Working q) o_is))
    turn_left (Some (Ready q s)) o_is t is = subst (IsTurn messages later (turns w)) (same_Some (Ready q s) t is) (agrees.workers w (Ready q s) o_is)

    each_claimed : old.state p ≡ Some (Claimed w) → (v : ℕ) → Stays turns turns p old new v ⊎ Moves turns turns messages alive later p w new v
    each_claimed state_is v = elim (cases_eq v w) [
      | inl e ↦ inr (record {
        is = e;
        from = λ q is lives_q. same_Some q p (sym is ∙ ap turns e ∙ turned);
        onto = λ q is. same_Some q p (sym is ∙ ap turns e ∙ turned);
        come = λ is. agrees.turned v p is;
        turn = λ t is.
            let now : new.turn w ≡ left (old.turn w) = turn_then (Claimed w) state_is w ∙ ap (λ (b : Bool). cond b (left (old.turn w)) (old.turn w)) (eq-eqb w w refl) in
            subst (λ (n : ℕ). IsTurn messages later (turns n) t) (sym e) (turn_left (old.turn w) refl t (sym now ∙ ap new.turn (sym e) ∙ is));
      })
      | inr ne ↦ inl (record {
        same = refl;
        other = λ is. ne (agrees.apart v w p is turned);
        turn = λ t is. sym (turn_then (Claimed w) state_is v ∙ ap (λ (b : Bool). cond b (left (old.turn v)) (old.turn v)) (ne_eqb w v (λ e. ne (sym e)))) ∙ is;
      })
    ]

  -- ---- it is no worker's turn

  each_other : (state : MsgState) → old.state p ≡ Some state → IsState turns p (messages p) state → ((w : ℕ) → state ≡ Claimed w → ⊥) → ((v : ℕ) → is_claimed_by (Some state) v ≡ false) → (v : ℕ) → Stays turns turns p old new v ⊎ Moves turns turns messages alive later p 0 new v
  each_other state state_is is unclaimed none v = inl (record {
    same = refl;
    other = λ turned. let claimed = turned_state turns p (messages p) state (agrees.turned v p turned) is in unclaimed claimed.0 claimed.1;
    turn = λ t found. sym (turn_then state state_is v ∙ ap (λ (b : Bool). cond b (left (old.turn v)) (old.turn v)) (none v)) ∙ found;
  })

  each_by : (state : MsgState) → old.state p ≡ Some state → IsState turns p (messages p) state → (worker : ℕ) × ((v : ℕ) → Stays turns turns p old new v ⊎ Moves turns turns messages alive later p worker new v)
  each_by Waiting state_is is = (0, each_other Waiting state_is is (λ w e. cc) (λ v. refl))
  each_by (Claimed w) state_is is = (w, each_claimed w is.1 state_is)
  each_by (Answered x) state_is is = (0, each_other (Answered x) state_is is (λ w e. cc) (λ v. refl))
  each_by (Faulted errno) state_is is = (0, each_other (Faulted errno) state_is is (λ w e. cc) (λ v. refl))

  -- what is found agrees after the number has ended
  pub ended_agrees : AgreesWithMachine messages turns later posted new
  ended_agrees =
      let each = each_by was.state was.state_is was.is_state in
      changed messages messages turns turns alive later posted posted p each.0 old new agrees (record {
        others = λ q ne. refl;
        lives = λ q ne. lives q ∙ ap (λ (b : Bool). cond b false (alive q)) (ne_eqb q p ne);
        state = ended.states;
        thread = ended.threads;
        slot = ended.slots;
        more = omega arith;
        within = (agrees.given p live).1;
        next = ended.next ∙ agrees.next;
        live = λ is. absurd (true≢false (sym is ∙ dead_then));
        dead = λ none. ended.dead;
        each = each.1;
      })

-- ---- a live number

-- a live number has a message
pub live_message : (calls : HeldCalls) (q : ℕ) → is_live_drawing calls q ≡ true → (m : message.Message) × (message_of_drawing calls q ≡ Some m)
live_message calls q is = by (message_of_drawing calls q) is where
  by : (o : Option message.Message) → is_some o ≡ true → (m : message.Message) × (o ≡ Some m)
  by None is = absurd (true≢false (sym is))
  by (Some m) is = (m, refl)

-- two tests of the same are the same
pub same_answer : (a b : Bool) (P : Type 0) → (a ≡ true) ↔ P → (b ≡ true) ↔ P → a ≡ b
same_answer true true P a_is b_is = refl
same_answer false false P a_is b_is = refl
same_answer true false P a_is b_is = sym (b_is.1 (a_is.0 refl))
same_answer false true P a_is b_is = a_is.1 (b_is.0 refl)

-- a number that is live here is live in the law's machine
pub live_there : (messages : ℕ → Message) (turns : ℕ → Option ℕ) (alive : ℕ → Bool) (posted : ℕ) (kept : UnderWay) → AgreesWithMachine messages turns alive posted (found_in kept) → (q : ℕ) → is_live_drawing kept.calls q ≡ true → alive q ≡ true
live_there messages turns alive posted kept agrees q is =
    let m = live_message kept.calls q is in
    live_by_state messages turns alive posted (found_in kept) agrees q m.0.state (ap (option_map (λ (x : message.Message). x.state)) m.1) (alive q) refl

module _ (messages : ℕ → Message) (turns : ℕ → Option ℕ) (alive : ℕ → Bool) (posted : ℕ) (kept : UnderWay) (agrees : AgreesWithMachine messages turns alive posted (found_in kept)) (p : ℕ) (live : alive p ≡ true) where
  -- the worker that claimed a message is ready with it, or goes on
  ready_turn : (w : ℕ) (o : Option Turn) → turn_of_worker kept w ≡ o → turns w ≡ Some p → is_ready_turn o ≡ true → IsReadyWith kept p
  ready_turn w None o_is turned ready = absurd (true≢false (sym ready))
  ready_turn w (Some Idle) o_is turned ready = absurd (true≢false (sym ready))
  ready_turn w (Some (Working q)) o_is turned ready = absurd (true≢false (sym ready))
  ready_turn w (Some (Ready q s)) o_is turned ready =
      let at : IsTurn messages alive (turns w) (Ready q s) = agrees.workers w (Ready q s) o_is in
      (w, s, o_is ∙ ap (λ (n : ℕ). Some (Ready n s)) (same_Some q p (sym at.0 ∙ turned)))

  claimer_is : (state : MsgState) → IsState turns p (messages p) state → is_claimer_ready kept.turns (Some state) ≡ true → IsReadyWith kept p
  claimer_is Waiting is ready = absurd (true≢false (sym ready))
  claimer_is (Claimed w) is ready = ready_turn w (turn_of_worker kept w) refl is.1 ready
  claimer_is (Answered x) is ready = absurd (true≢false (sym ready))
  claimer_is (Faulted errno) is ready = absurd (true≢false (sym ready))

  claimer_found : IsReadyWith kept p → is_claimer_ready kept.turns (message_state kept.calls p) ≡ true
  claimer_found it =
      let at : IsTurn messages alive (turns it.0) (Ready p it.1) = agrees.workers it.0 (Ready p it.1) it.2 in
      let was : IsLive turns p (messages p) (found_in kept) = agrees.live p live in
      let claimed = turned_state turns p (messages p) was.state (agrees.turned it.0 p at.0) was.is_state in
      ap (is_claimer_ready kept.turns) (was.state_is ∙ ap Some (claimed.1 ∙ ap Claimed (agrees.apart claimed.0 it.0 p claimed.2 at.0))) ∙ ap is_ready_turn it.2

  pub claimer_ready : (keeps : Bool) → keeps ≡ is_claimer_ready kept.turns (message_state kept.calls p) → (keeps ≡ true) ↔ IsReadyWith kept p
  claimer_ready keeps is =
      let was : IsLive turns p (messages p) (found_in kept) = agrees.live p live in
      (λ e. claimer_is was.state was.is_state (sym (is ∙ ap (is_claimer_ready kept.turns) was.state_is) ∙ e), λ it. is ∙ claimer_found it)

module _ (old new : UnderWay) (p : ℕ) (keeps : Bool) (here : is_live_drawing old.calls p ≡ true) (calls : new.calls ≡ calls_after_cancel old.calls p keeps) (states : ChangesState old.calls p None new.calls) (slots : ChangesSlot old.slots p None new.slots)
    (turns_left : HasLeft old.turns (message_state old.calls p) new.turns) (count : length new.turns ≡ length old.turns) (keeps_is : keeps ≡ is_claimer_ready old.turns (message_state old.calls p)) where
  states_now : (q : ℕ) → q ≢ p → message_state new.calls q ≡ message_state old.calls q
  states_now q ne = states q ∙ ap (λ (b : Bool). cond b None (message_state old.calls q)) (ne_eqb q p ne)

  state_now : message_state new.calls p ≡ None
  state_now = states p ∙ ap (λ (b : Bool). cond b None (message_state old.calls p)) (eq-eqb p p refl)

  threads_now : (q : ℕ) → thread_of_drawing new.calls q ≡ cond (q == p) None (thread_of_drawing old.calls q)
  threads_now q = ap (λ (c : HeldCalls). thread_of_drawing c q) calls ∙ threads_cancelled old.calls p keeps q

  cancelled : IsEnded (found_in old) (found_in new) p
  cancelled = record {
    next = ap (λ (c : HeldCalls). c.next) calls;
    dead = record {
      state = state_now;
      thread = threads_now p ∙ ap (λ (b : Bool). cond b None (thread_of_drawing old.calls p)) (eq-eqb p p refl);
      slot = slots p ∙ ap (λ (b : Bool). cond b None (slot_at old.slots p)) (eq-eqb p p refl);
    };
    states = states_now;
    threads = λ q ne. threads_now q ∙ ap (λ (b : Bool). cond b None (thread_of_drawing old.calls q)) (ne_eqb q p ne);
    slots = λ q ne. slots q ∙ ap (λ (b : Bool). cond b None (slot_at old.slots q)) (ne_eqb q p ne);
    turn = turns_left;
  }

  workers_now : new.calls.workers ≡ old.calls.workers
  workers_now = ap (λ (c : HeldCalls). c.workers) calls

  pub cancelled_ready : (q : ℕ) → IsReadyWith new q ↔ IsReadyWith old q
  cancelled_ready = ready_left old new (message_state old.calls p) turns_left

  module _ (messages : ℕ → Message) (turns : ℕ → Option ℕ) (alive : ℕ → Bool) (posted : ℕ) (agrees : AgreesWithMachine messages turns alive posted (found_in old)) where
    -- each number that is kept is kept by a ready worker
    left_numbered : AreNumbered old → AreNumbered new
    left_numbered numbered =
        let m = live_message old.calls p here in
        let keeps_iff = claimer_ready messages turns alive posted old agrees p (live_there messages turns alive posted old agrees p here) keeps keeps_is in
        cancelled_numbered old new p keeps m.0 m.1 calls states_now count cancelled_ready keeps_iff
        (cancelled_seqs old new p keeps m.0 numbered.calls m.1 calls slots (left_turn old new (message_state old.calls p) turns_left) keeps_iff.1 numbered.seqs) numbered

    left_numbers : AreNumbered old → (ready : ℕ → Bool) → AreReady ready old → CarriesNumbers (without_replaced ready p) old.calls new.calls
    left_numbers numbered ready are numbers has =
        let m = live_message old.calls p here in
        let says : keeps ≡ ready p = same_answer keeps (ready p) (IsReadyWith old p) (claimer_ready messages turns alive posted old agrees p (live_there messages turns alive posted old agrees p here) keeps keeps_is) (are p) in
        subst (HasNumbers (without_replaced ready p numbers)) (sym calls) (numbers_cancelled old.calls numbered.calls p keeps ready says m.0 m.1 numbers has)

  -- the same numbers are in use as before, or fewer
  pub cancelled_fewer : AreNumbered old → KeepsNumbers old.calls new.calls
  cancelled_fewer numbered numbers has =
      let m = live_message old.calls p here in (
        (λ q. numbers.in_use q && (not (q == p) || keeps)),
        subst (HasNumbers (without_replaced (λ q. keeps) p numbers)) (sym calls) (numbers_cancelled old.calls numbered.calls p keeps (λ q. keeps) refl m.0 m.1 numbers has),
      )

  pub cancelled_numbers : AreValidWorkers old → AreNumbered old → (ready : ℕ → Bool) → AreReady ready old → CarriesNumbers (without_replaced ready p) old.calls new.calls
  cancelled_numbers whole = left_numbers whole.messages whole.turns whole.alive whole.posted whole.agrees

  pub cancelled_stays : AreValidWorkers old → AreNumbered old → AreNumbered new
  cancelled_stays whole = left_numbered whole.messages whole.turns whole.alive whole.posted whole.agrees

  pub cancelled_whole : AreValidWorkers old → AreValidWorkers new
  cancelled_whole whole = record {
    count = count ∙ whole.count ∙ sym workers_now;
    messages = whole.messages;
    turns = whole.turns;
    alive = without_live p whole.alive;
    posted = whole.posted;
    agrees = ended_agrees (found_in old) (found_in new) p cancelled whole.messages whole.turns whole.alive (without_live p whole.alive) whole.posted whole.agrees
        (live_there whole.messages whole.turns whole.alive whole.posted old whole.agrees p here) (λ other. refl);
  }

  pub cancelled_kept : (i : Input) (messages : ℕ → Message) (turns : ℕ → Option ℕ) (alive later : ℕ → Bool) (posted : ℕ) → RepresentsMachineMessages i messages turns alive posted old → ChangesLife alive p false later → RepresentsMachineMessages i messages turns later posted new
  cancelled_kept i messages turns alive later posted kept lives = record {
    workers = workers_now ∙ kept.workers;
    numbered = left_numbered messages turns alive posted kept.agrees kept.numbered;
    agrees = ended_agrees (found_in old) (found_in new) p cancelled messages turns alive later posted kept.agrees (live_there messages turns alive posted old kept.agrees p here) lives;
    verdicts = verdicts_kept i messages messages old.calls new.calls p (λ q ne. refl) states_now (λ v s is copies. absurd (none-some (Answered v) (sym state_now ∙ is))) kept.verdicts;
  }
