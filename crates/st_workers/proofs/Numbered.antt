-- The held calls stay valid, and the numbers that are kept stay those of the ended messages that some worker is ready with.
use Rattle.std.proofs.Common.{◌≡◌, ◌≢◌, ◌↔◌, ◌-◌, ℕ, ◌==◌, ◌||◌, Bool, true, false, cond, ◌++◌, List, set, Option, Some, None, inl, inr, refl, ap, sym, ◌∙◌, subst, arith, length}
use Rattle.std.proofs.lemmas.Bool.{cases_eq, eq-eqb, ne_eqb, true≢false}
use Rattle.std.proofs.lemmas.List.{length-set}
use Rattle.std.proofs.lemmas.Option.{none-some, same_Some}
use Rattle.std.specs.Option.{option_map, option_or}
use Rattle.std.specs.Prelude.{is_some}
use Rattle.st_base.specs.Numbered.{item_at_number}
use Rattle.st_calls.specs.declared.judged.Snapshot.{Snapshot}
use Rattle.st_lookaside.specs.Slot.{Slot}
use Rattle.st_messages.specs.declared.kept.KeptNumber.{KeptNumber}
use Rattle.st_messages.specs.declared.message.Message as message
use Rattle.st_messages.specs.declared.message.MsgState.{MsgState}
use Rattle.st_messages.specs.Messages.{calls_after_cancel, calls_after_post_as, is_kept, is_live_drawing, kept_in, kept_of_message, message_of_drawing, message_state, seq_left, seq_of, waiting_message, AreValidCalls, HeldCalls}
use Rattle.st_messages.proofs.Lookups.{found_other, found_posted}
use Rattle.st_messages.proofs.Ordered.{found_below}
use Rattle.st_messages.proofs.Seqs.{kept_seq, left_there, seq_in, seqs_cancelled}
use Rattle.st_messages.proofs.Whole.{has_ended, next_none, whole-cancelled}
use Rattle.st_workers.specs.Filling.{AreSame, IsTurnFor}
use Rattle.st_workers.specs.Leaving.{is_claimed_by, left, HasLeft}
use Rattle.st_workers.specs.Numbers.{AreNumbered, HaveSeqs, IsReadyWith}
use Rattle.st_workers.specs.UnderWay.{turn_of_worker, UnderWay}
use Rattle.st_workers.specs.declared.turn.Turn.{Turn}
use Rattle.st_workers.specs.declared.turn.Turn.TheVariants.{Idle, Ready, Working}
use Rattle.st_workers.proofs.Seqs.{same_seqs}
use Rattle.st_workers.proofs.Turns.{item_put, number_within}

-- ---- which drawings are live and which are kept

state_some : (o : Option message.Message) → is_some (option_map (λ (m : message.Message). m.state) o) ≡ is_some o
state_some None = refl
state_some (Some m) = refl

-- a drawing that has the same state is live as before
pub same_life : (old new : HeldCalls) (q : ℕ) → message_state new q ≡ message_state old q → is_live_drawing new q ≡ is_live_drawing old q
same_life old new q same = sym (state_some (message_of_drawing new q)) ∙ ap (λ (o : Option MsgState). is_some o) same ∙ state_some (message_of_drawing old q)

-- a drawing whose number is only kept isn't live
pub kept_dead : (calls : HeldCalls) (q : ℕ) → AreValidCalls calls → is_kept calls q ≡ true → is_live_drawing calls q ≡ false
kept_dead calls q valid kept = ap (λ (o : Option message.Message). is_some o) (valid.ended q kept).1

used_by : (o : Option message.Message) (p : Option KeptNumber) → is_some (option_or (seq_in o) (kept_seq p)) ≡ (is_some o || is_some p)
used_by (Some m) p = refl
used_by None (Some k) = refl
used_by None None = refl

-- a drawing has a number if it is live or kept
pub live_or_kept : (calls : HeldCalls) (q : ℕ) → is_some (seq_of calls q) ≡ (is_live_drawing calls q || is_kept calls q)
live_or_kept calls q = used_by (message_of_drawing calls q) (kept_in calls.kept q)

-- a live drawing has a number
pub live_has_seq : (calls : HeldCalls) (q : ℕ) → is_live_drawing calls q ≡ true → is_some (seq_of calls q) ≡ true
live_has_seq calls q live = live_or_kept calls q ∙ ap (λ (b : Bool). b || is_kept calls q) live

-- ---- one drawing changes

-- what is kept, live and ready is unchanged for each other drawing, and this one is kept if it has ended and some worker is ready with it
pub record KeepsOthers (old new : UnderWay) (p : ℕ) : Type 0 where
  pub kept : (q : ℕ) → q ≢ p → is_kept new.calls q ≡ is_kept old.calls q
  pub live : (q : ℕ) → q ≢ p → is_live_drawing new.calls q ≡ is_live_drawing old.calls q
  pub ready : (q : ℕ) → q ≢ p → IsReadyWith new q → IsReadyWith old q
  pub still : (q : ℕ) → q ≢ p → IsReadyWith old q → IsReadyWith new q
  pub its_ready : is_kept new.calls p ≡ true → IsReadyWith new p
  pub its_kept : IsReadyWith new p → is_live_drawing new.calls p ≡ false → is_kept new.calls p ≡ true

pub numbered_by : (old new : UnderWay) (p : ℕ) → length new.turns ≡ new.calls.workers → AreValidCalls new.calls → KeepsOthers old new p → HaveSeqs new → AreNumbered old → AreNumbered new
numbered_by old new p count valid same seqs numbered = record {
  count = count;
  calls = valid;
  seqs = seqs;
  ready = λ q kept. elim (cases_eq q p) [
    | inl e ↦ subst (IsReadyWith new) (sym e) (same.its_ready (ap (is_kept new.calls) (sym e) ∙ kept))
    | inr ne ↦ same.still q ne (numbered.ready q (sym (same.kept q ne) ∙ kept))
  ];
  ended = λ q ready dead. elim (cases_eq q p) [
    | inl e ↦ ap (is_kept new.calls) e ∙ same.its_kept (subst (IsReadyWith new) e ready) (ap (is_live_drawing new.calls) (sym e) ∙ dead)
    | inr ne ↦ same.kept q ne ∙ numbered.ended q (same.ready q ne ready) (sym (same.live q ne) ∙ dead)
  ];
}

-- nothing changes
pub same_numbered : (old new : UnderWay) → new.calls ≡ old.calls → AreSame old.slots new.slots → new.turns ≡ old.turns → AreNumbered old → AreNumbered new
same_numbered old new calls slots turns numbered = record {
  count = ap (λ (ts : List Turn). length ts) turns ∙ numbered.count ∙ sym (ap (λ (c : HeldCalls). c.workers) calls);
  calls = subst AreValidCalls (sym calls) numbered.calls;
  seqs = same_seqs old new calls slots turns numbered.seqs;
  ready = λ q kept. (let its = numbered.ready q (sym (ap (λ (c : HeldCalls). is_kept c q) calls) ∙ kept) in (its.0, its.1, ap (λ (ts : List Turn). item_at_number ts its.0) turns ∙ its.2));
  ended = λ q ready dead.
      ap (λ (c : HeldCalls). is_kept c q) calls
      ∙ numbered.ended q (ready.0, ready.1, sym (ap (λ (ts : List Turn). item_at_number ts ready.0) turns) ∙ ready.2) (sym (ap (λ (c : HeldCalls). is_live_drawing c q) calls) ∙ dead);
}

-- ---- the turn of one worker changes

pub same_ready : (a b : ℕ) (s t : Snapshot) → Ready a s ≡ Ready b t → a ≡ b
same_ready a b s t e = cc

-- the turn by the slot of a drawing is to answer this drawing, if any
pub its_drawing : (p : ℕ) (slot : Slot) (t : Turn) → IsTurnFor p slot t → (q : ℕ) (s : Snapshot) → t ≡ Ready q s → q ≡ p
its_drawing p slot Idle turn q s e = absurd turn
its_drawing p slot (Working x) turn q s e = cc
its_drawing p slot (Ready x y) turn q s e = sym (same_ready x q y s e) ∙ turn.0

pub idle_no_drawing : (p q : ℕ) (s : Snapshot) → Idle ≡ Ready q s → q ≡ p
idle_no_drawing p q s e = cc

pub working_no_drawing : (x p q : ℕ) (s : Snapshot) → Working x ≡ Ready q s → q ≡ p
working_no_drawing x p q s e = cc

module _ (old new : UnderWay) (w p : ℕ) (was t : Turn) (here : turn_of_worker old w ≡ Some was) (its_was : (q : ℕ) (s : Snapshot) → was ≡ Ready q s → q ≡ p) (its : (q : ℕ) (s : Snapshot) → t ≡ Ready q s → q ≡ p)
    (put : new.turns ≡ set old.turns (w - 1) t) where
  pub turn_put : (v : ℕ) → turn_of_worker new v ≡ cond (v == w) (Some t) (turn_of_worker old v)
  turn_put v = let within = number_within old.turns w was here in ap (λ (ts : List Turn). item_at_number ts v) put ∙ item_put old.turns w t within.0 within.1 v

  pub turn_other : (v : ℕ) → v ≢ w → turn_of_worker new v ≡ turn_of_worker old v
  turn_other v other = turn_put v ∙ ap (λ (b : Bool). cond b (Some t) (turn_of_worker old v)) (ne_eqb v w other)

  pub turn_same : (v : ℕ) → v ≡ w → turn_of_worker new v ≡ Some t
  turn_same v e = turn_put v ∙ ap (λ (b : Bool). cond b (Some t) (turn_of_worker old v)) (eq-eqb v w e)

  pub ready_before : (q : ℕ) → q ≢ p → IsReadyWith new q → IsReadyWith old q
  ready_before q ne is = elim (cases_eq is.0 w) [
    | inl e ↦ absurd (ne (its q is.1 (same_Some t (Ready q is.1) (sym (turn_same is.0 e) ∙ is.2))))
    | inr other ↦ (is.0, is.1, sym (turn_other is.0 other) ∙ is.2)
  ]

  pub ready_still : (q : ℕ) → q ≢ p → IsReadyWith old q → IsReadyWith new q
  ready_still q ne is = elim (cases_eq is.0 w) [
    | inl e ↦ absurd (ne (its_was q is.1 (same_Some was (Ready q is.1) (sym here ∙ ap (turn_of_worker old) (sym e) ∙ is.2))))
    | inr other ↦ (is.0, is.1, turn_other is.0 other ∙ is.2)
  ]

  pub put_count : new.calls.workers ≡ old.calls.workers → length old.turns ≡ old.calls.workers → length new.turns ≡ new.calls.workers
  put_count workers count = ap (λ (ts : List Turn). length ts) put ∙ length-set old.turns (w - 1) t ∙ count ∙ sym workers

  -- a worker's step at a live drawing
  pub worked : is_live_drawing new.calls p ≡ true → ((q : ℕ) → is_kept new.calls q ≡ is_kept old.calls q) → ((q : ℕ) → q ≢ p → is_live_drawing new.calls q ≡ is_live_drawing old.calls q) → new.calls.workers ≡ old.calls.workers → AreValidCalls new.calls → HaveSeqs new → AreNumbered old → AreNumbered new
  worked live kept lives workers valid seqs numbered = numbered_by old new p (put_count workers numbered.count) valid (record {
    kept = λ q ne. kept q;
    live = lives;
    ready = ready_before;
    still = ready_still;
    its_ready = λ is. absurd (true≢false (sym live ∙ kept_dead new.calls p valid is));
    its_kept = λ ready dead. absurd (true≢false (sym live ∙ dead));
  }) seqs numbered

-- ---- a message is posted

module _ (old new : UnderWay) (tid seq : ℕ) (calls : new.calls ≡ calls_after_post_as old.calls tid seq) (turns : new.turns ≡ old.turns) (valid : AreValidCalls new.calls) where
  pub posted_numbered : HaveSeqs new → AreNumbered old → AreNumbered new
  posted_numbered seqs numbered =
      let next : ℕ = old.calls.next in
      numbered_by old new next (ap (λ (ts : List Turn). length ts) turns ∙ numbered.count ∙ sym (ap (λ (c : HeldCalls). c.workers) calls)) valid (record {
        kept = λ q ne. ap (λ (c : HeldCalls). is_kept c q) calls;
        live = λ q ne. ap (λ (c : HeldCalls). is_live_drawing c q) calls ∙ ap (λ (o : Option message.Message). is_some o) (found_other old.calls.live next seq tid q ne);
        ready = λ q ne is. (is.0, is.1, sym (ap (λ (ts : List Turn). item_at_number ts is.0) turns) ∙ is.2);
        still = λ q ne is. (is.0, is.1, ap (λ (ts : List Turn). item_at_number ts is.0) turns ∙ is.2);
        its_ready = λ is. (let ended = (numbered.calls.ended next (sym (ap (λ (c : HeldCalls). is_kept c next) calls) ∙ is)).0 in absurd (omega (arith, ended)));
        its_kept = λ ready dead. absurd (true≢false (sym (
            ap (λ (c : HeldCalls). is_live_drawing c next) calls
            ∙ ap (λ (o : Option message.Message). is_some o) (found_posted old.calls.live next seq tid next (next_none old.calls numbered.calls))
            ∙ ap (λ (b : Bool). is_some (cond b (Some (waiting_message next seq tid)) (message_of_drawing old.calls next))) (eq-eqb next next refl)
            ) ∙ dead));
      }) seqs numbered

-- ---- a message ends

left_ready : (o : Option Turn) (q : ℕ) (s : Snapshot) → left o ≡ Some (Ready q s) → o ≡ Some (Ready q s)
left_ready None q s e = absurd (none-some (Ready q s) e)
left_ready (Some Idle) q s e = e
left_ready (Some (Working drawing)) q s e = absurd (unlike (same_Some Idle (Ready q s) e)) where
  unlike : Idle ≡ Ready q s → ⊥
  unlike f = cc
left_ready (Some (Ready p copies)) q s e = e

-- a worker that is ready after another has left a message was ready before
pub left_turn : (old new : UnderWay) (state : Option MsgState) → HasLeft old.turns state new.turns → (w q : ℕ) (s : Snapshot) → turn_of_worker new w ≡ Some (Ready q s) → turn_of_worker old w ≡ Some (Ready q s)
left_turn old new state turns_left w q s is = before (is_claimed_by state w) (turn_of_worker old w) (sym (turns_left w) ∙ is) where
  before : (b : Bool) (o : Option Turn) → cond b (left o) o ≡ Some (Ready q s) → o ≡ Some (Ready q s)
  before true o e = left_ready o q s e
  before false o e = e

-- who is ready stays ready when a worker leaves a message
pub ready_left : (old new : UnderWay) (state : Option MsgState) → HasLeft old.turns state new.turns → (q : ℕ) → IsReadyWith new q ↔ IsReadyWith old q
ready_left old new state turns_left q = (
  λ is. (is.0, is.1, left_turn old new state turns_left is.0 q is.1 is.2),
  λ is. (is.0, is.1, turns_left is.0 ∙ still (is_claimed_by state is.0) (turn_of_worker old is.0) is.1 is.2),
) where
  still : (b : Bool) (o : Option Turn) (s : Snapshot) → o ≡ Some (Ready q s) → cond b (left o) o ≡ Some (Ready q s)
  still true o s e = ap left e
  still false o s e = e

module _ (calls : HeldCalls) (p : ℕ) (keeps : Bool) (m : message.Message) (valid : AreValidCalls calls) (is : message_of_drawing calls p ≡ Some m) where
  abbrev ended : HeldCalls
  ended = calls_after_cancel calls p keeps

  pub ended_dead : is_live_drawing ended p ≡ false
  ended_dead = ap (λ (o : Option message.Message). is_some o) (has_ended calls p keeps (found_below calls.live 1 calls.next p m valid.ordered is)).1

  -- each other drawing is kept as before
  pub kept_other : (q : ℕ) → q ≢ p → is_kept ended q ≡ is_kept calls q
  kept_other q ne = ap (λ (o : Option message.Message). is_some (kept_in (calls.kept ++ kept_of_message keeps o) q)) is ∙ ap (λ (o : Option KeptNumber). is_some o) (left_there calls p keeps m valid is q ne)

  some_left : (b : Bool) → keeps ≡ b → is_some (seq_left calls p keeps) ≡ keeps
  some_left false e = rw e refl
  some_left true e = rw e (ap (λ (o : Option message.Message). is_some (option_or (seq_in o) (kept_seq (kept_in calls.kept p)))) is)

  -- the drawing that has ended is kept if it is said
  pub kept_now : is_kept ended p ≡ keeps
  kept_now =
      sym (live_or_kept ended p ∙ ap (λ (b : Bool). b || is_kept ended p) ended_dead)
      ∙ ap (λ (o : Option ℕ). is_some o) (seqs_cancelled calls p keeps m valid is p ∙ ap (λ (b : Bool). cond b (seq_left calls p keeps) (seq_of calls p)) (eq-eqb p p refl))
      ∙ some_left keeps refl

module _ (old new : UnderWay) (p : ℕ) (keeps : Bool) (m : message.Message) (is : message_of_drawing old.calls p ≡ Some m) (calls : new.calls ≡ calls_after_cancel old.calls p keeps) (states : (q : ℕ) → q ≢ p → message_state new.calls q ≡ message_state old.calls q)
    (count : length new.turns ≡ length old.turns) (ready : (q : ℕ) → IsReadyWith new q ↔ IsReadyWith old q) (keeps_is : (keeps ≡ true) ↔ IsReadyWith old p) where
  pub cancelled_numbered : HaveSeqs new → AreNumbered old → AreNumbered new
  cancelled_numbered seqs numbered =
      let now : is_kept new.calls p ≡ keeps = ap (λ (c : HeldCalls). is_kept c p) calls ∙ kept_now old.calls p keeps m numbered.calls is in
      numbered_by old new p (count ∙ numbered.count ∙ sym (ap (λ (c : HeldCalls). c.workers) calls)) (subst AreValidCalls (sym calls) (whole-cancelled old.calls p keeps m numbered.calls is)) (record {
        kept = λ q ne. ap (λ (c : HeldCalls). is_kept c q) calls ∙ kept_other old.calls p keeps m numbered.calls is q ne;
        live = λ q ne. same_life old.calls new.calls q (states q ne);
        ready = λ q ne. (ready q).0;
        still = λ q ne. (ready q).1;
        its_ready = λ kept. (ready p).1 (keeps_is.0 (sym now ∙ kept));
        its_kept = λ at dead. now ∙ keeps_is.1 ((ready p).0 at);
      }) seqs numbered
