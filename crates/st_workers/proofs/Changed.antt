-- Agreement is preserved by a change of one number and of one worker's turn.
use Rattle.std.proofs.Common.{◌≡◌, ◌≢◌, ◌<◌, ◌≤◌, ℕ, suc, ◌||◌, Bool, true, false, cond, Option, Some, None, ◌⊎◌, inl, inr, ap, sym, ◌∙◌, subst, arith}
use Rattle.std.proofs.lemmas.Bool.{cases_eq}
use Rattle.st_messages.specs.declared.message.MsgState.{MsgState}
use Rattle.st_messages.specs.declared.message.MsgState.TheVariants.{Waiting, Claimed, Answered, Faulted}
use Rattle.st_law.specs.State.{Message, is_ready, progress_of_message, snapshot_of_message}
use Rattle.st_workers.specs.Refinement.{AgreesWithMachine, HasMessageFlags, IsDead, IsLive, IsState, IsTurn, IsUntouched}
use Rattle.st_workers.specs.UnderWay.{Found}
use Rattle.st_workers.specs.declared.turn.Turn.{Turn}
use Rattle.st_workers.specs.declared.turn.Turn.TheVariants.{Idle, Working, Ready}

-- a worker whose turn isn't the number, and is unchanged
pub record Stays (turns turned : ℕ → Option ℕ) (p : ℕ) (old new : Found) (w : ℕ) : Type 0 where
  pub same : turned w ≡ turns w
  pub other : turns w ≢ Some p
  pub turn : (t : Turn) → new.turn w ≡ Some t → old.turn w ≡ Some t

-- the worker whose turn is the number, before or after the change
pub record Moves (turns turned : ℕ → Option ℕ) (after : ℕ → Message) (alive later : ℕ → Bool) (p worker : ℕ) (new : Found) (w : ℕ) : Type 0 where
  pub is : w ≡ worker
  pub from : (q : ℕ) → turns w ≡ Some q → alive q ≡ true → q ≡ p
  pub onto : (q : ℕ) → turned w ≡ Some q → q ≡ p
  pub come : turned w ≡ Some p → HasMessageFlags (after p) true None false
  pub turn : (t : Turn) → new.turn w ≡ Some t → IsTurn after later (turned w) t

-- one number and one worker's turn change
pub record Changes (messages after : ℕ → Message) (turns turned : ℕ → Option ℕ) (alive later : ℕ → Bool) (posted given p worker : ℕ) (old new : Found) : Type 0 where
  pub others : (q : ℕ) → q ≢ p → after q ≡ messages q
  pub lives : (q : ℕ) → q ≢ p → later q ≡ alive q
  pub state : (q : ℕ) → q ≢ p → new.state q ≡ old.state q
  pub thread : (q : ℕ) → q ≢ p → new.thread q ≡ old.thread q
  pub slot : (q : ℕ) → q ≢ p → new.slot q ≡ old.slot q
  pub more : posted ≤ given
  pub within : p ≤ given
  pub next : new.next ≡ suc given
  pub live : later p ≡ true → (0 < p) × IsLive turned p (after p) new
  pub dead : later p ≡ false → IsDead p new
  pub each : (w : ℕ) → Stays turns turned p old new w ⊎ Moves turns turned after alive later p worker new w

module _ (messages after : ℕ → Message) (turns turned : ℕ → Option ℕ) (alive later : ℕ → Bool) (posted given p worker : ℕ) (old new : Found)
    (agrees : AgreesWithMachine messages turns alive posted old) (changes : Changes messages after turns turned alive later posted given p worker old new) where
  state_still : (q : ℕ) (state : MsgState) → q ≢ p → alive q ≡ true → IsState turns q (messages q) state → IsState turned q (messages q) state
  state_still q Waiting ne live is = is
  state_still q (Claimed w) ne live is = (
    is.0,
    elim (changes.each w) [
      | inl stays ↦ stays.same ∙ is.1
      | inr moves ↦ absurd (ne (moves.from q is.1 live))
    ],
  )
  state_still q (Answered v) ne live is = is
  state_still q (Faulted errno) ne live is = is

  live_still : (q : ℕ) → q ≢ p → later q ≡ true → (0 < q) × (q ≤ given) × IsLive turned q (after q) new
  live_still q ne is =
      let live : alive q ≡ true = sym (changes.lives q ne) ∙ is in
      let was : IsLive turns q (messages q) old = agrees.live q live in
      let given_q = agrees.given q live in
      let more = changes.more in (
        given_q.0,
        omega (arith, given_q.1, more),
        subst (λ (m : Message). IsLive turned q m new) (sym (changes.others q ne)) (record {
          state = was.state;
          tid = was.tid;
          slot = was.slot;
          state_is = changes.state q ne ∙ was.state_is;
          thread_is = changes.thread q ne ∙ was.thread_is;
          slot_is = changes.slot q ne ∙ was.slot_is;
          is_state = state_still q was.state ne live was.is_state;
          is_slot = was.is_slot;
          is_sealed = was.is_sealed;
        }),
      )

  dead_still : (q : ℕ) → q ≢ p → later q ≡ false → IsDead q new
  dead_still q ne is =
      let was : IsDead q old = agrees.dead q (sym (changes.lives q ne) ∙ is) in
      record { state = changes.state q ne ∙ was.state; thread = changes.thread q ne ∙ was.thread; slot = changes.slot q ne ∙ was.slot }

  turn_still : (o : Option ℕ) (t : Turn) → o ≢ Some p → IsTurn messages alive o t → IsTurn after later o t
  turn_still None Idle other is = is
  turn_still (Some q) Idle other is =
      let ne : q ≢ p = λ e. other (ap Some e) in
      (λ k. cond (changes.lives q ne k || is_ready (progress_of_message (changes.others q ne k))) (Some q) None) ∙ is
  turn_still o (Working q) other is =
      let ne : q ≢ p = λ e. other (is.0 ∙ ap Some e) in
      (is.0, changes.lives q ne ∙ is.1, ap (λ (m : Message). is_ready (progress_of_message m)) (changes.others q ne) ∙ is.2)
  turn_still o (Ready q s) other is =
      let ne : q ≢ p = λ e. other (is.0 ∙ ap Some e) in
      (is.0, ap (snapshot_of_message q) (changes.others q ne) ∙ is.1)

  come_still : (w q : ℕ) → turned w ≡ Some q → HasMessageFlags (after q) true None false
  come_still w q is = elim (changes.each w) [
    | inl stays ↦
        let was : turns w ≡ Some q = sym stays.same ∙ is in
        subst (λ (m : Message). HasMessageFlags m true None false) (sym (changes.others q (λ e. stays.other (was ∙ ap Some e)))) (agrees.turned w q was)
    | inr moves ↦
        let e : q ≡ p = moves.onto q is in
        subst (λ (n : ℕ). HasMessageFlags (after n) true None false) (sym e) (moves.come (is ∙ ap Some e))
  ]

  apart_still : (a b q : ℕ) → turned a ≡ Some q → turned b ≡ Some q → a ≡ b
  apart_still a b q a_is b_is = elim (changes.each a) [
    | inl a_stays ↦ elim (changes.each b) [
      | inl b_stays ↦ agrees.apart a b q (sym a_stays.same ∙ a_is) (sym b_stays.same ∙ b_is)
      | inr b_moves ↦ absurd (a_stays.other (sym a_stays.same ∙ a_is ∙ ap Some (b_moves.onto q b_is)))
    ]
    | inr a_moves ↦ elim (changes.each b) [
      | inl b_stays ↦ absurd (b_stays.other (sym b_stays.same ∙ b_is ∙ ap Some (a_moves.onto q a_is)))
      | inr b_moves ↦ a_moves.is ∙ sym b_moves.is
    ]
  ]

  turns_still : (w : ℕ) (t : Turn) → new.turn w ≡ Some t → IsTurn after later (turned w) t
  turns_still w t is = elim (changes.each w) [
    | inl stays ↦ subst (λ (o : Option ℕ). IsTurn after later o t) (sym stays.same) (turn_still (turns w) t stays.other (agrees.workers w t (stays.turn t is)))
    | inr moves ↦ moves.turn t is
  ]

  -- what is found agrees after the change
  pub changed : AgreesWithMachine after turned later given new
  changed = record {
    next = changes.next;
    live = λ q is. elim (cases_eq q p) [
      | inl e ↦ subst (λ (n : ℕ). IsLive turned n (after n) new) (sym e) (changes.live (ap later (sym e) ∙ is)).1
      | inr ne ↦ (live_still q ne is).2
    ];
    dead = λ q is. elim (cases_eq q p) [
      | inl e ↦ subst (λ (n : ℕ). IsDead n new) (sym e) (changes.dead (ap later (sym e) ∙ is))
      | inr ne ↦ dead_still q ne is
    ];
    given = λ q is. elim (cases_eq q p) [
      | inl e ↦ subst (λ (n : ℕ). (0 < n) × (n ≤ given)) (sym e) ((changes.live (ap later (sym e) ∙ is)).0, changes.within)
      | inr ne ↦ ((live_still q ne is).0, (live_still q ne is).1)
    ];
    later = λ q lt.
        let within = changes.within in
        let more = changes.more in
        subst IsUntouched (sym (changes.others q (λ e. let same : q ≡ p = e in omega (arith, same, lt, within)))) (agrees.later q (omega (arith, lt, more)));
    turned = come_still;
    apart = apart_still;
    workers = turns_still;
  }

-- ---- nothing changes

-- what is found is unchanged
pub record IsSame (old new : Found) : Type 0 where
  pub next : new.next ≡ old.next
  pub state : (q : ℕ) → new.state q ≡ old.state q
  pub thread : (q : ℕ) → new.thread q ≡ old.thread q
  pub slot : (q : ℕ) → new.slot q ≡ old.slot q
  pub turn : (w : ℕ) → new.turn w ≡ old.turn w

pub unchanged : (messages : ℕ → Message) (turns : ℕ → Option ℕ) (alive : ℕ → Bool) (posted : ℕ) (old new : Found) → IsSame old new → AgreesWithMachine messages turns alive posted old → AgreesWithMachine messages turns alive posted new
unchanged messages turns alive posted old new same agrees = record {
  next = same.next ∙ agrees.next;
  live = λ q is.
      let was : IsLive turns q (messages q) old = agrees.live q is in
      record {
        state = was.state;
        tid = was.tid;
        slot = was.slot;
        state_is = same.state q ∙ was.state_is;
        thread_is = same.thread q ∙ was.thread_is;
        slot_is = same.slot q ∙ was.slot_is;
        is_state = was.is_state;
        is_slot = was.is_slot;
        is_sealed = was.is_sealed;
      };
  dead = λ q is.
      let was : IsDead q old = agrees.dead q is in
      record { state = same.state q ∙ was.state; thread = same.thread q ∙ was.thread; slot = same.slot q ∙ was.slot };
  given = agrees.given;
  later = agrees.later;
  turned = agrees.turned;
  apart = agrees.apart;
  workers = λ w t is. agrees.workers w t (sym (same.turn w) ∙ is);
}
