-- The invariant of the turns of workers in every lawful run: a number is at most one worker's turn, it is neither answered nor faulted as
-- long as it is one, and an answered number keeps its copies.
use native.Mathlib.Omega.{arith}
use Rattle.std.proofs.Common.{◌≡◌, ◌⊎◌, ◌≤◌, ◌<◌, ℕ, Bool, true, false, cond, ◌||◌, [], Option, Some, None, refl, sym, ap, ◌∙◌, inl, inr}
use Rattle.std.specs.Prelude.{nat_lt, nat_le}
use Rattle.std.proofs.lemmas.Bool.{and_parts, cases_lt, leb-true, ltb-true, or_left}
use Rattle.st_calls.specs.declared.judged.Snapshot.{Snapshot}
use Rattle.st_law.specs.declared.input.Input.{Input}
use Rattle.st_law.specs.State.{State, Message, is_live_by, is_live, progress_of_head, snapshot_of_progress, snapshot_in, is_worker, seq_at_work, worker_at, progress_in, is_ready}
use Rattle.st_law.proofs.Invariant.{Invariant}
use Rattle.st_law.proofs.Moves.{Moves, live_before}

-- a number that isn't claimed has no words, no lookups and no fault
pub record IsFresh (message : Message) : Type 0 where
  pub words : (j : ℕ) → message.words j ≡ []
  pub lookups : (j : ℕ) → message.lookups j ≡ []
  pub fault : message.fault ≡ None
  pub answered : message.answered ≡ false

pub record Turns (i : Input) (st : State) : Type 0 where
  pub worker : (w q : ℕ) → st.turns w ≡ Some q → is_worker i w ≡ true
  pub claimed : (w q : ℕ) → st.turns w ≡ Some q → (st.messages q).claimed ≡ true
  pub unanswered : (w q : ℕ) → st.turns w ≡ Some q → (st.messages q).answered ≡ false
  pub unfaulted : (w q : ℕ) → st.turns w ≡ Some q → (st.messages q).fault ≡ None
  pub one : (v w q : ℕ) → st.turns v ≡ Some q → st.turns w ≡ Some q → v ≡ w
  pub low : (q : ℕ) → (st.messages q).claimed ≡ true → q ≤ st.posted
  pub fresh : (q : ℕ) → (st.messages q).claimed ≡ false → IsFresh (st.messages q)
  pub served : (q : ℕ) → (st.messages q).claimed ≡ true → is_live st q ≡ true → (st.messages q).answered ≡ false → (st.messages q).fault ≡ None → (w : ℕ) × (st.turns w ≡ Some q)
  pub ready : (q : ℕ) → (st.messages q).answered ≡ true → (s : Snapshot) × (snapshot_in st q ≡ Some s)
  pub sound : (q : ℕ) → (st.messages q).answered ≡ true → (st.messages q).fault ≡ None

pub unlike : (b : Bool) → b ≡ true → b ≡ false → ⊥
unlike b x y = cc

-- workers are numbered from 1 to their count
pub worker_range : (i : Input) (w : ℕ) → is_worker i w ≡ true → (1 ≤ w) × (w ≤ i.options.workers)
worker_range i w e = let parts = and_parts (nat_lt 0 w) (nat_le w i.options.workers) e in
    let low = ltb-true 0 w parts.0 in (omega (arith, low), leb-true w i.options.workers parts.1)

-- ---- what a worker is at

-- a worker is at the number of its turn
pub turn_of : (st : State) (o : Option ℕ) (q : ℕ) → seq_at_work st o ≡ Some q → o ≡ Some q
turn_of st None q e = cc
turn_of st (Some p) q e = by (is_live st p || is_ready (progress_in st p)) e where
  by : (b : Bool) → cond b (Some p) None ≡ Some q → Some p ≡ Some q
  by true f = f
  by false f = cc

-- a worker whose turn is a live number is at that number
pub at_live : (st : State) (w q : ℕ) → st.turns w ≡ Some q → is_live st q ≡ true → worker_at st w ≡ Some q
at_live st w q turn live = ap (seq_at_work st) turn ∙ ap (λ b. cond b (Some q) None) (or_left (is_live st q) (is_ready (progress_in st q)) live)

-- a live number was posted
pub live_low : (i : Input) (st : State) → Invariant i st → (q : ℕ) → is_live st q ≡ true → q ≤ st.posted
live_low i st inv q live = by (cases_lt st.posted q) where
  by : (st.posted < q) ⊎ (q ≤ st.posted) → q ≤ st.posted
  by (inr low) = low
  by (inl high) = absurd (unlike (is_live st q) live (ap (λ o. is_live_by o (st.messages q).closed (λ t. (st.threads t).dying)) (inv.heads q high)))

pub some_inj : (p q : ℕ) → Some p ≡ Some q → p ≡ q
some_inj p q e = ap value e where
  value : Option ℕ → ℕ
  value None = p
  value (Some n) = n

-- ---- entries that leave messages and turns

module _ (i : Input) (st : State) (inv : Invariant i st) (x : Turns i st) where
  -- after an entry by which no message is claimed, copied, looked up, answered or faulted
  pub turns_moved : (new : State) → Moves st new → (new.turns ≡ st.turns) → ((q : ℕ) → (new.messages q).claimed ≡ (st.messages q).claimed) → ((q : ℕ) → (new.messages q).words ≡ (st.messages q).words) → ((q : ℕ) → (new.messages q).lookups ≡ (st.messages q).lookups) → ((q : ℕ) → (new.messages q).fault ≡ (st.messages q).fault) → ((q : ℕ) → (new.messages q).answered ≡ (st.messages q).answered) → Turns i new
  turns_moved new moved turns claimed words lookups fault answered = record {
    worker = λ w q e. x.worker w q (sym (turn w) ∙ e);
    claimed = λ w q e. claimed q ∙ x.claimed w q (sym (turn w) ∙ e);
    unanswered = λ w q e. answered q ∙ x.unanswered w q (sym (turn w) ∙ e);
    unfaulted = λ w q e. fault q ∙ x.unfaulted w q (sym (turn w) ∙ e);
    one = λ v w q e f. x.one v w q (sym (turn v) ∙ e) (sym (turn w) ∙ f);
    low = λ q e. let low = x.low q (sym (claimed q) ∙ e) in let more = moved.posted in omega (arith, low, more);
    fresh = λ q e. let f : IsFresh (st.messages q) = x.fresh q (sym (claimed q) ∙ e) in record {
      words = λ j. ap (λ g. g j) (words q) ∙ f.words j;
      lookups = λ j. ap (λ g. g j) (lookups q) ∙ f.lookups j;
      fault = fault q ∙ f.fault;
      answered = answered q ∙ f.answered;
    };
    served = λ q e live unanswered unfaulted.
        let is_claimed : (st.messages q).claimed ≡ true = sym (claimed q) ∙ e in
        let y : (w : ℕ) × (st.turns w ≡ Some q) = x.served q is_claimed (live_before st new moved q (x.low q is_claimed) live) (sym (answered q) ∙ unanswered) (sym (fault q) ∙ unfaulted) in
        (y.0, turn y.0 ∙ y.1);
    ready = λ q e.
        let was : (st.messages q).answered ≡ true = sym (answered q) ∙ e in
        let y : (s : Snapshot) × (snapshot_in st q ≡ Some s) = x.ready q was in
        (y.0, copies_same q (x.low q (answered_claimed q was (st.messages q).claimed refl)) ∙ y.1);
    sound = λ q e. fault q ∙ x.sound q (sym (answered q) ∙ e);
  } where
    turn : (w : ℕ) → new.turns w ≡ st.turns w
    turn w = ap (λ f. f w) turns

    answered_claimed : (q : ℕ) → (st.messages q).answered ≡ true → (b : Bool) → (st.messages q).claimed ≡ b → (st.messages q).claimed ≡ true
    answered_claimed q e true f = f
    answered_claimed q e false f = absurd (unlike (st.messages q).answered e ((x.fresh q f).answered))

    copies_same : (q : ℕ) → q ≤ st.posted → snapshot_in new q ≡ snapshot_in st q
    copies_same q low = λ k. snapshot_of_progress q (moved.heads q low k) (progress_of_head (moved.heads q low k) (words q k) (lookups q k))
