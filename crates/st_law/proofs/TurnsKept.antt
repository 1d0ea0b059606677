-- The invariant of the turns of workers is kept by each lawful entry.
use Rattle.std.proofs.Common.{◌≡◌, ◌≢◌, ◌⊎◌, ◌≤◌, ℕ, Bool, true, false, cond, ◌&&◌, ◌||◌, ◌==◌, [], ◌∷◌, ◌++◌, Option, Some, None, refl, sym, ap, subst, ◌∙◌, inl, inr}
use Rattle.std.proofs.lemmas.Bool.{eqb-true, eqb-false, eq-eqb, ne_eqb, or_parts, or_left, or_right}
use Rattle.st_base.specs.declared.errno.Errno.{Errno}
use Rattle.st_calls.specs.declared.judged.Snapshot.{Snapshot}
use Rattle.st_calls.specs.declared.judged.Verdict.{Verdict}
use Rattle.st_names.specs.Name.{Components}
use Rattle.st_names.specs.declared.seen.SeenText.{SeenText}
use Rattle.st_trace.specs.declared.entry.Entry.{Entry}
use Rattle.st_trace.specs.declared.entry.Entry.TheVariants.{Stored, Entered, Claimed, Copied, Looked, Faulted, Answered, Used, Denied, Ended, Replied, Learned, Reloaded}
use Rattle.st_law.specs.declared.input.Input.{Input}
use Rattle.st_law.specs.Lawful.{IsClaimed, IsAnswered, IsLawful}
use Rattle.st_law.specs.Machine.{state_after}
use Rattle.st_law.specs.Messages.{unless_same}
use Rattle.st_law.specs.State.{State, is_live, progress_of_head, snapshot_of_progress, snapshot_in, is_worker, worker_at}
use Rattle.st_law.proofs.Invariant.{Invariant}
use Rattle.st_law.proofs.Moves.{moves}
use Rattle.st_law.proofs.Turns.{IsFresh, Turns, turn_of, at_live, live_low, unlike, some_inj, turns_moved}

module _ (i : Input) (st : State) (inv : Invariant i st) (x : Turns i st) where
  -- an answered number was claimed
  pub answered_claimed : (q : ℕ) → (st.messages q).answered ≡ true → (st.messages q).claimed ≡ true
  answered_claimed q e = by (st.messages q).claimed refl where
    by : (b : Bool) → (st.messages q).claimed ≡ b → (st.messages q).claimed ≡ true
    by true f = f
    by false f = absurd (unlike (st.messages q).answered e (x.fresh q f).answered)

  -- ---- a claim

  module _ (w q : ℕ) (y : IsClaimed i st w q) where
    abbrev claimed_state : State
    claimed_state = state_after i st (Claimed w q)

    -- the number of a turn after the claim: the claimed one, or one that another worker had
    turn_cases : (v p : ℕ) (b : Bool) → (w == v) ≡ b → cond b (Some q) (st.turns v) ≡ Some p → ((w ≡ v) × (q ≡ p)) ⊎ ((w ≢ v) × (st.turns v ≡ Some p))
    turn_cases v p true e f = inl (eqb-true w v e, some_inj q p f)
    turn_cases v p false e f = inr (eqb-false w v e, f)

    q_fresh : IsFresh (st.messages q)
    q_fresh = x.fresh q y.unclaimed

    -- a number that a worker already has isn't the one that is claimed
    taken_other : (v p : ℕ) → st.turns v ≡ Some p → q ≢ p
    taken_other v p turn same = unlike (st.messages p).claimed (x.claimed v p turn) (subst (λ n. (st.messages n).claimed ≡ false) same y.unclaimed)

    one_by : (u v p : ℕ) → ((w ≡ u) × (q ≡ p)) ⊎ ((w ≢ u) × (st.turns u ≡ Some p)) → ((w ≡ v) × (q ≡ p)) ⊎ ((w ≢ v) × (st.turns v ≡ Some p)) → u ≡ v
    one_by u v p (inl a) (inl b) = sym a.0 ∙ b.0
    one_by u v p (inl a) (inr b) = absurd (taken_other v p b.1 a.1)
    one_by u v p (inr a) (inl b) = absurd (taken_other u p a.1 b.1)
    one_by u v p (inr a) (inr b) = x.one u v p a.1 b.1

    -- the worker that had a live number still has it: an idle worker had none
    kept_turn : (v p : ℕ) → st.turns v ≡ Some p → is_live st p ≡ true → (b : Bool) → (w == v) ≡ b → cond b (Some q) (st.turns v) ≡ Some p
    kept_turn v p turn live true e = absurd (idle_busy (subst (λ n. worker_at st n ≡ None) (eqb-true w v e) y.idle) (at_live st v p turn live)) where
      idle_busy : {o : Option ℕ} → o ≡ None → o ≡ Some p → ⊥
      idle_busy f g = cc
    kept_turn v p turn live false e = turn

    served_by : (p : ℕ) (b : Bool) → (q == p) ≡ b → (b || (st.messages p).claimed) ≡ true → is_live st p ≡ true → (st.messages p).answered ≡ false → (st.messages p).fault ≡ None → (v : ℕ) × (claimed_state.turns v ≡ Some p)
    served_by p true e claimed live unanswered unfaulted = (w, ap (λ b. cond b (Some q) (st.turns w)) (eq-eqb w w refl) ∙ ap Some (eqb-true q p e))
    served_by p false e claimed live unanswered unfaulted =
        let z : (v : ℕ) × (st.turns v ≡ Some p) = x.served p claimed live unanswered unfaulted in (z.0, kept_turn z.0 p z.1 live (w == z.0) refl)

    claimed_now : (p : ℕ) → q ≡ p → (q == p || (st.messages p).claimed) ≡ true
    claimed_now p same = or_left (q == p) (st.messages p).claimed (eq-eqb q p same)

    on_turn : (P : ℕ → ℕ → Type 0) → P w q → ((v p : ℕ) → st.turns v ≡ Some p → P v p) → (v p : ℕ) → ((w ≡ v) × (q ≡ p)) ⊎ ((w ≢ v) × (st.turns v ≡ Some p)) → P v p
    on_turn P own other v p (inl a) = subst (λ n. P n p) a.0 (subst (P w) a.1 own)
    on_turn P own other v p (inr a) = other v p a.1

    after_claimed : Turns i claimed_state
    after_claimed = record {
      worker = λ v p e. on_turn (λ v p. is_worker i v ≡ true) y.worker (λ v p f. x.worker v p f) v p (turn_cases v p (w == v) refl e);
      claimed = λ v p e. on_turn (λ v p. (q == p || (st.messages p).claimed) ≡ true) (claimed_now q refl) (λ v p f. or_right (q == p) (st.messages p).claimed (x.claimed v p f)) v p (turn_cases v p (w == v) refl e);
      unanswered = λ v p e. on_turn (λ v p. (st.messages p).answered ≡ false) q_fresh.answered (λ v p f. x.unanswered v p f) v p (turn_cases v p (w == v) refl e);
      unfaulted = λ v p e. on_turn (λ v p. (st.messages p).fault ≡ None) q_fresh.fault (λ v p f. x.unfaulted v p f) v p (turn_cases v p (w == v) refl e);
      one = λ u v p e f. one_by u v p (turn_cases u p (w == u) refl e) (turn_cases v p (w == v) refl f);
      low = λ p e. low_by p (q == p) refl e;
      fresh = λ p e. let f : IsFresh (st.messages p) = x.fresh p (or_parts (q == p) (st.messages p).claimed e).1 in record { words = f.words; lookups = f.lookups; fault = f.fault; answered = f.answered };
      served = λ p e. served_by p (q == p) refl e;
      ready = x.ready;
      sound = x.sound;
    } where
      low_by : (p : ℕ) (b : Bool) → (q == p) ≡ b → (b || (st.messages p).claimed) ≡ true → p ≤ st.posted
      low_by p true e f = subst (λ n. n ≤ st.posted) (eqb-true q p e) (live_low i st inv q y.live)
      low_by p false e f = x.low p f

  -- ---- a word is copied, or a name is looked up

  module _ (w q : ℕ) (at : worker_at st w ≡ Some q) where
    turn : st.turns w ≡ Some q
    turn = turn_of st (st.turns w) q at

    -- a number that was answered or isn't claimed isn't the one that is worked on
    answered_other : (p : ℕ) → (st.messages p).answered ≡ true → q ≢ p
    answered_other p e same = unlike (st.messages p).answered e (subst (λ n. (st.messages n).answered ≡ false) same (x.unanswered w q turn))

    fresh_other : (p : ℕ) → (st.messages p).claimed ≡ false → q ≢ p
    fresh_other p e same = unlike (st.messages p).claimed (subst (λ n. (st.messages n).claimed ≡ true) same (x.claimed w q turn)) e

    after_copied : (part place word : ℕ) → Turns i (state_after i st (Copied q part place word))
    after_copied part place word = record {
      worker = x.worker;
      claimed = x.claimed;
      unanswered = x.unanswered;
      unfaulted = x.unfaulted;
      one = x.one;
      low = x.low;
      fresh = λ p e. let f : IsFresh (st.messages p) = x.fresh p e in
          record { words = λ j. same_words p (fresh_other p e) j ∙ f.words j; lookups = f.lookups; fault = f.fault; answered = f.answered };
      served = x.served;
      ready = λ p e. let y : (s : Snapshot) × (snapshot_in st p ≡ Some s) = x.ready p e in
          (y.0, (λ k. snapshot_of_progress p (st.messages p).head (progress_of_head (st.messages p).head (λ j. same_words p (answered_other p e) j k) (st.messages p).lookups)) ∙ y.1);
      sound = x.sound;
    } where
      same_words : (p : ℕ) → q ≢ p → (j : ℕ) → cond (q == p && part == j) ((st.messages p).words j ++ word ∷ []) ((st.messages p).words j) ≡ (st.messages p).words j
      same_words p differ j = ap (λ b. cond (b && part == j) ((st.messages p).words j ++ word ∷ []) ((st.messages p).words j)) (ne_eqb q p differ)

    after_looked : (part : ℕ) (name : Components) (seen : SeenText) → Turns i (state_after i st (Looked q part name seen))
    after_looked part name seen = record {
      worker = x.worker;
      claimed = x.claimed;
      unanswered = x.unanswered;
      unfaulted = x.unfaulted;
      one = x.one;
      low = x.low;
      fresh = λ p e. let f : IsFresh (st.messages p) = x.fresh p e in
          record { words = f.words; lookups = λ j. same_lookups p (fresh_other p e) j ∙ f.lookups j; fault = f.fault; answered = f.answered };
      served = x.served;
      ready = λ p e. let y : (s : Snapshot) × (snapshot_in st p ≡ Some s) = x.ready p e in
          (y.0, (λ k. snapshot_of_progress p (st.messages p).head (progress_of_head (st.messages p).head (st.messages p).words (λ j. same_lookups p (answered_other p e) j k))) ∙ y.1);
      sound = x.sound;
    } where
      same_lookups : (p : ℕ) → q ≢ p → (j : ℕ) → cond (q == p && part == j) ((st.messages p).lookups j ++ seen ∷ []) ((st.messages p).lookups j) ≡ (st.messages p).lookups j
      same_lookups p differ j = ap (λ b. cond (b && part == j) ((st.messages p).lookups j ++ seen ∷ []) ((st.messages p).lookups j)) (ne_eqb q p differ)

    -- ---- a fault

    faulted_turn : (v p : ℕ) (o : Option ℕ) → unless_same q o ≡ Some p → (o ≡ Some p) × (q ≢ p)
    faulted_turn v p None e = cc
    faulted_turn v p (Some n) e = by (q == n) refl e where
      by : (b : Bool) → (q == n) ≡ b → cond b None (Some n) ≡ Some p → (Some n ≡ Some p) × (q ≢ p)
      by true f g = cc
      by false f g = (g, λ same. eqb-false q n f (same ∙ sym (some_inj n p g)))

    same_fault : (errno : Errno) (p : ℕ) → q ≢ p → cond (q == p) (Some errno) (st.messages p).fault ≡ (st.messages p).fault
    same_fault errno p differ = ap (λ b. cond b (Some errno) (st.messages p).fault) (ne_eqb q p differ)

    after_faulted : (errno : Errno) → Turns i (state_after i st (Faulted q errno))
    after_faulted errno = record {
      worker = λ v p e. x.worker v p (faulted_turn v p (st.turns v) e).0;
      claimed = λ v p e. x.claimed v p (faulted_turn v p (st.turns v) e).0;
      unanswered = λ v p e. x.unanswered v p (faulted_turn v p (st.turns v) e).0;
      unfaulted = λ v p e. let f : (st.turns v ≡ Some p) × (q ≢ p) = faulted_turn v p (st.turns v) e in same_fault errno p f.1 ∙ x.unfaulted v p f.0;
      one = λ u v p e f. x.one u v p (faulted_turn u p (st.turns u) e).0 (faulted_turn v p (st.turns v) f).0;
      low = x.low;
      fresh = λ p e. let f : IsFresh (st.messages p) = x.fresh p e in
          record { words = f.words; lookups = f.lookups; fault = same_fault errno p (fresh_other p e) ∙ f.fault; answered = f.answered };
      served = λ p claimed live unanswered unfaulted. served_by p claimed live unanswered (q == p) refl unfaulted;
      ready = x.ready;
      sound = λ p e. same_fault errno p (answered_other p e) ∙ x.sound p e;
    } where
      served_by : (p : ℕ) → (st.messages p).claimed ≡ true → is_live st p ≡ true → (st.messages p).answered ≡ false → (b : Bool) → (q == p) ≡ b → cond b (Some errno) (st.messages p).fault ≡ None → (v : ℕ) × (unless_same q (st.turns v) ≡ Some p)
      served_by p claimed live unanswered true e unfaulted = cc
      served_by p claimed live unanswered false e unfaulted = let z : (v : ℕ) × (st.turns v ≡ Some p) = x.served p claimed live unanswered unfaulted in
          (z.0, ap (unless_same q) z.1 ∙ ap (λ b. cond b None (Some p)) e)

  -- ---- an answer

  module _ (w : ℕ) (s : Snapshot) (v : Verdict) (applied : Bool) (y : IsAnswered i st w s v applied) where
    abbrev answered_state : State
    answered_state = state_after i st (Answered w s v applied)

    own_turn : st.turns w ≡ Some s.seq
    own_turn = turn_of st (st.turns w) s.seq y.at

    -- the number of a turn after the answer is another worker's, and another number
    other_turn : (u p : ℕ) (b : Bool) → (w == u) ≡ b → cond b None (st.turns u) ≡ Some p → (st.turns u ≡ Some p) × (s.seq ≢ p)
    other_turn u p true e f = cc
    other_turn u p false e f = (f, λ same. eqb-false w u e (x.one w u p (own_turn ∙ ap Some same) f))

    same_answered : (p : ℕ) → s.seq ≢ p → ((s.seq == p && applied) || (st.messages p).answered) ≡ (st.messages p).answered
    same_answered p differ = ap (λ b. (b && applied) || (st.messages p).answered) (ne_eqb s.seq p differ)

    fresh_differs : (p : ℕ) → (st.messages p).claimed ≡ false → s.seq ≢ p
    fresh_differs p e same = unlike (st.messages p).claimed (subst (λ n. (st.messages n).claimed ≡ true) same (x.claimed w s.seq own_turn)) e

    answered_cases : (p : ℕ) (a b : Bool) → (s.seq == p) ≡ a → ((a && b) || (st.messages p).answered) ≡ true → (s.seq ≡ p) ⊎ ((st.messages p).answered ≡ true)
    answered_cases p true b e f = inl (eqb-true s.seq p e)
    answered_cases p false b e f = inr f

    ready_by : (p : ℕ) → (s.seq ≡ p) ⊎ ((st.messages p).answered ≡ true) → (t : Snapshot) × (snapshot_in st p ≡ Some t)
    ready_by p (inl same) = (s, subst (λ n. snapshot_in st n ≡ Some s) same y.copies)
    ready_by p (inr e) = x.ready p e

    sound_by : (p : ℕ) → (s.seq ≡ p) ⊎ ((st.messages p).answered ≡ true) → (st.messages p).fault ≡ None
    sound_by p (inl same) = subst (λ n. (st.messages n).fault ≡ None) same (x.unfaulted w s.seq own_turn)
    sound_by p (inr e) = x.sound p e

    -- an answer to a live number is applied
    served_at : (p : ℕ) → (st.messages p).claimed ≡ true → is_live st p ≡ true → (st.messages p).fault ≡ None → (a : Bool) → (s.seq == p) ≡ a → ((a && applied) || (st.messages p).answered) ≡ false → (u : ℕ) × (answered_state.turns u ≡ Some p)
    served_at p claimed live unfaulted true e f =
        absurd (unlike applied (y.applied_is ∙ subst (λ n. is_live st n ≡ true) (sym (eqb-true s.seq p e)) live) ((or_parts applied (st.messages p).answered f).0))
    served_at p claimed live unfaulted false e f = let z : (u : ℕ) × (st.turns u ≡ Some p) = x.served p claimed live f unfaulted in
        (z.0, by z.0 z.1 (w == z.0) refl) where
          by : (u : ℕ) → st.turns u ≡ Some p → (b : Bool) → (w == u) ≡ b → cond b None (st.turns u) ≡ Some p
          by u turn true g = absurd (eqb-false s.seq p e (some_inj s.seq p (sym own_turn ∙ ap st.turns (eqb-true w u g) ∙ turn)))
          by u turn false g = turn

    after_answered : Turns i answered_state
    after_answered = record {
      worker = λ u p e. x.worker u p (other_turn u p (w == u) refl e).0;
      claimed = λ u p e. x.claimed u p (other_turn u p (w == u) refl e).0;
      unanswered = λ u p e. let f : (st.turns u ≡ Some p) × (s.seq ≢ p) = other_turn u p (w == u) refl e in same_answered p f.1 ∙ x.unanswered u p f.0;
      unfaulted = λ u p e. x.unfaulted u p (other_turn u p (w == u) refl e).0;
      one = λ t u p e f. x.one t u p (other_turn t p (w == t) refl e).0 (other_turn u p (w == u) refl f).0;
      low = x.low;
      fresh = λ p e. let f : IsFresh (st.messages p) = x.fresh p e in
          record { words = f.words; lookups = f.lookups; fault = f.fault; answered = same_answered p (fresh_differs p e) ∙ f.answered };
      served = λ p claimed live unanswered unfaulted. served_at p claimed live unfaulted (s.seq == p) refl unanswered;
      ready = λ p e. ready_by p (answered_cases p (s.seq == p) applied refl e);
      sound = λ p e. sound_by p (answered_cases p (s.seq == p) applied refl e);
    }

  -- the invariant of turns is kept by each lawful entry
  pub turns_after : (e : Entry) → IsLawful i st e → Turns i (state_after i st e)
  turns_after (Claimed w q) y = after_claimed w q y
  turns_after (Copied q part place word) y = after_copied y.served.number q y.served.at part place word
  turns_after (Looked q part name seen) y = after_looked y.served.number q y.served.at part name seen
  turns_after (Faulted q errno) y = after_faulted y.served.number q y.served.at errno
  turns_after (Answered w s v applied) y = after_answered w s v applied y
  turns_after (Stored u place word) y = turns_moved i st inv x (state_after i st (Stored u place word)) (moves i st inv (Stored u place word) y) refl (λ p. refl) (λ p. refl) (λ p. refl) (λ p. refl) (λ p. refl)
  turns_after (Entered u call regs way) y = turns_moved i st inv x (state_after i st (Entered u call regs way)) (moves i st inv (Entered u call regs way) y) refl (λ p. refl) (λ p. refl) (λ p. refl) (λ p. refl) (λ p. refl)
  turns_after (Used u seq call regs args ids result changes) y = turns_moved i st inv x (state_after i st (Used u seq call regs args ids result changes)) (moves i st inv (Used u seq call regs args ids result changes) y) refl (λ p. refl) (λ p. refl) (λ p. refl) (λ p. refl) (λ p. refl)
  turns_after (Reloaded u n done changes) y = turns_moved i st inv x (state_after i st (Reloaded u n done changes)) (moves i st inv (Reloaded u n done changes) y) refl (λ p. refl) (λ p. refl) (λ p. refl) (λ p. refl) (λ p. refl)
  turns_after (Denied u seq errno cause) y = turns_moved i st inv x (state_after i st (Denied u seq errno cause)) (moves i st inv (Denied u seq errno cause) y) refl (λ p. refl) (λ p. refl) (λ p. refl) (λ p. refl) (λ p. refl)
  turns_after (Ended u) y = turns_moved i st inv x (state_after i st (Ended u)) (moves i st inv (Ended u) y) refl (λ p. refl) (λ p. refl) (λ p. refl) (λ p. refl) (λ p. refl)
  turns_after (Learned q n) y = turns_moved i st inv x (state_after i st (Learned q n)) (moves i st inv (Learned q n) y) refl (λ p. refl) (λ p. refl) (λ p. refl) (λ p. refl) (λ p. refl)
  turns_after (Replied q reply n) y = turns_moved i st inv x (state_after i st (Replied q reply n)) (moves i st inv (Replied q reply n) y) refl (λ p. refl) (λ p. refl) (λ p. refl) (λ p. refl) (λ p. refl)
