-- Each lawful entry of a worker or of the operator lowers the steps left by at least one.
use native.Mathlib.Omega.{arith}
use Rattle.std.proofs.Common.{◌≡◌, ◌≢◌, ◌≤◌, ◌<◌, ℕ, zero, suc, ◌+◌, ◌-◌, Bool, true, false, cond, not, ◌&&◌, ◌||◌, ◌==◌, List, [], ◌∷◌, ◌++◌, length, Option, Some, None, refl, sym, ap, subst, ◌∙◌, length-append}
use Rattle.std.proofs.lemmas.Bool.{eqb-true, eqb-false, eq-eqb, ne_eqb, or_left}
use Rattle.std.proofs.lemmas.List.{append-nil}
use Rattle.st_base.specs.declared.errno.Errno.{Errno}
use Rattle.st_calls.specs.declared.judged.Snapshot.{Snapshot}
use Rattle.st_calls.specs.declared.judged.Verdict.{Verdict}
use Rattle.st_names.specs.Name.{Components}
use Rattle.st_names.specs.declared.seen.SeenText.{SeenText}
use Rattle.st_trace.specs.declared.entry.Entry.{Entry}
use Rattle.st_trace.specs.declared.entry.Entry.TheVariants.{Claimed, Copied, Looked, Faulted, Answered}
use Rattle.st_law.specs.declared.input.Input.{Input}
use Rattle.st_law.specs.Lawful.{IsClaimed, IsAnswered}
use Rattle.st_law.specs.Machine.{state_after}
use Rattle.st_law.specs.Messages.{Head, unless_same}
use Rattle.st_law.specs.Sessions.{SessionFilter}
use Rattle.st_law.specs.State.{State, progress_of_head, snapshot_of_progress, snapshot_in, worker_at}
use Rattle.st_law.proofs.Copies.{Copies}
use Rattle.st_law.proofs.Lessening.{Lessens}
use Rattle.st_law.proofs.Lowering.{IsUnmoved, KeepsVersions, unmoved_low, turn_found, turn_there, turn_gone, taken_few, messages_drop}
use Rattle.st_law.proofs.Potential.{step_unless, learnt_most, taken, is_turn, may_be_learnt, remaining, message_cost, threads_cost, replies_cost}
use Rattle.st_law.proofs.Turns.{turn_of, live_low, some_inj}
use Rattle.st_law.proofs.Whole.{Whole, live_head}

module _ (i : Input) (st : State) (whole : Whole i st) (copies : Copies st) where
  abbrev Less : Entry → Type 0
  Less e = Lessens i st whole copies e

  -- ---- numbers

  -- a number with a head isn't 0
  pub number_low : (q : ℕ) (head : Head) → (st.messages q).head ≡ Some head → 1 ≤ q
  number_low q head e = omega (arith, not_zero) where
    not_zero : q ≢ 0
    not_zero same = none (sym (ap (λ n. (st.messages n).head) same) ∙ e) whole.posted.zero where
      none : {o : Option Head} → o ≡ Some head → o ≡ None → ⊥
      none f g = cc

  claimed_low : (q : ℕ) → (st.messages q).claimed ≡ true → 1 ≤ q
  claimed_low q claimed = let x : (head : Head) × ((st.messages q).head ≡ Some head) = whole.posted.claimed q claimed in number_low q x.0 x.1

  -- an entry is a step on the message of this number: the message has fewer steps left, and everything else no more
  pub record IsStepOn (e : Entry) (q : ℕ) : Type 0 where
    pub more : List SessionFilter
    pub grown : (state_after i st e).session ≡ st.session ++ more
    pub versions : KeepsVersions i st (state_after i st e)
    pub threads : threads_cost i (state_after i st e) ≤ threads_cost i st
    pub replies : replies_cost i (state_after i st e) ≤ replies_cost i st
    pub posted : (state_after i st e).posted ≡ st.posted
    pub low : 1 ≤ q
    pub high : q ≤ st.posted
    pub drop : message_cost i (state_after i st e) q + 1 ≤ message_cost i st q
    pub others : (p : ℕ) → q ≢ p → IsUnmoved i st (state_after i st e) p

  pub step_on : (e : Entry) (q : ℕ) (more : List SessionFilter) → (state_after i st e).session ≡ st.session ++ more → KeepsVersions i st (state_after i st e) → threads_cost i (state_after i st e) ≤ threads_cost i st → replies_cost i (state_after i st e) ≤ replies_cost i st → (state_after i st e).posted ≡ st.posted → 1 ≤ q → q ≤ st.posted → message_cost i (state_after i st e) q + 1 ≤ message_cost i st q → ((p : ℕ) → q ≢ p → IsUnmoved i st (state_after i st e) p) → IsStepOn e q
  step_on e q more grown versions threads replies posted low high drop others =
      record { more = more; grown = grown; versions = versions; threads = threads; replies = replies; posted = posted; low = low; high = high; drop = drop; others = others }

  -- after a step on a message fewer steps are left
  pub step_less : (e : Entry) (q : ℕ) → IsStepOn e q → Less e
  step_less e q x =
      let messages = messages_drop i st copies (state_after i st e) x.more x.grown x.versions q x.posted x.low x.high x.drop x.others in
      let threads = x.threads in
      let replies = x.replies in
      omega (arith, messages, threads, replies)

  -- how many steps a step on a message takes from the message of each number
  pub step_taken : (e : Entry) (q p : ℕ) → IsStepOn e q → message_cost i (state_after i st e) p + step_unless (not (q == p)) ≤ message_cost i st p
  step_taken e q p x = by (q == p) refl where
    by : (b : Bool) → (q == p) ≡ b → message_cost i (state_after i st e) p + step_unless (not b) ≤ message_cost i st p
    by true f = subst (λ n. message_cost i (state_after i st e) n + 1 ≤ message_cost i st n) (eqb-true q p f) x.drop
    by false f = let low = unmoved_low i st copies (state_after i st e) x.more x.grown x.versions p (x.others p (eqb-false q p f)) in omega (arith, low)

  pub same_session : st.session ≡ st.session ++ []
  same_session = sym (append-nil st.session)

  -- ---- a claim

  module _ (w q : ℕ) (y : IsClaimed i st w q) where
    abbrev claimed : State
    claimed = state_after i st (Claimed w q)

    claimed_turn : (p : ℕ) → q ≢ p → is_turn i claimed p ≡ true → is_turn i st p ≡ true
    claimed_turn p differ e = let x : (v : ℕ) × (claimed.turns v ≡ Some p) = turn_found i claimed p e in by x.0 (w == x.0) x.1 where
      by : (v : ℕ) (b : Bool) → cond b (Some q) (st.turns v) ≡ Some p → is_turn i st p ≡ true
      by v true f = absurd (differ (some_inj q p f))
      by v false f = turn_there i st v p (whole.turns.worker v p f) f

    claimed_drop : message_cost i claimed q + 1 ≤ message_cost i st q
    claimed_drop =
        let before : message_cost i st q ≡ 9605 = ap (λ c. remaining c (is_turn i st q) (taken (st.messages q)) (may_be_learnt i st (snapshot_in st q))) y.unclaimed in
        let own : claimed.turns w ≡ Some q = ap (λ b. cond b (Some q) (st.turns w)) (eq-eqb w w refl) in
        let following : message_cost i claimed q ≡ 9604 - taken (claimed.messages q) = λ k. remaining (or_left (q == q) (st.messages q).claimed (eq-eqb q q refl) k) (turn_there i claimed w q y.worker own k) (taken (claimed.messages q)) (may_be_learnt i claimed (snapshot_in claimed q)) in
        omega (arith, before, following)

    pub claimed_step : IsStepOn (Claimed w q) q
    claimed_step = let head : (h : Head) × ((st.messages q).head ≡ Some h) = live_head st q y.live in
        step_on (Claimed w q) q [] same_session (λ learns policy. refl) (omega arith) (omega arith) refl (number_low q head.0 head.1) (live_low i st whole.calls q y.live) claimed_drop
        (λ p differ. record { claimed = ap (λ b. b || (st.messages p).claimed) (ne_eqb q p differ); taken_is = refl; turn = claimed_turn p differ; copies = refl })

  -- ---- work on a number

  module _ (w q : ℕ) (at : worker_at st w ≡ Some q) where
    turn : st.turns w ≡ Some q
    turn = turn_of st (st.turns w) q at

    had : message_cost i st q ≡ 9604 - taken (st.messages q)
    had = λ k. remaining (whole.turns.claimed w q turn k) (turn_there i st w q (whole.turns.worker w q turn) turn k) (taken (st.messages q)) (may_be_learnt i st (snapshot_in st q))

    low : 1 ≤ q
    low = claimed_low q (whole.turns.claimed w q turn)

    high : q ≤ st.posted
    high = whole.turns.low q (whole.turns.claimed w q turn)

    -- ---- a word

    module _ (part place word : ℕ) (due : (part < 2) × (length ((st.messages q).words part) ≤ 192)) where
      abbrev copied : State
      copied = state_after i st (Copied q part place word)

      same_words : (p : ℕ) → q ≢ p → (j : ℕ) → cond (q == p && part == j) ((st.messages p).words j ++ word ∷ []) ((st.messages p).words j) ≡ (st.messages p).words j
      same_words p differ j = ap (λ b. cond (b && part == j) ((st.messages p).words j ++ word ∷ []) ((st.messages p).words j)) (ne_eqb q p differ)

      own_words : (j : ℕ) → length ((copied.messages q).words j) ≡ length (cond (part == j) ((st.messages q).words j ++ word ∷ []) ((st.messages q).words j))
      own_words j = ap (λ b. length (cond (b && part == j) ((st.messages q).words j ++ word ∷ []) ((st.messages q).words j))) (eq-eqb q q refl)

      copied_drop : (taken (copied.messages q) ≡ taken (st.messages q) + 1) → taken (copied.messages q) ≤ 9602 → message_cost i copied q + 1 ≤ message_cost i st q
      copied_drop more few =
          let before = had in
          let following : message_cost i copied q ≡ 9604 - taken (copied.messages q) = λ k. remaining (whole.turns.claimed w q turn k) (turn_there i copied w q (whole.turns.worker w q turn) turn k) (taken (copied.messages q)) (may_be_learnt i copied (snapshot_in copied q)) in
          omega (arith, before, following, more, few)

      copied_by : (taken (copied.messages q) ≡ taken (st.messages q) + 1) → taken (copied.messages q) ≤ 9602 → IsStepOn (Copied q part place word) q
      copied_by more few = step_on (Copied q part place word) q [] same_session (λ learns policy. refl) (omega arith) (omega arith) refl low high (copied_drop more few)
          (λ p differ. record {
            claimed = refl;
            taken_is = (λ k. length (same_words p differ 0 k) + length (same_words p differ 1 k) + length ((st.messages p).lookups 0) + length ((st.messages p).lookups 1));
            turn = λ e. e;
            copies = λ k. snapshot_of_progress p (st.messages p).head (progress_of_head (st.messages p).head (λ j. same_words p differ j k) (st.messages p).lookups);
          })

    pub copied_step : (part place word : ℕ) → (part < 2) × (length ((st.messages q).words part) ≤ 192) → IsStepOn (Copied q part place word) q
    copied_step zero place word due =
        let a = own_words zero place word due 0 in let b = own_words zero place word due 1 in
        let more = length-append ((st.messages q).words 0) (word ∷ []) in
        let c = due.1 in let d = copies.words q 1 in let e = copies.lookups q 0 in let f = copies.lookups q 1 in
        copied_by zero place word due (omega (arith, a, b, more)) (omega (arith, a, b, more, c, d, e, f))
    copied_step (suc zero) place word due =
        let a = own_words 1 place word due 0 in let b = own_words 1 place word due 1 in
        let more = length-append ((st.messages q).words 1) (word ∷ []) in
        let c = due.1 in let d = copies.words q 0 in let e = copies.lookups q 0 in let f = copies.lookups q 1 in
        copied_by 1 place word due (omega (arith, a, b, more)) (omega (arith, a, b, more, c, d, e, f))
    copied_step (suc (suc part)) place word due = let early = due.0 in absurd (omega (arith, early))

    -- ---- a look

    module _ (part : ℕ) (name : Components) (seen : SeenText) (due : (part < 2) × (length ((st.messages q).lookups part) < 4608)) where
      abbrev looked : State
      looked = state_after i st (Looked q part name seen)

      same_lookups : (p : ℕ) → q ≢ p → (j : ℕ) → cond (q == p && part == j) ((st.messages p).lookups j ++ seen ∷ []) ((st.messages p).lookups j) ≡ (st.messages p).lookups j
      same_lookups p differ j = ap (λ b. cond (b && part == j) ((st.messages p).lookups j ++ seen ∷ []) ((st.messages p).lookups j)) (ne_eqb q p differ)

      own_lookups : (j : ℕ) → length ((looked.messages q).lookups j) ≡ length (cond (part == j) ((st.messages q).lookups j ++ seen ∷ []) ((st.messages q).lookups j))
      own_lookups j = ap (λ b. length (cond (b && part == j) ((st.messages q).lookups j ++ seen ∷ []) ((st.messages q).lookups j))) (eq-eqb q q refl)

      looked_by : (taken (looked.messages q) ≡ taken (st.messages q) + 1) → taken (looked.messages q) ≤ 9602 → IsStepOn (Looked q part name seen) q
      looked_by more few = step_on (Looked q part name seen) q [] same_session (λ learns policy. refl) (omega arith) (omega arith) refl low high
          (let before = had in
          let following : message_cost i looked q ≡ 9604 - taken (looked.messages q) = λ k. remaining (whole.turns.claimed w q turn k) (turn_there i looked w q (whole.turns.worker w q turn) turn k) (taken (looked.messages q)) (may_be_learnt i looked (snapshot_in looked q)) in
          omega (arith, before, following, more, few))
          (λ p differ. record {
            claimed = refl;
            taken_is = (λ k. length ((st.messages p).words 0) + length ((st.messages p).words 1) + length (same_lookups p differ 0 k) + length (same_lookups p differ 1 k));
            turn = λ e. e;
            copies = λ k. snapshot_of_progress p (st.messages p).head (progress_of_head (st.messages p).head (st.messages p).words (λ j. same_lookups p differ j k));
          })

    pub looked_step : (part : ℕ) (name : Components) (seen : SeenText) → (part < 2) × (length ((st.messages q).lookups part) < 4608) → IsStepOn (Looked q part name seen) q
    looked_step zero name seen due =
        let a = own_lookups zero name seen due 0 in let b = own_lookups zero name seen due 1 in
        let more = length-append ((st.messages q).lookups 0) (seen ∷ []) in
        let c = due.1 in let d = copies.lookups q 1 in let e = copies.words q 0 in let f = copies.words q 1 in
        looked_by zero name seen due (omega (arith, a, b, more)) (omega (arith, a, b, more, c, d, e, f))
    looked_step (suc zero) name seen due =
        let a = own_lookups 1 name seen due 0 in let b = own_lookups 1 name seen due 1 in
        let more = length-append ((st.messages q).lookups 1) (seen ∷ []) in
        let c = due.1 in let d = copies.lookups q 0 in let e = copies.words q 0 in let f = copies.words q 1 in
        looked_by 1 name seen due (omega (arith, a, b, more)) (omega (arith, a, b, more, c, d, e, f))
    looked_step (suc (suc part)) name seen due = let early = due.0 in absurd (omega (arith, early))

    -- ---- the end of a turn

    -- a number that is no worker's turn any more has at most one step left
    turn_over : (new : State) → (new.messages q).claimed ≡ (st.messages q).claimed → is_turn i new q ≡ false → message_cost i new q + 1 ≤ message_cost i st q
    turn_over new claimed gone =
        let before = had in
        let few = taken_few i st copies q in
        let following : message_cost i new q ≡ may_be_learnt i new (snapshot_in new q) = λ k. remaining ((claimed ∙ whole.turns.claimed w q turn) k) (gone k) (taken (new.messages q)) (may_be_learnt i new (snapshot_in new q)) in
        let most = learnt_most i new (snapshot_in new q) in
        omega (arith, before, few, following, most)

    not_own : (o : Option ℕ) (p : ℕ) → unless_same q o ≡ Some p → (o ≡ Some p) × (q ≢ p)
    not_own None p e = cc
    not_own (Some n) p e = by (q == n) refl e where
      by : (b : Bool) → (q == n) ≡ b → cond b None (Some n) ≡ Some p → (Some n ≡ Some p) × (q ≢ p)
      by true f g = cc
      by false f g = (g, λ same. eqb-false q n f (same ∙ sym (some_inj n p g)))

    pub faulted_step : (errno : Errno) → IsStepOn (Faulted q errno) q
    faulted_step errno = step_on (Faulted q errno) q [] same_session (λ learns policy. refl) (omega arith) (omega arith) refl low high
        (turn_over (state_after i st (Faulted q errno)) refl (turn_gone i (state_after i st (Faulted q errno)) q (λ v e. (not_own (st.turns v) q e).1 refl)))
        (λ p differ. record {
          claimed = refl;
          taken_is = refl;
          turn = λ e. let x : (v : ℕ) × (unless_same q (st.turns v) ≡ Some p) = turn_found i (state_after i st (Faulted q errno)) p e in
              let f : st.turns x.0 ≡ Some p = (not_own (st.turns x.0) p x.1).0 in turn_there i st x.0 p (whole.turns.worker x.0 p f) f;
          copies = refl;
        })

  module _ (w : ℕ) (s : Snapshot) (v : Verdict) (applied : Bool) (y : IsAnswered i st w s v applied) where
    abbrev answered : State
    answered = state_after i st (Answered w s v applied)

    kept_turn : (u p : ℕ) (b : Bool) → (w == u) ≡ b → cond b None (st.turns u) ≡ Some p → (w ≢ u) × (st.turns u ≡ Some p)
    kept_turn u p true e f = cc
    kept_turn u p false e f = (eqb-false w u e, f)

    pub answered_step : IsStepOn (Answered w s v applied) s.seq
    answered_step = step_on (Answered w s v applied) s.seq [] same_session (λ learns policy. refl) (omega arith) (omega arith) refl (low w s.seq y.at) (high w s.seq y.at)
        (turn_over w s.seq y.at answered refl (turn_gone i answered s.seq (λ u e. let x : (w ≢ u) × (st.turns u ≡ Some s.seq) = kept_turn u s.seq (w == u) refl e in x.0 (whole.turns.one w u s.seq (turn w s.seq y.at) x.1))))
        (λ p differ. record {
          claimed = refl;
          taken_is = refl;
          turn = λ e. let x : (u : ℕ) × (answered.turns u ≡ Some p) = turn_found i answered p e in
              let f : (w ≢ x.0) × (st.turns x.0 ≡ Some p) = kept_turn x.0 p (w == x.0) refl x.1 in turn_there i st x.0 p (whole.turns.worker x.0 p f.1) f.1;
          copies = refl;
        })
