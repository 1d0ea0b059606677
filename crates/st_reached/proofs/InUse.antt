-- Which drawings are in use: at most one for each thread and one for each worker, and after an entry only such as were in use before it, or
-- are made by it.
use native.Mathlib.Omega.{arith}
use Rattle.std.proofs.Common.{◌≡◌, ◌⊎◌, ◌≤◌, ℕ, ◌+◌, Bool, true, false, cond, ◌&&◌, ◌||◌, ◌==◌, List, [], ◌∷◌, ◌++◌, length, map, Option, Some, None, is_some, refl, sym, ap, subst, ◌∙◌, inl, inr, length-append}
use Rattle.std.proofs.lemmas.Bool.{and_from, and_parts, eq-eqb, eqb-true, eqb-false, le-leb, lt-ltb, or_cases, or_left, or_right, true≢false}
use Rattle.std.proofs.lemmas.List.FromFn.{length-map-range_with_len}
use Rattle.std.specs.List.{range_with_len}
use Rattle.std.specs.Prelude.{nat_lt, nat_le, unwrap_or}
use Rattle.st_model.specs.Tree.{is_number}
use Rattle.st_trace.specs.declared.entry.Entry.{Entry}
use Rattle.st_trace.specs.declared.entry.Entry.TheVariants.{Stored, Entered, Claimed, Copied, Looked, Faulted, Answered, Used, Denied, Ended, Replied, Learned, Reloaded}
use Rattle.st_law.specs.declared.input.Input.{Input}
use Rattle.st_law.specs.Inputs.{IsThread}
use Rattle.st_law.specs.Lawful.{IsLawful, IsServed}
use Rattle.st_law.specs.Machine.{state_after}
use Rattle.st_law.specs.Messages.{Head, unless_same}
use Rattle.st_law.specs.Numbers.{is_at_work, is_in_use, is_kept}
use Rattle.st_law.specs.State.{State, is_live, is_ready, is_worker, progress_in, progress_of_head, seq_at_work, thread_count, worker_at}
use Rattle.st_law.proofs.Least.{least}
use Rattle.st_law.proofs.Moves.{Moves, live_before, moves}
use Rattle.st_law.proofs.Turns.{live_low, some_inj, turn_of, worker_range}
use Rattle.st_law.proofs.Whole.{live_head, live_number}
use Rattle.st_reached.specs.Reached.{IsHolding}
use Rattle.st_reached.proofs.Circle.{Among, among_map, among_range}
use Rattle.st_reached.proofs.Reached.{Reached}

-- ---- what workers are at

pub number_is : (q : ℕ) (o : Option ℕ) → is_number q o ≡ true → o ≡ Some q
number_is q None e = cc
number_is q (Some p) e = ap Some (eqb-true p q e)

module _ (i : Input) (st : State) (q : ℕ) where
  at_work : IsServed i st q → is_at_work i st q ≡ true
  at_work x = let range = worker_range i x.number x.worker in
      least (λ o. is_some o ≡ true) (λ w. is_number q (worker_at st w)) 1 i.options.workers (λ w y. refl)
      (λ none. absurd (true≢false (sym (ap (is_number q) x.at ∙ eq-eqb q q refl) ∙ none x.number range.0 (omega (arith, range.1)))))

  served : is_at_work i st q ≡ true → IsServed i st q
  served = least (λ o. is_some o ≡ true → IsServed i st q) (λ w. is_number q (worker_at st w)) 1 i.options.workers
      (λ w y some. record {
        number = w;
        worker = let low = y.low in let high = y.high in and_from (nat_lt 0 w) (nat_le w i.options.workers) (lt-ltb 0 w (omega (arith, low))) (le-leb w i.options.workers (omega (arith, high)));
        at = number_is q (worker_at st w) y.holds;
      })
      (λ none some. absurd (true≢false (sym some)))

  -- what a worker is at is in use
  pub used_served : IsServed i st q → is_in_use i st q ≡ true
  used_served x = or_right (is_live st q) (is_at_work i st q) (at_work x)

  pub used_live : is_live st q ≡ true → is_in_use i st q ≡ true
  used_live live = or_left (is_live st q) (is_at_work i st q) live

  -- a drawing in use is live, or some worker is at it
  pub used_by : is_in_use i st q ≡ true → (is_live st q ≡ true) ⊎ IsServed i st q
  used_by used = by (or_cases (is_live st q) (is_at_work i st q) used) where
    by : (is_live st q ≡ true) ⊎ (is_at_work i st q ≡ true) → (is_live st q ≡ true) ⊎ IsServed i st q
    by (inl live) = inl live
    by (inr some) = inr (served some)

  -- what a worker is at that is ready is kept
  pub kept_by : IsServed i st q → is_ready (progress_in st q) ≡ true → is_kept i st q ≡ true
  kept_by x ready = and_from (is_at_work i st q) (is_ready (progress_in st q)) (at_work x) ready

  pub kept_served : is_kept i st q ≡ true → IsServed i st q
  kept_served kept = served (and_parts (is_at_work i st q) (is_ready (progress_in st q)) kept).0

-- a worker is at the drawing of its turn if this is live or ready
at_parts : (st : State) (o : Option ℕ) (q : ℕ) → seq_at_work st o ≡ Some q → (is_live st q || is_ready (progress_in st q)) ≡ true
at_parts st None q e = cc
at_parts st (Some p) q e = by (is_live st p || is_ready (progress_in st p)) refl e where
  by : (b : Bool) → (is_live st p || is_ready (progress_in st p)) ≡ b → cond b (Some p) None ≡ Some q → (is_live st q || is_ready (progress_in st q)) ≡ true
  by true f g = subst (λ n. (is_live st n || is_ready (progress_in st n)) ≡ true) (some_inj p q g) f
  by false f g = cc

at_ready : (st : State) (w q : ℕ) → st.turns w ≡ Some q → is_ready (progress_in st q) ≡ true → worker_at st w ≡ Some q
at_ready st w q turn ready = ap (seq_at_work st) turn ∙ ap (λ b. cond b (Some q) None) (or_right (is_live st q) (is_ready (progress_in st q)) ready)

-- a drawing is in use if it is live, or a worker keeps it
pub live_or_kept : (i : Input) (st : State) (q : ℕ) → is_in_use i st q ≡ (is_live st q || is_kept i st q)
live_or_kept i st q = by (is_live st q) refl where
  kept_ready : (b : Bool) → is_live st q ≡ false → is_at_work i st q ≡ b → b ≡ (b && is_ready (progress_in st q))
  kept_ready false e f = refl
  kept_ready true e f = let x : IsServed i st q = served i st q f in
      sym (ap (λ b. b || is_ready (progress_in st q)) (sym e) ∙ at_parts st (st.turns x.number) q x.at)

  by : (b : Bool) → is_live st q ≡ b → (b || is_at_work i st q) ≡ (b || is_kept i st q)
  by true e = refl
  by false e = kept_ready (is_at_work i st q) e refl

-- ---- at most one drawing for each thread and one for each worker

-- the drawings of the calls that threads hold, as far as they hold any
abbrev pub thread_drawings : Input → State → List ℕ
thread_drawings i st = map (λ t. (st.threads t).number) (range_with_len 1 (thread_count i))

-- the drawings of the workers' turns, 0 for none
abbrev pub worker_drawings : Input → State → List ℕ
worker_drawings i st = map (λ w. unwrap_or (st.turns w) 0) (range_with_len 1 i.options.workers)

pub drawings_few : (i : Input) (st : State) → length (thread_drawings i st ++ worker_drawings i st) ≡ thread_count i + i.options.workers
drawings_few i st =
    let threads = length-map-range_with_len (λ t. (st.threads t).number) 1 (thread_count i) in
    let workers = length-map-range_with_len (λ w. unwrap_or (st.turns w) 0) 1 i.options.workers in
    let both = length-append (thread_drawings i st) (worker_drawings i st) in
    omega (arith, threads, workers, both)

module _ (i : Input) (st : State) (reached : Reached i st) (q : ℕ) where
  -- a live drawing is that of a thread
  pub live_listed : is_live st q ≡ true → Among q (thread_drawings i st)
  live_listed live =
      let posted : (head : Head) × ((st.messages q).head ≡ Some head) = live_head st q live in
      let x : IsHolding st posted.0.tid q = reached.owned.own q posted.0 live posted.1 in
      let thread : IsThread i posted.0.tid = reached.whole.calls.started posted.0.tid x.started in
      subst (λ n. Among n (thread_drawings i st)) x.number
      (among_map (λ t. (st.threads t).number) posted.0.tid (range_with_len 1 (thread_count i)) (among_range posted.0.tid 1 (thread_count i) thread.0 (let high = thread.1 in omega (arith, high))))

  -- what a worker is at is the drawing of its turn
  pub served_listed : IsServed i st q → Among q (worker_drawings i st)
  served_listed x =
      let range = worker_range i x.number x.worker in
      subst (λ n. Among n (worker_drawings i st)) (ap (λ o. unwrap_or o 0) (turn_of st (st.turns x.number) q x.at))
      (among_map (λ w. unwrap_or (st.turns w) 0) x.number (range_with_len 1 i.options.workers) (among_range x.number 1 i.options.workers range.0 (let high = range.1 in omega (arith, high))))

  pub used_listed : is_in_use i st q ≡ true → Among q (thread_drawings i st) ⊎ Among q (worker_drawings i st)
  used_listed used = by (used_by i st q used) where
    by : (is_live st q ≡ true) ⊎ IsServed i st q → Among q (thread_drawings i st) ⊎ Among q (worker_drawings i st)
    by (inl live) = inl (live_listed live)
    by (inr x) = inr (served_listed x)

  served_made : IsServed i st q → (1 ≤ q) × (q ≤ st.posted)
  served_made x = let claimed = reached.whole.turns.claimed x.number q (turn_of st (st.turns x.number) q x.at) in
      (claimed_number (reached.whole.posted.claimed q claimed), reached.whole.turns.low q claimed) where
        claimed_number : (head : Head) × ((st.messages q).head ≡ Some head) → 1 ≤ q
        claimed_number y = by (q == 0) refl where
          by : (b : Bool) → (q == 0) ≡ b → 1 ≤ q
          by false e = let differ = eqb-false q 0 e in omega (arith, differ)
          by true e = absurd (none (sym (ap (λ n. (st.messages n).head) (eqb-true q 0 e) ∙ reached.whole.posted.zero) ∙ y.1)) where
            none : None ≡ Some y.0 → ⊥
            none f = cc

  -- a drawing in use was made
  pub used_made : is_in_use i st q ≡ true → (1 ≤ q) × (q ≤ st.posted)
  used_made used = by (used_by i st q used) where
    by : (is_live st q ≡ true) ⊎ IsServed i st q → (1 ≤ q) × (q ≤ st.posted)
    by (inl live) = (live_number st reached.whole.posted q live, live_low i st reached.whole.calls q live)
    by (inr x) = served_made x

-- ---- after an entry

module _ (i : Input) (st : State) (reached : Reached i st) (q : ℕ) (low : q ≤ st.posted) where
  -- what is ready after an entry was ready before it, or some worker was at it
  abbrev ReadyBefore : Entry → Type 0
  ReadyBefore e = is_ready (progress_in (state_after i st e) q) ≡ true → (is_ready (progress_in st q) ≡ true) ⊎ IsServed i st q

  ready_same : (e : Entry) → IsLawful i st e → ((state_after i st e).messages q).words ≡ (st.messages q).words → ((state_after i st e).messages q).lookups ≡ (st.messages q).lookups
      → progress_in (state_after i st e) q ≡ progress_in st q
  ready_same e lawful words lookups = let moved : Moves st (state_after i st e) = moves i st reached.whole.calls e lawful in
      λ k. progress_of_head (moved.heads q low k) (words k) (lookups k)

  unchanged : (e : Entry) → IsLawful i st e → ((state_after i st e).messages q).words ≡ (st.messages q).words → ((state_after i st e).messages q).lookups ≡ (st.messages q).lookups → ReadyBefore e
  unchanged e lawful words lookups ready = inl (ap is_ready (sym (ready_same e lawful words lookups)) ∙ ready)

  ready_before : (e : Entry) → IsLawful i st e → ReadyBefore e
  ready_before (Copied p part place word) y = by (p == q) refl where
    by : (b : Bool) → (p == q) ≡ b → ReadyBefore (Copied p part place word)
    by true e = λ ready. inr (subst (IsServed i st) (eqb-true p q e) y.served)
    by false e = unchanged (Copied p part place word) y (λ k j. cond (e k && part == j) ((st.messages q).words j ++ word ∷ []) ((st.messages q).words j)) refl
  ready_before (Looked p part name seen) y = by (p == q) refl where
    by : (b : Bool) → (p == q) ≡ b → ReadyBefore (Looked p part name seen)
    by true e = λ ready. inr (subst (IsServed i st) (eqb-true p q e) y.served)
    by false e = unchanged (Looked p part name seen) y refl (λ k j. cond (e k && part == j) ((st.messages q).lookups j ++ seen ∷ []) ((st.messages q).lookups j))
  ready_before (Stored u place word) y = unchanged (Stored u place word) y refl refl
  ready_before (Entered u call regs way) y = unchanged (Entered u call regs way) y refl refl
  ready_before (Claimed w p) y = unchanged (Claimed w p) y refl refl
  ready_before (Faulted p errno) y = unchanged (Faulted p errno) y refl refl
  ready_before (Answered w s v applied) y = unchanged (Answered w s v applied) y refl refl
  ready_before (Used u seq call regs args ids result changes) y = unchanged (Used u seq call regs args ids result changes) y refl refl
  ready_before (Reloaded u n done changes) y = unchanged (Reloaded u n done changes) y refl refl
  ready_before (Denied u seq errno cause) y = unchanged (Denied u seq errno cause) y refl refl
  ready_before (Ended u) y = unchanged (Ended u) y refl refl
  ready_before (Learned p n) y = unchanged (Learned p n) y refl refl
  ready_before (Replied p reply n) y = unchanged (Replied p reply n) y refl refl

  -- a worker's turn after an entry was its turn before it, or it claims the drawing
  turn_before : (e : Entry) → IsLawful i st e → (w : ℕ) → (state_after i st e).turns w ≡ Some q → (st.turns w ≡ Some q) ⊎ (is_live st q ≡ true)
  turn_before (Claimed v p) y w = by (v == w) where
    by : (b : Bool) → cond b (Some p) (st.turns w) ≡ Some q → (st.turns w ≡ Some q) ⊎ (is_live st q ≡ true)
    by true e = inr (subst (λ n. is_live st n ≡ true) (some_inj p q e) y.live)
    by false e = inl e
  turn_before (Answered v s verdict applied) y w = by (v == w) where
    by : (b : Bool) → cond b None (st.turns w) ≡ Some q → (st.turns w ≡ Some q) ⊎ (is_live st q ≡ true)
    by true e = cc
    by false e = inl e
  turn_before (Faulted p errno) y w = by (st.turns w) where
    by : (o : Option ℕ) → unless_same p o ≡ Some q → (o ≡ Some q) ⊎ (is_live st q ≡ true)
    by None e = cc
    by (Some n) e = same (p == n) e where
      same : (b : Bool) → cond b None (Some n) ≡ Some q → (Some n ≡ Some q) ⊎ (is_live st q ≡ true)
      same true f = cc
      same false f = inl f
  turn_before _ y w = inl

  module _ (e : Entry) (lawful : IsLawful i st e) where
    live_then : is_live (state_after i st e) q ≡ true → is_live st q ≡ true
    live_then live = live_before st (state_after i st e) (moves i st reached.whole.calls e lawful) q low live

    turn_used : (w : ℕ) → st.turns w ≡ Some q → is_worker i w ≡ true → is_ready (progress_in st q) ≡ true → is_in_use i st q ≡ true
    turn_used w turn worker ready = used_served i st q (record { number = w; worker = worker; at = at_ready st w q turn ready })

    served_before : IsServed i (state_after i st e) q → is_in_use i st q ≡ true
    served_before x = by (turn_before e lawful x.number (turn_of (state_after i st e) ((state_after i st e).turns x.number) q x.at)) where
      ready_used : (w : ℕ) → st.turns w ≡ Some q → is_worker i w ≡ true → (is_ready (progress_in st q) ≡ true) ⊎ IsServed i st q → is_in_use i st q ≡ true
      ready_used w turn worker (inl ready) = turn_used w turn worker ready
      ready_used w turn worker (inr y) = used_served i st q y

      by : (st.turns x.number ≡ Some q) ⊎ (is_live st q ≡ true) → is_in_use i st q ≡ true
      by (inr live) = used_live i st q live
      by (inl turn) = parts (or_cases (is_live (state_after i st e) q) (is_ready (progress_in (state_after i st e) q)) (at_parts (state_after i st e) ((state_after i st e).turns x.number) q x.at)) where
        parts : (is_live (state_after i st e) q ≡ true) ⊎ (is_ready (progress_in (state_after i st e) q) ≡ true) → is_in_use i st q ≡ true
        parts (inl live) = used_live i st q (live_then live)
        parts (inr ready) = ready_used x.number turn x.worker (ready_before e lawful ready)

    -- a drawing that was made before an entry and is in use after it was in use before it
    pub used_before : is_in_use i (state_after i st e) q ≡ true → is_in_use i st q ≡ true
    used_before used = by (used_by i (state_after i st e) q used) where
      by : (is_live (state_after i st e) q ≡ true) ⊎ IsServed i (state_after i st e) q → is_in_use i st q ≡ true
      by (inl live) = used_live i st q (live_then live)
      by (inr x) = served_before x

-- a drawing that a worker is at after an entry that leaves turns and copies is live then, or is kept before it
pub turn_same : (i : Input) (st : State) → Reached i st → (q : ℕ) (e : Entry) → IsLawful i st e → (state_after i st e).turns ≡ st.turns
    → ((state_after i st e).messages q).words ≡ (st.messages q).words → ((state_after i st e).messages q).lookups ≡ (st.messages q).lookups
    → IsServed i (state_after i st e) q → (is_live (state_after i st e) q ≡ true) ⊎ (is_kept i st q ≡ true)
turn_same i st reached q e lawful turns words lookups x = by (or_cases (is_live (state_after i st e) q) (is_ready (progress_in (state_after i st e) q)) (at_parts (state_after i st e) ((state_after i st e).turns x.number) q x.at)) where
  turn : st.turns x.number ≡ Some q
  turn = ap (λ (f : ℕ → Option ℕ). f x.number) (sym turns) ∙ turn_of (state_after i st e) ((state_after i st e).turns x.number) q x.at

  by : (is_live (state_after i st e) q ≡ true) ⊎ (is_ready (progress_in (state_after i st e) q) ≡ true) → (is_live (state_after i st e) q ≡ true) ⊎ (is_kept i st q ≡ true)
  by (inl live) = inl live
  by (inr then) =
      let low : q ≤ st.posted = reached.whole.turns.low q (reached.whole.turns.claimed x.number q turn) in
      let ready : is_ready (progress_in st q) ≡ true = ap is_ready (sym (ready_same i st reached q low e lawful words lookups)) ∙ then in
      inr (kept_by i st q (record { number = x.number; worker = x.worker; at = at_ready st x.number q turn ready }) ready)
