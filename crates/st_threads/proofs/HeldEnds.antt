-- The held calls of threads, and how they end with calls and with threads.
use native.Mathlib.Omega.{arith}
use Rattle.std.proofs.Common.{◌≡◌, ◌≢◌, ◌≤◌, ◌+◌, ◌-◌, ◌∙◌, ℕ, zero, suc, ◌&&◌, ◌||◌, ◌==◌, Bool, true, false, cond, set, List, ◌∷◌, length, Option, Some, None, inl, inr, refl, ap, sym, subst}
use Rattle.std.proofs.lemmas.Bool.{cases_eq, eq-eqb, le-leb, ne_eqb, true≢false}
use Rattle.std.proofs.Math.Dec.{leb-suc-zero}
use Rattle.std.proofs.lemmas.Bool.Decides.{leb_tells}
use Rattle.std.proofs.lemmas.List.{length-set}
use Rattle.std.proofs.lemmas.Option.{none-some, same_Some}
use Rattle.std.specs.Option.{option_map}
use Rattle.std.specs.Prelude.{nat_le, IfSome}
use Rattle.st_base.specs.Numbered.{item_at_number}
use Rattle.st_messages.specs.Messages as calls
use Rattle.st_model.specs.Processes.{Processes}
use Rattle.st_model.specs.Tree.{is_number}
use Rattle.st_trace.specs.declared.entry.Change.{Change}
use Rattle.st_trace.specs.declared.entry.Change.TheVariants.{Dying, Execed}
use Rattle.st_law.specs.Messages.{Head}
use Rattle.st_law.specs.State.{State}
use Rattle.st_workers.specs.Numbers.{KeepsNumbers}
use Rattle.st_workers.specs.Refinement.{RepresentsMessages}
use Rattle.st_workers.specs.UnderWay.{UnderWay}
use Rattle.st_workers.proofs.Ended.{lives_as}
use Rattle.st_workers.proofs.Fewer.{fewer_twice}
use Rattle.st_workers.proofs.Turns.{item_put, number_within}
use Rattle.st_threads.specs.Ending.{AreLiveDrawingsHeld, EndsCall, HasDrawing, HaveCalls, HaveEnded, IsDrawingOf, is_end_of, is_ended_by, is_head_among, life_but, life_without_number, row_dying_if}
use Rattle.st_threads.specs.Thread.{ThreadRow, drawing_held}
use Rattle.st_threads.proofs.Rows.{none_closed}

-- ---- a call ends

pub not_dead : (b alive : Bool) → cond b false alive ≡ true → (b ≡ false) × (alive ≡ true)
not_dead true alive e = cc
not_dead false alive e = (refl, e)

-- the number that a thread holds is that of its head
mine_alone : (st : State) (alive : ℕ → Bool) (rows : List ThreadRow) → AreLiveDrawingsHeld st alive rows → (t : ℕ) (row : ThreadRow) → item_at_number rows t ≡ Some row → (q : ℕ) (head : Head) → (st.messages q).head ≡ Some head → head.tid ≢ t → is_number q (drawing_held row) ≡ false
mine_alone st alive rows are t row row_is q head posted other = by (drawing_held row) refl where
  by : (o : Option ℕ) → drawing_held row ≡ o → is_number q o ≡ false
  by None e = refl
  by (Some p) e = ne_eqb p q (λ same. let x = are.lives t row p row_is e in other (ap (λ (h : Head). h.tid) (same_Some head x.head (sym posted ∙ ap (λ (n : ℕ). (st.messages n).head) (sym same) ∙ x.posted)) ∙ x.tid_is))

module _ (st : State) (alive : ℕ → Bool) (rows : List ThreadRow) (are : AreLiveDrawingsHeld st alive rows) (t : ℕ) (row : ThreadRow) (row_is : item_at_number rows t ≡ Some row) where
  abbrev closed : ThreadRow
  closed = record row { pending = None }

  at : (u : ℕ) → item_at_number (set rows (t - 1) closed) u ≡ cond (u == t) (Some closed) (item_at_number rows u)
  at u = let within = number_within rows t row row_is in item_put rows t closed within.0 within.1 u

  closed_own : (q : ℕ) (head : Head) → life_without_number alive (drawing_held row) q ≡ true → (st.messages q).head ≡ Some head → HasDrawing (item_at_number (set rows (t - 1) closed) head.tid) q
  closed_own q head life posted =
      let parts = not_dead (is_number q (drawing_held row)) (alive q) life in
      let was : HasDrawing (item_at_number rows head.tid) q = are.own q head parts.1 posted in
      elim (cases_eq head.tid t) [
        | inl e ↦ let mine : drawing_held row ≡ Some q = subst (λ (o : Option ThreadRow). HasDrawing o q) (ap (item_at_number rows) e ∙ row_is) was in
            absurd (true≢false (sym (ap (is_number q) mine ∙ eq-eqb q q refl) ∙ parts.0))
        | inr ne ↦ subst (λ (o : Option ThreadRow). HasDrawing o q) (sym (at head.tid ∙ ap (λ (b : Bool). cond b (Some closed) (item_at_number rows head.tid)) (ne_eqb head.tid t ne))) was
      ]

  closed_lives : (u : ℕ) (other : ThreadRow) (q : ℕ) → item_at_number (set rows (t - 1) closed) u ≡ Some other → drawing_held other ≡ Some q → IsDrawingOf st (life_without_number alive (drawing_held row)) u q
  closed_lives u other q there e = elim (cases_eq u t) [
    | inl same ↦ let is : closed ≡ other = same_Some closed other (sym (at u ∙ ap (λ (b : Bool). cond b (Some closed) (item_at_number rows u)) (eq-eqb u t same)) ∙ there) in
        absurd (none-some q (sym (none_closed row) ∙ ap drawing_held is ∙ e))
    | inr ne ↦
        let was : IsDrawingOf st alive u q = are.lives u other q (sym (at u ∙ ap (λ (b : Bool). cond b (Some closed) (item_at_number rows u)) (ne_eqb u t ne)) ∙ there) e in
        record {
          lives = ap (λ (b : Bool). cond b false (alive q)) (mine_alone st alive rows are t row row_is q was.head was.posted (λ same. ne (sym was.tid_is ∙ same))) ∙ was.lives;
          head = was.head;
          posted = was.posted;
          tid_is = was.tid_is;
        }
  ]

  -- each live number is still that of a held call after one call has ended
  pub closed_held : AreLiveDrawingsHeld st (life_without_number alive (drawing_held row)) (set rows (t - 1) closed)
  closed_held = record { own = closed_own; lives = closed_lives }

-- ---- dying threads

spared : (o : Option ThreadRow) (q : ℕ) → HasDrawing o q → HasDrawing (option_map (λ (row : ThreadRow). row_dying_if false row) o) q
spared None q x = x
spared (Some row) q x = x

module _ (dies : ℕ → Bool) (rows new : List ThreadRow) (each : (t : ℕ) → item_at_number new t ≡ option_map (λ (row : ThreadRow). row_dying_if (dies t) row) (item_at_number rows t)) (st : State) (alive : ℕ → Bool) (are : AreLiveDrawingsHeld st alive rows) where
  left_own : (q : ℕ) (head : Head) → life_but dies st alive q ≡ true → (st.messages q).head ≡ Some head → HasDrawing (item_at_number new head.tid) q
  left_own q head life posted =
      let parts = not_dead (is_head_among dies (st.messages q).head) (alive q) life in
      let goes : dies head.tid ≡ false = ap (is_head_among dies) (sym posted) ∙ parts.0 in
      subst (λ (o : Option ThreadRow). HasDrawing o q) (sym (each head.tid ∙ ap (λ (b : Bool). option_map (λ (row : ThreadRow). row_dying_if b row) (item_at_number rows head.tid)) goes))
      (spared (item_at_number rows head.tid) q (are.own q head parts.1 posted))

  left_lives : (t : ℕ) (other : ThreadRow) (q : ℕ) → item_at_number new t ≡ Some other → drawing_held other ≡ Some q → IsDrawingOf st (life_but dies st alive) t q
  left_lives t other q there e = by (item_at_number rows t) refl (dies t) refl (sym (each t) ∙ there) where
    by : (o : Option ThreadRow) → item_at_number rows t ≡ o → (b : Bool) → dies t ≡ b → option_map (λ (row : ThreadRow). row_dying_if b row) o ≡ Some other → IsDrawingOf st (life_but dies st alive) t q
    by None row_is b goes x = absurd (none-some other x)
    by (Some row) row_is true goes x = absurd (none-some q (ap drawing_held (same_Some (record row { dying = true }) other x) ∙ e))
    by (Some row) row_is false goes x =
        let was : IsDrawingOf st alive t q = are.lives t row q row_is (ap drawing_held (same_Some row other x) ∙ e) in
        record {
          lives = (λ k. cond ((ap (is_head_among dies) was.posted ∙ ap dies was.tid_is ∙ goes) k) false (was.lives k));
          head = was.head;
          posted = was.posted;
          tid_is = was.tid_is;
        }

  -- each live number is still that of a held call after threads have ended with theirs
  pub left_held : AreLiveDrawingsHeld st (life_but dies st alive) new
  left_held = record { own = left_own; lives = left_lives }

-- ---- one after the other

none_among : (o : Option Head) → is_head_among (λ t. false) o ≡ false
none_among None = refl
none_among (Some head) = refl

all_spared : (o : Option ThreadRow) → o ≡ option_map (λ (row : ThreadRow). row_dying_if false row) o
all_spared None = refl
all_spared (Some row) = refl

-- if no thread ends, nothing changes
pub none_ended : (rows : List ThreadRow) (workers : UnderWay) → HaveEnded (λ t. false) rows workers rows workers
none_ended rows workers = record {
  count = refl;
  rows = λ t. all_spared (item_at_number rows t);
  numbers = λ numbers has. (numbers.in_use, has);
  kept = λ i st alive kept are. subst (λ (live : ℕ → Bool). RepresentsMessages i st live workers) (λ k other. cond (sym (none_among (st.messages other).head) k) false (alive other)) kept;
}

both_die : (a b : Bool) (o : Option ThreadRow) → option_map (λ (row : ThreadRow). row_dying_if b row) (option_map (λ (row : ThreadRow). row_dying_if a row) o) ≡ option_map (λ (row : ThreadRow). row_dying_if (a || b) row) o
both_die a b None = refl
both_die true true (Some row) = refl
both_die true false (Some row) = refl
both_die false b (Some row) = refl

both_among : (a b : ℕ → Bool) (o : Option Head) (alive : Bool) → cond (is_head_among b o) false (cond (is_head_among a o) false alive) ≡ cond (is_head_among (λ t. a t || b t) o) false alive
both_among a b None alive = refl
both_among a b (Some head) alive = by (a head.tid) (b head.tid) where
  by : (x y : Bool) → cond y false (cond x false alive) ≡ cond (x || y) false alive
  by true true = refl
  by true false = refl
  by false y = refl

-- some threads end, and then others
pub both_ended : (a b : ℕ → Bool) (rows : List ThreadRow) (workers : UnderWay) (mid : List ThreadRow) (between : UnderWay) (new : List ThreadRow) (left : UnderWay)
    → HaveEnded a rows workers mid between → HaveEnded b mid between new left → HaveEnded (λ t. a t || b t) rows workers new left
both_ended a b rows workers mid between new left first second = record {
  count = second.count ∙ first.count;
  numbers = fewer_twice workers.calls between.calls left.calls first.numbers second.numbers;
  rows = λ t. second.rows t ∙ ap (option_map (λ (row : ThreadRow). row_dying_if (b t) row)) (first.rows t) ∙ both_die (a t) (b t) (item_at_number rows t);
  kept = λ i st alive kept are. subst (λ (live : ℕ → Bool). RepresentsMessages i st live left) (λ k other. both_among a b (st.messages other).head (alive other) k)
      (second.kept i st (life_but a st alive) (first.kept i st alive kept are) (left_held a rows mid first.rows st alive are));
}

-- the same threads end, by an equal test
pub ended_as : (a b : ℕ → Bool) → ((t : ℕ) → a t ≡ b t) → (rows : List ThreadRow) (workers : UnderWay) (new : List ThreadRow) (left : UnderWay) → HaveEnded a rows workers new left → HaveEnded b rows workers new left
ended_as a b same rows workers new left x = subst (λ (dies : ℕ → Bool). HaveEnded dies rows workers new left) (λ k t. same t k) x

-- ---- one thread

module _ (rows : List ThreadRow) (workers left : UnderWay) (u : ℕ) (row : ThreadRow) (row_is : item_at_number rows u ≡ Some row) (ends : EndsCall (drawing_held row) workers left) (fewer : KeepsNumbers workers.calls left.calls) where
  one_row : (t : ℕ) → item_at_number (set rows (u - 1) (record row { dying = true })) t ≡ option_map (λ (each : ThreadRow). row_dying_if (t == u) each) (item_at_number rows t)
  one_row t =
      let within = number_within rows u row row_is in
      let put = item_put rows u (record row { dying = true }) within.0 within.1 t in
      elim (cases_eq t u) [
        | inl e ↦ put ∙ ap (λ (b : Bool). cond b (Some (record row { dying = true })) (item_at_number rows t)) (eq-eqb t u e)
            ∙ sym ((λ k. option_map (λ (each : ThreadRow). row_dying_if (eq-eqb t u e k) each) ((ap (item_at_number rows) e ∙ row_is) k)))
        | inr ne ↦ put ∙ ap (λ (b : Bool). cond b (Some (record row { dying = true })) (item_at_number rows t)) (ne_eqb t u ne)
            ∙ all_spared (item_at_number rows t) ∙ ap (λ (b : Bool). option_map (λ (each : ThreadRow). row_dying_if b each) (item_at_number rows t)) (sym (ne_eqb t u ne))
      ]

  module _ (st : State) (alive : ℕ → Bool) (are : AreLiveDrawingsHeld st alive rows) (other : ℕ) where
    by_head : (o : Option Head) → (st.messages other).head ≡ o → alive other ≡ true → is_number other (drawing_held row) ≡ is_head_among (λ t. t == u) o
    by_head None posted live = by (drawing_held row) refl where
      by : (o : Option ℕ) → drawing_held row ≡ o → is_number other o ≡ false
      by None e = refl
      by (Some p) e = ne_eqb p other (λ same. let x = are.lives u row p row_is e in none-some x.head (sym posted ∙ ap (λ (n : ℕ). (st.messages n).head) (sym same) ∙ x.posted))
    by_head (Some head) posted live = elim (cases_eq head.tid u) [
      | inl e ↦ let mine : drawing_held row ≡ Some other = subst (λ (o : Option ThreadRow). HasDrawing o other) (ap (item_at_number rows) e ∙ row_is) (are.own other head live posted) in
          ap (is_number other) mine ∙ eq-eqb other other refl ∙ sym (eq-eqb head.tid u e)
      | inr ne ↦ mine_alone st alive rows are u row row_is other head posted ne ∙ sym (ne_eqb head.tid u ne)
    ]

    one_life : (b : Bool) → alive other ≡ b → life_without_number alive (drawing_held row) other ≡ life_but (λ t. t == u) st alive other
    one_life true live = ap (λ (b : Bool). cond b false (alive other)) (by_head (st.messages other).head refl live)
    one_life false dead = ap (λ (b : Bool). cond (is_number other (drawing_held row)) false b) dead ∙ none (is_number other (drawing_held row)) (is_head_among (λ t. t == u) (st.messages other).head)
        ∙ sym (ap (λ (b : Bool). cond (is_head_among (λ t. t == u) (st.messages other).head) false b) dead) where
          none : (x y : Bool) → cond x false false ≡ cond y false false
          none true true = refl
          none true false = refl
          none false true = refl
          none false false = refl

  -- one thread is dying, and its held call has ended
  pub one_ended : HaveEnded (λ t. t == u) rows workers (set rows (u - 1) (record row { dying = true })) left
  one_ended = record {
    count = length-set rows (u - 1) _;
    rows = one_row;
    numbers = fewer;
    kept = λ i st alive kept are. subst (λ (live : ℕ → Bool). RepresentsMessages i st live left) (λ k other. one_life st alive are other (alive other) refl k) (ends i st alive kept);
  }

-- ---- the threads of the script up to a number

-- the same threads end, by a test that agrees wherever there is a row
pub ended_where : (a b : ℕ → Bool) (rows : List ThreadRow) → ((t : ℕ) (row : ThreadRow) → item_at_number rows t ≡ Some row → a t ≡ b t) → (workers : UnderWay) (new : List ThreadRow) (left : UnderWay)
    → HaveEnded a rows workers new left → HaveEnded b rows workers new left
ended_where a b rows same workers new left x = record {
  count = x.count;
  numbers = x.numbers;
  rows = λ t. x.rows t ∙ by_row t (item_at_number rows t) refl;
  kept = λ i st alive kept are. subst (λ (live : ℕ → Bool). RepresentsMessages i st live left) (λ k other. lives st alive are other (alive other) refl k) (x.kept i st alive kept are);
} where
  by_row : (t : ℕ) (o : Option ThreadRow) → item_at_number rows t ≡ o → option_map (λ (row : ThreadRow). row_dying_if (a t) row) o ≡ option_map (λ (row : ThreadRow). row_dying_if (b t) row) o
  by_row t None e = refl
  by_row t (Some row) e = ap (λ (dies : Bool). Some (row_dying_if dies row)) (same t row e)

  dead : (x y : Bool) → cond x false false ≡ cond y false false
  dead true true = refl
  dead true false = refl
  dead false true = refl
  dead false false = refl

  held_by : (t q : ℕ) (o : Option ThreadRow) → item_at_number rows t ≡ o → HasDrawing o q → a t ≡ b t
  held_by t q None e x = absurd x
  held_by t q (Some row) e x = same t row e

  among : (st : State) (alive : ℕ → Bool) → AreLiveDrawingsHeld st alive rows → (other : ℕ) → alive other ≡ true → (o : Option Head) → (st.messages other).head ≡ o → is_head_among a o ≡ is_head_among b o
  among st alive are other live None posted = refl
  among st alive are other live (Some head) posted = held_by head.tid other (item_at_number rows head.tid) refl (are.own other head live posted)

  lives : (st : State) (alive : ℕ → Bool) → AreLiveDrawingsHeld st alive rows → (other : ℕ) (live : Bool) → alive other ≡ live → life_but a st alive other ≡ life_but b st alive other
  lives st alive are other false e = ap (λ (x : Bool). cond (is_head_among a (st.messages other).head) false x) e ∙ dead (is_head_among a (st.messages other).head) (is_head_among b (st.messages other).head)
      ∙ ap (λ (x : Bool). cond (is_head_among b (st.messages other).head) false x) (sym e)
  lives st alive are other true e = ap (λ (x : Bool). cond x false (alive other)) (among st alive are other e (st.messages other).head refl)

above_zero : (rows : List ThreadRow) (t : ℕ) (row : ThreadRow) → item_at_number rows t ≡ Some row → (d : Bool) → false ≡ (nat_le t 0 && d)
above_zero rows zero row e d = absurd (none-some row e)
above_zero rows (suc k) row e d = ap (λ (b : Bool). b && d) (sym (leb-suc-zero k))

-- at first no thread has ended
pub none_so_far : (dies : ℕ → Bool) (rows : List ThreadRow) (workers : UnderWay) → HaveEnded (λ t. nat_le t 0 && dies t) rows workers rows workers
none_so_far dies rows workers = ended_where (λ t. false) (λ t. nat_le t 0 && dies t) rows (λ t row e. above_zero rows t row e (dies t)) workers rows workers (none_ended rows workers)

le_apart : (t n : ℕ) → t ≢ suc n → nat_le t n ≡ nat_le t (n + 1)
le_apart t n ne = elim (leb_tells t n) [
  | inl x ↦ let low = x.1 in x.0 ∙ sym (le-leb t (n + 1) (omega (arith, low)))
  | inr x ↦ let high = x.1 in x.0 ∙ sym (elim (leb_tells t (n + 1)) [
    | inl y ↦ let low = y.1 in absurd (ne (omega (arith, low, high)))
    | inr y ↦ y.0
  ])
]

or_true : (b : Bool) → (b || true) ≡ true
or_true true = refl
or_true false = refl

or_false : (b : Bool) → (b || false) ≡ b
or_false true = refl
or_false false = refl

one_more : (n t : ℕ) (dies : ℕ → Bool) → dies (suc n) ≡ true → ((nat_le t n && dies t) || (t == suc n)) ≡ (nat_le t (n + 1) && dies t)
one_more n t dies goes = elim (cases_eq t (suc n)) [
  | inl e ↦ ap (λ (b : Bool). (nat_le t n && dies t) || b) (eq-eqb t (suc n) e) ∙ or_true (nat_le t n && dies t)
      ∙ sym (ap (λ (b : Bool). b && dies t) (le-leb t (n + 1) (omega (arith, e))) ∙ ap dies e ∙ goes)
  | inr ne ↦ ap (λ (b : Bool). (nat_le t n && dies t) || b) (ne_eqb t (suc n) ne) ∙ or_false (nat_le t n && dies t) ∙ ap (λ (b : Bool). b && dies t) (le_apart t n ne)
]

and_false : (b : Bool) → (b && false) ≡ false
and_false true = refl
and_false false = refl

no_more : (n t : ℕ) (dies : ℕ → Bool) → dies (suc n) ≡ false → (nat_le t n && dies t) ≡ (nat_le t (n + 1) && dies t)
no_more n t dies stays = elim (cases_eq t (suc n)) [
  | inl e ↦ ap (λ (b : Bool). nat_le t n && b) (ap dies e ∙ stays) ∙ and_false (nat_le t n) ∙ sym (ap (λ (b : Bool). nat_le t (n + 1) && b) (ap dies e ∙ stays) ∙ and_false (nat_le t (n + 1)))
  | inr ne ↦ ap (λ (b : Bool). b && dies t) (le_apart t n ne)
]

module _ (dies : ℕ → Bool) (rows : List ThreadRow) (workers : UnderWay) (now : List ThreadRow) (between : UnderWay) (n : ℕ) (so_far : HaveEnded (λ t. nat_le t n && dies t) rows workers now between) where
  -- the next thread ends, too
  pub next_ended : dies (suc n) ≡ true → (row : ThreadRow) → item_at_number now (suc n) ≡ Some row → (left : UnderWay) → EndsCall (drawing_held row) between left → KeepsNumbers between.calls left.calls
      → HaveEnded (λ t. nat_le t (n + 1) && dies t) rows workers (set now n (record row { dying = true })) left
  next_ended goes row row_is left ends fewer =
      let here : suc n - 1 ≡ n = omega arith in
      subst (λ (k : ℕ). HaveEnded (λ t. nat_le t (n + 1) && dies t) rows workers (set now k (record row { dying = true })) left) here
      (ended_as (λ t. (nat_le t n && dies t) || (t == suc n)) (λ t. nat_le t (n + 1) && dies t) (λ t. one_more n t dies goes) rows workers (set now (suc n - 1) (record row { dying = true })) left
      (both_ended (λ t. nat_le t n && dies t) (λ t. t == suc n) rows workers now between (set now (suc n - 1) (record row { dying = true })) left so_far (one_ended now between left (suc n) row row_is ends fewer)))

  -- the next thread goes on
  pub next_spared : dies (suc n) ≡ false → HaveEnded (λ t. nat_le t (n + 1) && dies t) rows workers now between
  next_spared stays = ended_as (λ t. nat_le t n && dies t) (λ t. nat_le t (n + 1) && dies t) (λ t. no_more n t dies stays) rows workers now between so_far

  -- the number of its held call is live
  pub next_lives : HaveCalls rows workers → (row : ThreadRow) → item_at_number now (suc n) ≡ Some row → IfSome (drawing_held row) (λ q. calls.is_live_drawing between.calls q ≡ true)
  next_lives have row row_is = by (drawing_held row) refl where
    held : AreLiveDrawingsHeld have.state (life_but (λ t. nat_le t n && dies t) have.state have.alive) now
    held = left_held (λ t. nat_le t n && dies t) rows now so_far.rows have.state have.alive have.held

    by : (o : Option ℕ) → drawing_held row ≡ o → IfSome o (λ q. calls.is_live_drawing between.calls q ≡ true)
    by None e = tt
    by (Some q) e = lives_as have.input have.state (life_but (λ t. nat_le t n && dies t) have.state have.alive) between q (so_far.kept have.input have.state have.alive have.kept have.held) ∙ (held.lives (suc n) row q row_is e).lives

-- at last all these threads have ended
pub all_ended : (dies : ℕ → Bool) (rows : List ThreadRow) (workers : UnderWay) (new : List ThreadRow) (left : UnderWay) (n : ℕ) → length rows ≤ n → HaveEnded (λ t. nat_le t n && dies t) rows workers new left → HaveEnded dies rows workers new left
all_ended dies rows workers new left n high x = ended_where (λ t. nat_le t n && dies t) dies rows
    (λ t row e. ap (λ (b : Bool). b && dies t) (le-leb t n (let within = (number_within rows t row e).1 in omega (arith, within, high)))) workers new left x

-- ---- what changes end

-- the calls that are still held after threads have ended with theirs
pub calls_after : (dies : ℕ → Bool) (rows : List ThreadRow) (workers : UnderWay) (new : List ThreadRow) (left : UnderWay) → HaveEnded dies rows workers new left → HaveCalls rows workers → HaveCalls new left
calls_after dies rows workers new left ended have = record {
  input = have.input;
  state = have.state;
  alive = life_but dies have.state have.alive;
  kept = ended.kept have.input have.state have.alive have.kept have.held;
  held = left_held dies rows new ended.rows have.state have.alive have.held;
}

-- a change that neither ends a process nor runs another binary ends no thread
pub ends_none : (processes : Processes) (caller pid t : ℕ) (change : Change) → ((dying : ℕ) → change ≡ Dying dying → ⊥) → ((binary : List ℕ) (space : ℕ) → change ≡ Execed binary space → ⊥) → is_end_of processes caller pid t change ≡ false
ends_none processes caller pid t (Dying dying) alive same = absurd (alive dying refl)
ends_none processes caller pid t (Execed binary space) alive same = absurd (same binary space refl)
ends_none processes caller pid t _ alive same = refl

-- a change ends its threads, and the later changes end theirs
pub next_change : (processes : Processes) (caller pid : ℕ) (change : Change) (changes : List Change) (rows : List ThreadRow) (workers : UnderWay) (mid : List ThreadRow) (between : UnderWay) (new : List ThreadRow) (left : UnderWay)
    → HaveEnded (λ t. is_end_of processes caller pid t change) rows workers mid between → HaveEnded (is_ended_by processes caller pid changes) mid between new left → HaveEnded (is_ended_by processes caller pid (change ∷ changes)) rows workers new left
next_change processes caller pid change changes rows workers mid between new left first later =
    both_ended (λ t. is_end_of processes caller pid t change) (is_ended_by processes caller pid changes) rows workers mid between new left first later
