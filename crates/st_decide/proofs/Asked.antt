-- The least question, and whether the operator can answer.
use native.Mathlib.Omega.{arith}
use Rattle.std.proofs.Common.{◌≡◌, ◌≤◌, ◌<◌, ◌+◌, ◌∙◌, ◌&&◌, zero, suc, ℕ, Bool, true, false, cond, List, [], ◌∷◌, length, nat_lt, Option, Some, None, inl, inr, refl, ap, sym, subst, true≢false}
use Rattle.std.proofs.lemmas.Bool.{and_parts, ltb-false, ltb-true}
use Rattle.std.proofs.lemmas.Bool.Decides.{leb_tells}
use Rattle.std.proofs.lemmas.Option.{none-some, same_Some}
use Rattle.std.specs.List.{fold, slice_get}
use Rattle.std.specs.Prelude.{if◌then◌else◌, is_some}
use Rattle.st_base.specs.Numbered.{item_at_number}
use Rattle.st_calls.specs.declared.judged.Snapshot.{Snapshot}
use Rattle.st_trace.specs.declared.entry.Choice.TheVariants.{Operator}
use Rattle.st_trace.specs.declared.entry.Entry.{Entry}
use Rattle.st_law.specs.declared.input.Mode.{Mode}
use Rattle.st_law.specs.declared.input.Mode.TheVariants.{Enforce, Learn, AskText}
use Rattle.st_law.specs.Machine.{asked_entry, entry_of, least_question, operator_entry, question_entry, reply_entry}
use Rattle.st_law.specs.Messages.{Head}
use Rattle.st_law.specs.Sessions.{least_from}
use Rattle.st_law.specs.State.{State, decision_in, operator_decides, is_live, is_live_by, is_open_question, is_question, is_undecided, next_reply, snapshot_in}
use Rattle.st_learn.specs.Deciding.{lesser}
use Rattle.st_learn.specs.Operator.{answers}
use Rattle.st_learn.proofs.Replies.{asked_same}
use Rattle.st_decide.specs.Machine.{Refines, Running}
use Rattle.st_decide.specs.Questions.{is_at_most, least_held, IsAtMost, IsFound, IsLeastAmong, IsLeastFound, IsLeastWith}
use Rattle.st_threads.specs.Thread.{ThreadRow, drawing_held}
use Rattle.st_threads.specs.Ending.{HasDrawing}
use Rattle.st_decide.proofs.HeldCalls.{are_held}
use Rattle.st_workers.proofs.Turns.{number_within}

-- ---- one after the other

pub at_most : (o : Option ℕ) (drawing : ℕ) → is_at_most o drawing ≡ true → IsAtMost o drawing
at_most None drawing e = cc
at_most (Some q) drawing e = elim (leb_tells q drawing) [
  | inl x ↦ x.1
  | inr x ↦ absurd (true≢false (sym e ∙ x.0))
]

pub above_all : (o : Option ℕ) (drawing : ℕ) → is_at_most o drawing ≡ false → (q : ℕ) → o ≡ Some q → drawing < q
above_all None drawing e q is = absurd (none-some q is)
above_all (Some found) drawing e q is = subst (λ (n : ℕ). drawing < n) (same_Some found q is) (elim (leb_tells found drawing) [
  | inl x ↦ absurd (true≢false (sym x.0 ∙ e))
  | inr x ↦ x.1
])

module _ (m : Running) where
  -- a question with a smaller number, or with this one, stays the least
  pub least_kept : (least : Option ℕ) (drawing : ℕ) → IsAtMost least drawing → IsLeastWith m least drawing least
  least_kept least drawing low = record { question = λ x. x; before = λ st is other x. x; this = λ st is asks. low }

  -- this number is the least, if it is a question
  pub least_this : (least : Option ℕ) (drawing : ℕ) → ((q : ℕ) → least ≡ Some q → drawing < q) → IsFound m (Some drawing) → IsLeastWith m least drawing (Some drawing)
  least_this least drawing low question = record {
    question = λ x. question;
    before = λ st is other x. under least other low x;
    this = λ st is asks. omega arith;
  } where
    under : (o : Option ℕ) (other : ℕ) → ((q : ℕ) → o ≡ Some q → drawing < q) → IsAtMost o other → drawing ≤ other
    under None other below x = absurd x
    under (Some q) other below x = let y = below q refl in omega (arith, x, y)

  -- otherwise the least stays as it was
  pub least_still : (least : Option ℕ) (drawing : ℕ) → ((st : State) → Refines m st → is_question m.input st drawing ≡ false) → IsLeastWith m least drawing least
  least_still least drawing none = record { question = λ x. x; before = λ st is other x. x; this = λ st is asks. absurd (true≢false (sym asks ∙ none st is)) }

  -- ---- from thread to thread

  pub none_among : (found : Option ℕ) → IsFound m found → IsLeastAmong m 0 found
  none_among found question = record { question = question; least = λ t drawing row low is held. absurd (outside t row low is) } where
    outside : (t : ℕ) (row : ThreadRow) → t ≤ 0 → item_at_number m.threads t ≡ Some row → ⊥
    outside zero row low is = none-some row is
    outside (suc t) row low is = omega (arith, low)

  module _ (count : ℕ) (least : Option ℕ) (among : IsLeastAmong m count least) (row : ThreadRow) (row_is : item_at_number m.threads (suc count) ≡ Some row) where
    -- a thread that holds no call has no question
    pub among_free : drawing_held row ≡ None → IsLeastAmong m (suc count) least
    among_free free = record {
      question = among.question;
      least = λ t drawing other low is held st machine asks. elim (leb_tells t count) [
        | inl x ↦ among.least t drawing other x.1 is held st machine asks
        | inr x ↦
            let past = x.1 in
            let here : t ≡ suc count = omega (arith, low, past) in
            let same : other ≡ row = same_Some other row (sym is ∙ ap (item_at_number m.threads) here ∙ row_is) in
            absurd (none-some drawing (sym free ∙ ap drawing_held (sym same) ∙ held))
      ];
    }

    -- a thread that holds a call has at most the question of its number
    pub among_held : (q : ℕ) → drawing_held row ≡ Some q → (found : Option ℕ) → IsLeastWith m least q found → IsLeastAmong m (suc count) found
    among_held q held found x = record {
      question = x.question among.question;
      least = λ t drawing other low is mine st machine asks. elim (leb_tells t count) [
        | inl y ↦ x.before st machine drawing (among.least t drawing other y.1 is mine st machine asks)
        | inr y ↦
            let past = y.1 in
            let here : t ≡ suc count = omega (arith, low, past) in
            let same : other ≡ row = same_Some other row (sym is ∙ ap (item_at_number m.threads) here ∙ row_is) in
            let number : drawing ≡ q = same_Some drawing q (sym mine ∙ ap drawing_held same ∙ held) in
            subst (IsAtMost found) (sym number) (x.this st machine (subst (λ n. is_question m.input st n ≡ true) number asks))
      ];
    }

-- ---- the least number of a kind

least_none : (is : ℕ → Bool) (n count : ℕ) → ((p : ℕ) → n ≤ p → p < n + count → is p ≡ false) → least_from is n count ≡ None
least_none is n zero none = refl
least_none is n (suc count) none =
    ap (λ (b : Bool). cond b (Some n) (least_from is (suc n) count)) (none n (omega arith) (omega arith))
    ∙ least_none is (suc n) count (λ p low high. none p (omega (arith, low)) (omega (arith, high)))

least_some : (is : ℕ → Bool) (n count q : ℕ) → n ≤ q → q < n + count → is q ≡ true → ((p : ℕ) → n ≤ p → p < q → is p ≡ false) → least_from is n count ≡ Some q
least_some is n zero q low high holds none = absurd (omega (arith, low, high))
least_some is n (suc count) q low high holds none = elim (leb_tells q n) [
  | inl x ↦ let below = x.1 in let same : n ≡ q = omega (arith, low, below) in
      ap (λ (b : Bool). cond b (Some n) (least_from is (suc n) count)) (ap is same ∙ holds) ∙ ap (λ (k : ℕ). Some k) same
  | inr x ↦ let above = x.1 in
      ap (λ (b : Bool). cond b (Some n) (least_from is (suc n) count)) (none n (omega arith) above)
      ∙ least_some is (suc n) count q above (omega (arith, high)) holds (λ p from to. none p (omega (arith, from)) to)
]

module _ (m : Running) (st : State) (is : Refines m st) (found : Option ℕ) (count : ℕ) (among : IsLeastAmong m count found) (all : (t : ℕ) (row : ThreadRow) → item_at_number m.threads t ≡ Some row → t ≤ count) where
  live_of : (q : ℕ) → is_question m.input st q ≡ true → is_live st q ≡ true
  live_of q asks = (and_parts (is_live st q) (st.messages q).answered (and_parts (is_live st q && (st.messages q).answered) (is_open_question m.input st (snapshot_in st q)) asks).0).0

  headed : (o : Option Head) (q : ℕ) → (st.messages q).head ≡ o → is_live st q ≡ true → (head : Head) × ((st.messages q).head ≡ Some head)
  headed None q e live = absurd (true≢false (sym live ∙ live_none)) where
    live_none : is_live st q ≡ false
    live_none = ap (λ (o : Option Head). is_live_by o (st.messages q).closed (λ t. (st.threads t).dying)) e
  headed (Some head) q e live = (head, e)

  -- each question is held by a thread
  bounded : (q : ℕ) → is_question m.input st q ≡ true → IsAtMost found q
  bounded q asks =
      let live = live_of q asks in
      let head = headed (st.messages q).head q refl live in
      by head.0.tid (item_at_number m.threads head.0.tid) refl ((are_held m st is).own q head.0 live head.1) where
        by : (t : ℕ) (o : Option ThreadRow) → item_at_number m.threads t ≡ o → HasDrawing o q → IsAtMost found q
        by t None e has = absurd has
        by t (Some row) e has = among.least t q row (all t row e) e has st is asks

  within : (q : ℕ) → is_question m.input st q ≡ true → (1 ≤ q) × (q < 1 + st.posted)
  within q asks = let given = is.workers.agrees.given q (live_of q asks) in (omega (arith, given.0), omega (arith, given.1))

  falsely : (b : Bool) → (b ≡ true → ⊥) → b ≡ false
  falsely true no_such = absurd (no_such refl)
  falsely false no_such = refl

found_none : (m : Running) (count : ℕ) → IsLeastAmong m count None → ((t : ℕ) (row : ThreadRow) → item_at_number m.threads t ≡ Some row → t ≤ count) → IsLeastFound m None
found_none m count among all st is = least_none (is_question m.input st) 1 st.posted (λ p low high. falsely m st is None count among all (is_question m.input st p) (λ asks. bounded m st is None count among all p asks))

found_some : (m : Running) (count q : ℕ) → IsLeastAmong m count (Some q) → ((t : ℕ) (row : ThreadRow) → item_at_number m.threads t ≡ Some row → t ≤ count) → IsLeastFound m (Some q)
found_some m count q among all = (
  among.question.0,
  λ st is. (
      let question = among.question.1 st is in
      let range = within m st is (Some q) count among all q question in (
        least_some (is_question m.input st) 1 st.posted q range.0 range.1 question
            (λ p low high. falsely m st is (Some q) count among all (is_question m.input st p) (λ asks. let at_most = bounded m st is (Some q) count among all p asks in omega (arith, at_most, high))),
        question,
      )
      ),
)

-- the question that was found is the least, or there is none
pub found_by : (m : Running) (count : ℕ) (found : Option ℕ) → IsLeastAmong m count found → ((t : ℕ) (row : ThreadRow) → item_at_number m.threads t ≡ Some row → t ≤ count) → IsLeastFound m found
found_by m count None among all = found_none m count among all
found_by m count (Some q) among all = found_some m count q among all

-- ---- the least number that is held

-- a number is at most this one, if there is one
abbrev IsLow : ℕ → Option ℕ → Type 0
IsLow d o = (n : ℕ) → o ≡ Some n → d ≤ n

low_itself : (d : ℕ) → IsLow d (Some d)
low_itself d n is = omega (arith, same_Some d n is)

low_both : (d : ℕ) (one other : Option ℕ) → IsLow d (lesser one other) → IsLow d one × IsLow d other
low_both d None other low = (λ n is. absurd (none-some n is), low)
low_both d (Some a) None low = (low, λ n is. absurd (none-some n is))
low_both d (Some a) (Some b) low = by (nat_lt b a) refl where
  by : (less : Bool) → nat_lt b a ≡ less → IsLow d (Some a) × IsLow d (Some b)
  by true e =
      let here : d ≤ b = low b (ap (λ (t : Bool). if t then Some b else Some a) e) in
      let under : b < a = ltb-true b a e in
      (λ n is. omega (arith, here, under, same_Some a n is), λ n is. omega (arith, here, same_Some b n is))
  by false e =
      let here : d ≤ a = low a (ap (λ (t : Bool). if t then Some b else Some a) e) in
      let over : a ≤ b = ltb-false b a e in
      (λ n is. omega (arith, here, same_Some a n is), λ n is. omega (arith, here, over, same_Some b n is))

abbrev IsLowAmong : ℕ → List ThreadRow → Type 0
IsLowAmong d rows = (place q : ℕ) (row : ThreadRow) → slice_get rows place ≡ Some row → drawing_held row ≡ Some q → d ≤ q

low_cons : (d : ℕ) (first : ThreadRow) (rows : List ThreadRow) → IsLow d (drawing_held first) → IsLowAmong d rows → IsLowAmong d (first ∷ rows)
low_cons d first rows low among zero q row is held = low q (ap drawing_held (same_Some first row is) ∙ held)
low_cons d first rows low among (suc place) q row is held = among place q row is held

low_among : (d : ℕ) (rows : List ThreadRow) (least : Option ℕ) → IsLow d (fold (λ o row. lesser o (drawing_held row)) least rows) → IsLow d least × IsLowAmong d rows
low_among d [] least low = (low, λ place q row is held. absurd (none-some row is))
low_among d (first ∷ rows) least low =
    let under = low_among d rows (lesser least (drawing_held first)) low in
    let both = low_both d least (drawing_held first) under.0 in (
      both.0,
      low_cons d first rows both.1 under.1,
    )

-- the least number that is held is the least question, if it is one
pub found_first : (m : Running) (drawing : ℕ) → least_held m.threads ≡ Some drawing → IsFound m (Some drawing) → IsLeastFound m (Some drawing)
found_first m drawing least question =
    found_some m (length m.threads) drawing (record { question = question; least = at_most_each }) (λ t row is. (number_within m.threads t row is).1) where
      low : IsLowAmong drawing m.threads
      low = (low_among drawing m.threads None (subst (IsLow drawing) (sym least) (low_itself drawing))).1

      at_most_each : (t q : ℕ) (row : ThreadRow) → t ≤ length m.threads → item_at_number m.threads t ≡ Some row → drawing_held row ≡ Some q → (st : State) → Refines m st → is_question m.input st q ≡ true → IsAtMost (Some drawing) q
      at_most_each zero q row inside is held st machine asks = absurd (none-some row is)
      at_most_each (suc place) q row inside is held st machine asks = low place q row is held

-- ---- whether the operator can answer

module _ (m : Running) (st : State) (is : Refines m st) where
  pub asks_none : least_question m.input st ≡ None → entry_of m.input st Operator ≡ None
  asks_none none = ap (operator_entry m.input st) none

  -- a question has copies
  pub question_copies : (q : ℕ) → is_question m.input st q ≡ true → (s : Snapshot) × (snapshot_in st q ≡ Some s)
  question_copies q question = by (snapshot_in st q) refl where
    by : (o : Option Snapshot) → snapshot_in st q ≡ o → (s : Snapshot) × (o ≡ Some s)
    by None e = absurd (true≢false (sym ((and_parts (is_live st q && (st.messages q).answered) (is_open_question m.input st (snapshot_in st q)) question).1) ∙ ap (is_open_question m.input st) e))
    by (Some s) e = (s, refl)

  module _ (q : ℕ) (copies : Snapshot) (least : least_question m.input st ≡ Some q) (question : is_question m.input st q ≡ true) (there : snapshot_in st q ≡ Some copies) where
    asked : operator_decides m.input st copies m.input.options.mode ≡ true
    asked =
        let is_open : is_open_question m.input st (Some copies) ≡ true = subst (λ (o : Option Snapshot). is_open_question m.input st o ≡ true) there (and_parts (is_live st q && (st.messages q).answered) (is_open_question m.input st (snapshot_in st q)) question).1 in
        (and_parts (is_undecided (decision_in m.input st copies)) (operator_decides m.input st copies m.input.options.mode) is_open).1

    -- the operator would answer the question
    pub answers_here : answers m.input m.operator copies ≡ true
    answers_here = sym (asked_same m.input st m.operator is.operator copies m.input.options.mode) ∙ asked

    pub entry_here : entry_of m.input st Operator ≡ question_entry m.input st q copies m.input.options.mode
    entry_here = ap (operator_entry m.input st) least ∙ ap (asked_entry m.input st q) there

    pub asks_some : is_some (entry_of m.input st Operator) ≡ true
    asks_some = ap (λ (o : Option Entry). is_some o) entry_here ∙ by m.input.options.mode asked where
      replied : (o : Option ℕ) → is_some o ≡ true → is_some (reply_entry m.input st q copies o) ≡ true
      replied None e = cc
      replied (Some reply) e = refl

      by : (mode : Mode) → operator_decides m.input st copies mode ≡ true → is_some (question_entry m.input st q copies mode) ≡ true
      by Enforce e = cc
      by Learn e = refl
      by AskText e = replied (next_reply m.input st copies.policy copies.rule) e

-- the operator can answer iff a question was found
pub can_answer : (m : Running) (found : Option ℕ) → IsLeastFound m found → (st : State) → Refines m st → is_some found ≡ is_some (entry_of m.input st Operator)
can_answer m None found st is = sym (ap (λ (o : Option Entry). is_some o) (asks_none m st is (found st is)))
can_answer m (Some q) found st is =
    let x = found.1 st is in
    let copies = question_copies m st is q x.1 in
    sym (asks_some m st is q copies.0 x.0 x.1 copies.1)
