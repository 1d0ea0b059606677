-- Which message is found under a number, after one gets another state, is removed or is appended.
use Rattle.std.proofs.Common.{zero, suc, ◌≡◌, ◌≢◌, ℕ, ◌<◌, ◌≤◌, Bool, true, false, cond, not, ◌==◌, List, [], ◌∷◌, ◌++◌, length, get_or, set, Option, Some, None, inl, inr, refl, ap, sym, ◌∙◌, subst, arith}
use Rattle.std.proofs.lemmas.Bool.{cases_eq, cases_lt, eq-eqb, ne_eqb, eqb-true, le-ltb, lt-ltb, ltb-false, ltb-true, true≢false}
use Rattle.std.proofs.lemmas.List.Folds.{find-append, find_at}
use Rattle.std.proofs.lemmas.List.Quantifiers.{position-Some}
use Rattle.std.proofs.lemmas.List.Sums.{position_or_len_is}
use Rattle.std.proofs.lemmas.Option.{none-some, slice_get-get_or, slice_get_past}
use Rattle.std.specs.List.{filter, find, position, position_or_len, remove}
use Rattle.std.specs.List.Sorted.{IsPartitionedBy, IsPartitionPoint}
use Rattle.std.specs.Option.{option_map, option_or}
use Rattle.std.specs.Prelude.{nat_lt, slice_get}
use Rattle.st_messages.specs.declared.kept.KeptNumber.{KeptNumber}
use Rattle.st_messages.specs.declared.message.MsgState.{MsgState}
use Rattle.st_messages.specs.declared.message.Message.{Message}
use Rattle.st_messages.proofs.Ordered.{drawings_go_up}
use Rattle.st_messages.specs.Messages.{AreBetween, is_message_of, kept_in, message_in, waiting_message, with_state_in, without_kept, without_drawing}

cond_none : {X : Type 0} (b : Bool) → cond {A = Option X} b None None ≡ None
cond_none true = refl
cond_none false = refl

pub option_or_none : {X : Type 0} (o : Option X) → option_or o None ≡ o
option_or_none None = refl
option_or_none (Some m) = refl

-- ---- a message has another state

abbrev pub moved : MsgState → Message → Message
moved state message = record message { state = state }

-- the state of the message at an index is changed
pub set-at : (live : List Message) (drawing : ℕ) (state : MsgState) (i : ℕ) (d : Message) → i < length live → is_message_of drawing (get_or live i d) ≡ true → ((k : ℕ) → k < i → is_message_of drawing (get_or live k d) ≡ false)
    → set live i (record (get_or live i d) { state = state }) ≡ with_state_in live drawing state
set-at [] drawing state i d inside here before = absurd (omega arith)
set-at (m ∷ live) drawing state zero d inside here before = rw here refl
set-at (m ∷ live) drawing state (suc i) d inside here before =
    rw (before 0 (omega arith)) (ap (λ ms. m ∷ ms) (set-at live drawing state i d (omega arith) here (λ k below. before (suc k) (omega arith))))

found_moved-by : (m : Message) (live : List Message) (drawing other : ℕ) (state : MsgState) (a b : Bool) → (m.drawing == drawing) ≡ a → (m.drawing == other) ≡ b
    → message_in (with_state_in live drawing state) other ≡ cond (other == drawing) (option_map (moved state) (message_in live drawing)) (message_in live other)
    → message_in (with_state_in (m ∷ live) drawing state) other ≡ cond (other == drawing) (option_map (moved state) (message_in (m ∷ live) drawing)) (message_in (m ∷ live) other)
found_moved-by m live drawing other state true true is_drawing is_other more =
    let same : (other == drawing) ≡ true = eq-eqb other drawing (sym (eqb-true m.drawing other is_other) ∙ eqb-true m.drawing drawing is_drawing) in
    rw (is_drawing, same, is_other) refl
found_moved-by m live drawing other state true false is_drawing is_other more =
    let apart : (other == drawing) ≡ false = ne_eqb other drawing (λ e. true≢false (sym (eq-eqb m.drawing other (eqb-true m.drawing drawing is_drawing ∙ sym e)) ∙ is_other)) in
    rw (is_drawing, apart, is_other) refl
found_moved-by m live drawing other state false true is_drawing is_other more =
    let apart : (other == drawing) ≡ false = ne_eqb other drawing (λ e. true≢false (sym (eq-eqb m.drawing drawing (eqb-true m.drawing other is_other ∙ e)) ∙ is_drawing)) in
    rw (is_drawing, apart, is_other) refl
found_moved-by m live drawing other state false false is_drawing is_other more = rw (is_drawing, is_other) more

-- the message of that number is changed, and each other is unchanged
pub found_moved : (live : List Message) (drawing other : ℕ) (state : MsgState) → message_in (with_state_in live drawing state) other ≡ cond (other == drawing) (option_map (moved state) (message_in live drawing)) (message_in live other)
found_moved [] drawing other state = sym (cond_none (other == drawing))
found_moved (m ∷ live) drawing other state = found_moved-by m live drawing other state (m.drawing == drawing) (m.drawing == other) refl refl (found_moved live drawing other state)

-- ---- the index of a message

nowhere : (n count : ℕ) (b : Bool) → nat_lt n count ≡ b → cond b (Some n) None ≡ None → count ≤ n
nowhere n count true is none = absurd (none-some n (sym none))
nowhere n count false is none = ltb-false n count is

-- an item without an index isn't found
pub found_nowhere : (test : Message → Bool) (live : List Message) → position test live ≡ None → find test live ≡ None
found_nowhere test live none =
    let n = position_or_len test live in
    find_at test live ∙ slice_get_past live n (nowhere n (length live) (nat_lt n (length live)) refl none)

-- the item that is found is at the first index
pub found_first : (test : Message → Bool) (live : List Message) (i : ℕ) (d : Message) → position test live ≡ Some i → find test live ≡ Some (get_or live i d)
found_first test live i d is =
    let first = position-Some test live i d is in
    let at = position_or_len_is test live i d (omega (arith, first.0)) first.2 (λ _. first.1) in
    find_at test live ∙ ap (slice_get live) at ∙ slice_get-get_or live i d first.0

module _ (live : List Message) (from to i : ℕ) (m : Message) (are : AreBetween from live to) (inside : i < length live) (m_is : m ≡ get_or live i m) where
  here : is_message_of m.drawing (get_or live i m) ≡ true
  here = eq-eqb (get_or live i m).drawing m.drawing (ap (λ (x : Message). x.drawing) (sym m_is))

  before : (k : ℕ) → k < i → is_message_of m.drawing (get_or live k m) ≡ false
  before k below =
      let less : (get_or live k m).drawing < m.drawing = subst (λ (x : Message). (get_or live k m).drawing < x.drawing) (sym m_is) (drawings_go_up live from to i k m are inside below) in
      ne_eqb (get_or live k m).drawing m.drawing (λ e. omega (arith, e, less))

  -- a message is found at its index
  pub found_there : message_in live m.drawing ≡ Some m
  found_there =
      find_at (is_message_of m.drawing) live
      ∙ ap (slice_get live) (position_or_len_is (is_message_of m.drawing) live i m (omega (arith, inside)) before (λ _. here))
      ∙ slice_get-get_or live i m inside
      ∙ ap Some (sym m_is)

  -- the state of a message is changed at its index
  pub set-placed : (state : MsgState) → set live i (moved state m) ≡ with_state_in live m.drawing state
  set-placed state = ap (λ (x : Message). set live i (moved state x)) m_is ∙ set-at live m.drawing state i m inside here before

-- ---- the index of a number

module _ (live : List Message) (from to drawing : ℕ) (are : AreBetween from live to) where
  -- no smaller number comes after a greater one
  pub parted : IsPartitionedBy (λ (m : Message). nat_lt m.drawing drawing) live
  parted i j d le inside passes = elim (cases_lt i j) [
    | inl lt ↦ (let less = drawings_go_up live from to j i d are inside lt in let top = ltb-true (get_or live j d).drawing drawing passes in lt-ltb (get_or live i d).drawing drawing (omega (arith, less, top)))
    | inr ge ↦ (let same : i ≡ j = omega (arith, le, ge) in ap (λ (n : ℕ). nat_lt (get_or live n d).drawing drawing) same ∙ passes)
  ]

  abbrev index : ℕ → Option ℕ
  index n = cond (nat_lt n (length live)) (Some n) None

  -- a message with the number is at its index
  pub position_there : (i : ℕ) (d : Message) → i < length live → (get_or live i d).drawing ≡ drawing → position (is_message_of drawing) live ≡ Some i
  position_there i d inside is =
      let at = position_or_len_is (is_message_of drawing) live i d (omega (arith, inside)) (λ k below. ne_eqb (get_or live k d).drawing drawing (λ e. omega (arith, e, is, drawings_go_up live from to i k d are inside below))) (λ _. eq-eqb (get_or live i d).drawing drawing is) in
      ap index at ∙ rw (lt-ltb i (length live) inside) refl

  -- no message has the number
  position_nowhere : (d : Message) → ((k : ℕ) → k < length live → (get_or live k d).drawing ≢ drawing) → position (is_message_of drawing) live ≡ None
  position_nowhere d none =
      let at = position_or_len_is (is_message_of drawing) live (length live) d (omega arith) (λ k inside. ne_eqb (get_or live k d).drawing drawing (none k inside)) (λ inside. absurd (omega (arith, inside))) in
      ap index at ∙ rw (le-ltb (length live) (length live) (omega arith)) refl

  module _ (i : ℕ) (point : IsPartitionPoint (λ (m : Message). nat_lt m.drawing drawing ≡ true) (λ (m : Message). nat_lt m.drawing drawing ≡ false) live i) where
    less : (k : ℕ) (d : Message) → k < i → (get_or live k d).drawing ≢ drawing
    less k d before e = let lt = ltb-true (get_or live k d).drawing drawing (point.0 k d (omega arith) before) in omega (arith, lt, e)

    -- all numbers are smaller
    pub position_past : length live ≤ i → position (is_message_of drawing) live ≡ None
    position_past end = position_nowhere (waiting_message 0 0 0) (λ k inside. less k (waiting_message 0 0 0) (omega (arith, end, inside)))

    -- the numbers are smaller or greater
    pub position_between : (d : Message) → i < length live → (get_or live i d).drawing ≢ drawing → position (is_message_of drawing) live ≡ None
    position_between d inside apart = position_nowhere d (λ k within. elim (cases_lt k i) [
      | inl lt ↦ less k d lt
      | inr ge ↦ (let least = ltb-false (get_or live i d).drawing drawing (point.1 i d (omega arith) inside) in elim (cases_eq k i) [
        | inl e ↦ (λ same. apart (ap (λ (n : ℕ). (get_or live n d).drawing) (sym e) ∙ same))
        | inr ne ↦ (let more = drawings_go_up live from to k i d are within (omega (arith, ge, ne)) in λ same. omega (arith, more, least, same))
      ])
    ])

-- ---- a message is removed

none_without : (live : List Message) (from to drawing : ℕ) → AreBetween from live to → drawing < from → without_drawing live drawing ≡ live
none_without [] from to drawing are below = refl
none_without (m ∷ live) from to drawing are below =
    rw (ne_eqb m.drawing drawing (λ e. omega (arith, e, are.0))) (ap (λ (ms : List Message). m ∷ ms) (none_without live (suc m.drawing) to drawing are.1 (omega (arith, are.0))))

-- the message of a number is removed at its index
pub removed-at : (live : List Message) (from to drawing i : ℕ) (d : Message) → AreBetween from live to → i < length live → (get_or live i d).drawing ≡ drawing → remove live i ≡ without_drawing live drawing
removed-at [] from to drawing i d are inside is = absurd (omega (arith, inside))
removed-at (m ∷ live) from to drawing zero d are inside is =
    rw (eq-eqb m.drawing drawing is) (sym (none_without live (suc m.drawing) to drawing are.1 (omega (arith, is))))
removed-at (m ∷ live) from to drawing (suc i) d are inside is =
    let less = drawings_go_up (m ∷ live) from to (suc i) 0 d are inside (omega arith) in
    rw (ne_eqb m.drawing drawing (λ e. omega (arith, e, is, less))) (ap (λ (ms : List Message). m ∷ ms) (removed-at live (suc m.drawing) to drawing i d are.1 (omega (arith, inside)) is))

found_without-by : {X : Type 0} (key : X → ℕ) (x : X) (xs : List X) (q other : ℕ) (a b : Bool) → (key x == q) ≡ a → (key x == other) ≡ b
    → find (λ y. key y == other) (filter (λ y. not (key y == q)) xs) ≡ cond (other == q) None (find (λ y. key y == other) xs)
    → find (λ y. key y == other) (filter (λ y. not (key y == q)) (x ∷ xs)) ≡ cond (other == q) None (find (λ y. key y == other) (x ∷ xs))
found_without-by key x xs q other true true is_q is_other more =
    let same : (other == q) ≡ true = eq-eqb other q (sym (eqb-true (key x) other is_other) ∙ eqb-true (key x) q is_q) in
    let none : find (λ y. key y == other) (filter (λ y. not (key y == q)) xs) ≡ None = more ∙ rw same refl in
    rw (is_q, same) none
found_without-by key x xs q other true false is_q is_other more = rw (is_q, is_other) more
found_without-by key x xs q other false true is_q is_other more =
    let apart : (other == q) ≡ false = ne_eqb other q (λ e. true≢false (sym (eq-eqb (key x) q (eqb-true (key x) other is_other ∙ e)) ∙ is_q)) in
    rw (is_q, apart, is_other) refl
found_without-by key x xs q other false false is_q is_other more = rw (is_q, is_other) more

-- of a list without what has one key, nothing is found under that key, and what is found under each other is unchanged
pub found_without_key : {X : Type 0} (key : X → ℕ) (xs : List X) (q other : ℕ)
    → find (λ y. key y == other) (filter (λ y. not (key y == q)) xs) ≡ cond (other == q) None (find (λ y. key y == other) xs)
found_without_key key [] q other = sym (cond_none (other == q))
found_without_key key (x ∷ xs) q other = found_without-by key x xs q other (key x == q) (key x == other) refl refl (found_without_key key xs q other)

-- no message is found under that drawing, and each other is unchanged
pub found_without : (live : List Message) (drawing other : ℕ) → message_in (without_drawing live drawing) other ≡ cond (other == drawing) None (message_in live other)
found_without live drawing other = found_without_key (λ (message : Message). message.drawing) live drawing other

-- the same of kept numbers
pub kept_without : (kept : List KeptNumber) (drawing other : ℕ) → kept_in (without_kept kept drawing) other ≡ cond (other == drawing) None (kept_in kept other)
kept_without kept drawing other = found_without_key (λ (number : KeptNumber). number.drawing) kept drawing other

-- ---- a message is appended

-- each other number is unchanged
pub found_other : (live : List Message) (drawing seq tid other : ℕ) → other ≢ drawing → message_in (live ++ waiting_message drawing seq tid ∷ []) other ≡ message_in live other
found_other live drawing seq tid other apart =
    find-append (is_message_of other) live (waiting_message drawing seq tid ∷ []) ∙ rw (ne_eqb drawing other (λ e. apart (sym e))) (option_or_none (message_in live other))

-- the message is found under its number, and each other is unchanged
pub found_posted : (live : List Message) (drawing seq tid other : ℕ) → message_in live drawing ≡ None → message_in (live ++ waiting_message drawing seq tid ∷ []) other ≡ cond (other == drawing) (Some (waiting_message drawing seq tid)) (message_in live other)
found_posted live drawing seq tid other none = elim (cases_eq other drawing) [
  | inl e ↦
      let none_there : message_in live other ≡ None = ap (message_in live) e ∙ none in
      find-append (is_message_of other) live (waiting_message drawing seq tid ∷ []) ∙ rw (none_there, eq-eqb drawing other (sym e), eq-eqb other drawing e) refl
  | inr ne ↦ found_other live drawing seq tid other ne ∙ rw (ne_eqb other drawing ne) refl
]
