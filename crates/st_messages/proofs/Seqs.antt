-- Which number each drawing has after a call changed one, and which drawing has a number.
use Rattle.std.proofs.Common.{◌≡◌, ◌≢◌, ℕ, suc, ◌+◌, ◌≤◌, Bool, true, false, ◌==◌, ◌||◌, List, [], ◌∷◌, ◌++◌, map, length, Option, Some, None, inl, inr, refl, ap, sym, ◌∙◌, subst, arith, append-nil, length-append}
use Rattle.std.proofs.lemmas.Bool.{cases_Bool, cases_eq, eq-eqb, eqb-true, false_from_ne_true, ne_eqb, or_from, or_left, or_right, true≢false}
use Rattle.std.proofs.lemmas.List.{length-map}
use Rattle.std.proofs.lemmas.List.Elements.{All-map}
use Rattle.std.proofs.lemmas.List.Folds.{find-append, list_any-append, list_any_none}
use Rattle.std.proofs.lemmas.Option.{none-some, same_Some}
use Rattle.std.specs.List.{All, find, list_any}
use Rattle.std.specs.Option.{option_map, option_or}
use Rattle.std.specs.Prelude.{is_some}
use Rattle.st_messages.specs.Circle.{is_among}
use Rattle.st_messages.specs.declared.kept.KeptNumber.{KeptNumber}
use Rattle.st_messages.specs.declared.message.MsgState.{MsgState}
use Rattle.st_messages.specs.declared.message.Message.{Message}
use Rattle.st_messages.specs.Messages.{HeldCalls, calls_after_cancel, calls_after_let_go, calls_after_post_as, drawing_of, has_seq, is_in_use, is_kept, is_kept_of, is_message_of, keeps_seq, kept_in, kept_of_message, message_in, message_of_drawing, seq_left, seq_of, seqs_in, with_state, with_state_in, without_kept, without_drawing, AreKeptOnce, AreValidCalls, ChangesSeq, ChangesKept}
use Rattle.st_messages.proofs.Lookups.{found_moved, found_posted, found_without, kept_without, moved, option_or_none}
use Rattle.st_messages.proofs.Ordered.{found_itself, none_later}

abbrev pub seq_in : Option Message → Option ℕ
seq_in o = option_map (λ (message : Message). message.seq) o

abbrev pub kept_seq : Option KeptNumber → Option ℕ
kept_seq o = option_map (λ (number : KeptNumber). number.seq) o

-- ---- kept numbers

-- what is kept of a drawing that ended is its message's number
pub kept_of_other : (keeps : Bool) (m : Message) (other : ℕ) → other ≢ m.drawing → kept_in (kept_of_message keeps (Some m)) other ≡ None
kept_of_other false m other apart = refl
kept_of_other true m other apart = rw (ne_eqb m.drawing other (λ e. apart (sym e))) refl

pub kept_of_itself : (m : Message) → kept_in (kept_of_message true (Some m)) m.drawing ≡ Some (record { drawing = m.drawing; seq = m.seq })
kept_of_itself m = rw (eq-eqb m.drawing m.drawing refl) refl

kept_itself-by : (test : KeptNumber → Bool) (x : KeptNumber) (kept : List KeptNumber) (k : KeptNumber) (b : Bool) → test x ≡ b → AreKeptOnce (x ∷ kept) → find test (x ∷ kept) ≡ Some k
    → (find test kept ≡ Some k → (test k ≡ true) × (kept_in kept k.drawing ≡ Some k)) → (test k ≡ true) × (kept_in (x ∷ kept) k.drawing ≡ Some k)
kept_itself-by test x kept k true b_is once is more =
    subst (λ (y : KeptNumber). (test y ≡ true) × (kept_in (x ∷ kept) y.drawing ≡ Some y)) (same_Some x k (rw b_is at is)) (b_is, rw (eq-eqb x.drawing x.drawing refl) refl)
kept_itself-by test x kept k false b_is once is more =
    let found = more (rw b_is at is) in
    (found.0, rw (ne_eqb x.drawing k.drawing (λ e. none-some k (sym once.0 ∙ ap (kept_in kept) e ∙ found.1))) found.1)

-- a number that is found by a test is found under its drawing
pub kept_itself : (test : KeptNumber → Bool) (kept : List KeptNumber) (k : KeptNumber) → AreKeptOnce kept → find test kept ≡ Some k → (test k ≡ true) × (kept_in kept k.drawing ≡ Some k)
kept_itself test [] k once is = absurd (none-some k is)
kept_itself test (x ∷ kept) k once is = kept_itself-by test x kept k (test x) refl once is (kept_itself test kept k once.1)

pub once-without : (kept : List KeptNumber) (drawing : ℕ) → AreKeptOnce kept → AreKeptOnce (without_kept kept drawing)
once-without [] drawing once = once
once-without (x ∷ kept) drawing once = elim (cases_eq x.drawing drawing) [
  | inl e ↦ rw (eq-eqb x.drawing drawing e) (once-without kept drawing once.1)
  | inr ne ↦ rw (ne_eqb x.drawing drawing ne) (kept_without kept drawing x.drawing ∙ rw (ne_eqb x.drawing drawing ne) once.0, once-without kept drawing once.1)
]

pub once-with : (kept : List KeptNumber) (k : KeptNumber) → kept_in kept k.drawing ≡ None → AreKeptOnce kept → AreKeptOnce (kept ++ k ∷ [])
once-with [] k none once = (refl, tt)
once-with (x ∷ kept) k none once = elim (cases_eq x.drawing k.drawing) [
  | inl e ↦ absurd (none-some x (sym (rw (eq-eqb x.drawing k.drawing e) at none)))
  | inr ne ↦ (
      let rest : kept_in kept k.drawing ≡ None = rw (ne_eqb x.drawing k.drawing ne) at none in
      (find-append (is_kept_of x.drawing) kept (k ∷ []) ∙ rw (once.0, ne_eqb k.drawing x.drawing (λ e. ne (sym e))) refl, once-with kept k rest once.1)
      )
]

pub once-kept : (kept : List KeptNumber) (keeps : Bool) (m : Message) → kept_in kept m.drawing ≡ None → AreKeptOnce kept → AreKeptOnce (kept ++ kept_of_message keeps (Some m))
once-kept kept false m none once = subst AreKeptOnce (sym (append-nil kept)) once
once-kept kept true m none once = once-with kept (record { drawing = m.drawing; seq = m.seq }) none once

-- the number of a live drawing isn't kept
pub live_not_kept : (calls : HeldCalls) (drawing : ℕ) (m : Message) → AreValidCalls calls → message_of_drawing calls drawing ≡ Some m → kept_in calls.kept drawing ≡ None
live_not_kept calls drawing m whole is = by (kept_in calls.kept drawing) refl where
  by : (o : Option KeptNumber) → kept_in calls.kept drawing ≡ o → o ≡ None
  by None o_is = refl
  by (Some k) o_is = absurd (none-some m (sym (whole.ended drawing (ap is_some o_is)).1 ∙ is))

-- ---- the number of each drawing after a call

-- what doesn't depend on a message's state is unchanged
pub field_moved : {X : Type 0} (field : Message → X) → ((m : Message) (state : MsgState) → field (moved state m) ≡ field m) → (live : List Message) (drawing other : ℕ) (state : MsgState)
    → option_map field (message_in (with_state_in live drawing state) other) ≡ option_map field (message_in live other)
field_moved {X = X} field same live drawing other state =
    ap (option_map field) (found_moved live drawing other state) ∙ elim (cases_eq other drawing) [
      | inl e ↦ rw (eq-eqb other drawing e) (by (message_in live drawing) ∙ ap (λ q. option_map field (message_in live q)) (sym e))
      | inr ne ↦ rw (ne_eqb other drawing ne) refl
    ] where
      by : (o : Option Message) → option_map field (option_map (moved state) o) ≡ option_map field o
      by None = refl
      by (Some m) = ap Some (same m state)

pub seqs_moved : (calls : HeldCalls) (drawing : ℕ) (state : MsgState) (other : ℕ) → seq_of (with_state calls drawing state) other ≡ seq_of calls other
seqs_moved calls drawing state other = ap (λ o. option_or o (kept_seq (kept_in calls.kept other))) (field_moved (λ (m : Message). m.seq) (λ m state. refl) calls.live drawing other state)

pub seqs_posted : (calls : HeldCalls) (tid seq : ℕ) → AreValidCalls calls → ChangesSeq calls calls.next (Some seq) (calls_after_post_as calls tid seq)
seqs_posted calls tid seq whole other =
    let none = none_later calls.live 1 calls.next calls.next whole.ordered (omega arith) in
    ap (λ o. option_or (seq_in o) (kept_seq (kept_in calls.kept other))) (found_posted calls.live calls.next seq tid other none) ∙ elim (cases_eq other calls.next) [
      | inl e ↦ rw (eq-eqb other calls.next e) refl
      | inr ne ↦ rw (ne_eqb other calls.next ne) refl
    ]

module _ (calls : HeldCalls) (drawing : ℕ) (keeps : Bool) (m : Message) (whole : AreValidCalls calls) (is : message_of_drawing calls drawing ≡ Some m) where
  pub number : m.drawing ≡ drawing
  number = eqb-true m.drawing drawing (found_itself (is_message_of drawing) calls.live 1 calls.next m whole.ordered is).1

  -- the numbers that are kept afterwards
  abbrev pub kept_now : List KeptNumber
  kept_now = calls.kept ++ kept_of_message keeps (Some m)

  -- what is found of the drawing itself afterwards
  none_here : keeps ≡ false → kept_in kept_now drawing ≡ None
  none_here e = rw e (ap (λ ks. kept_in ks drawing) (append-nil calls.kept) ∙ live_not_kept calls drawing m whole is)

  some_here : keeps ≡ true → kept_in kept_now drawing ≡ Some (record { drawing = m.drawing; seq = m.seq })
  some_here e =
      rw e (
      find-append (is_kept_of drawing) calls.kept (kept_of_message true (Some m))
      ∙ ap (λ o. option_or o (kept_in (kept_of_message true (Some m)) drawing)) (live_not_kept calls drawing m whole is)
      ∙ ap (kept_in (kept_of_message true (Some m))) (sym number)
      ∙ kept_of_itself m
      )

  kept_here : (b : Bool) → keeps ≡ b → is_some (kept_in kept_now drawing) ≡ keeps
  kept_here false e = ap is_some (none_here e) ∙ sym e
  kept_here true e = ap is_some (some_here e) ∙ sym e

  left_here : (b : Bool) → keeps ≡ b → kept_seq (kept_in kept_now drawing) ≡ seq_left calls drawing keeps
  left_here false e = ap kept_seq (none_here e) ∙ ap (seq_left calls drawing) (sym e)
  left_here true e = ap kept_seq (some_here e) ∙ sym (ap (λ o. option_or (seq_in o) (kept_seq (kept_in calls.kept drawing))) is) ∙ ap (seq_left calls drawing) (sym e)

  pub left_there : (other : ℕ) → other ≢ drawing → kept_in kept_now other ≡ kept_in calls.kept other
  left_there other apart =
      find-append (is_kept_of other) calls.kept (kept_of_message keeps (Some m))
      ∙ ap (option_or (kept_in calls.kept other)) (kept_of_other keeps m other (λ e. apart (e ∙ number)))
      ∙ option_or_none (kept_in calls.kept other)

  pub seqs_cancelled : ChangesSeq calls drawing (seq_left calls drawing keeps) (calls_after_cancel calls drawing keeps)
  seqs_cancelled other =
      ap (λ o. option_or (seq_in (message_in (without_drawing calls.live drawing) other)) (kept_seq (kept_in (calls.kept ++ kept_of_message keeps o) other))) is
      ∙ ap (λ o. option_or (seq_in o) (kept_seq (kept_in kept_now other))) (found_without calls.live drawing other)
      ∙ elim (cases_eq other drawing) [
        | inl e ↦ rw (eq-eqb other drawing e) (ap (λ q. kept_seq (kept_in kept_now q)) e ∙ left_here keeps refl)
        | inr ne ↦ rw (ne_eqb other drawing ne) (ap (λ o. option_or (seq_in (message_in calls.live other)) (kept_seq o)) (left_there other ne))
      ]

  pub kept_cancelled : ChangesKept calls drawing keeps (calls_after_cancel calls drawing keeps)
  kept_cancelled other =
      ap (λ o. is_some (kept_in (calls.kept ++ kept_of_message keeps o) other)) is ∙ elim (cases_eq other drawing) [
        | inl e ↦ rw (eq-eqb other drawing e) (ap (λ q. is_some (kept_in kept_now q)) e ∙ kept_here keeps refl)
        | inr ne ↦ rw (ne_eqb other drawing ne) (ap is_some (left_there other ne))
      ]

pub kept_let_go : (calls : HeldCalls) (drawing : ℕ) → ChangesKept calls drawing false (calls_after_let_go calls drawing)
kept_let_go calls drawing other = ap is_some (kept_without calls.kept drawing other) ∙ elim (cases_eq other drawing) [
  | inl e ↦ rw (eq-eqb other drawing e) refl
  | inr ne ↦ rw (ne_eqb other drawing ne) refl
]

pub seqs_let_go : (calls : HeldCalls) (drawing : ℕ) → AreValidCalls calls → is_kept calls drawing ≡ true → ChangesSeq calls drawing None (calls_after_let_go calls drawing)
seqs_let_go calls drawing whole kept other =
    ap (λ o. option_or (seq_in (message_in calls.live other)) (kept_seq o)) (kept_without calls.kept drawing other) ∙ elim (cases_eq other drawing) [
      | inl e ↦ rw (eq-eqb other drawing e) (ap (λ o. option_or (seq_in o) None) (ap (message_in calls.live) e ∙ (whole.ended drawing kept).1))
      | inr ne ↦ rw (ne_eqb other drawing ne) refl
    ]

-- ---- the drawing of each number

-- what a test finds has a number among those of all
among_found : {X : Type 0} (seq : X → ℕ) (test : X → Bool) (xs : List X) (n : ℕ) → option_map seq (find test xs) ≡ Some n → is_among (map seq xs) n ≡ true
among_found seq test [] n is = absurd (none-some n is)
among_found seq test (x ∷ xs) n is = elim (cases_Bool (test x)) [
  | inl passes ↦ or_left (seq x == n) (is_among (map seq xs) n) (eq-eqb (seq x) n (same_Some (seq x) n (rw passes at is)))
  | inr fails ↦ or_right (seq x == n) (is_among (map seq xs) n) (among_found seq test xs n (rw fails at is))
]

-- whether a number is among those of all is whether one of them is found by it
pub found_among : {X : Type 0} (seq : X → ℕ) (xs : List X) (n : ℕ) → is_some (find (λ x. seq x == n) xs) ≡ is_among (map seq xs) n
found_among seq [] n = refl
found_among seq (x ∷ xs) n = elim (cases_Bool (seq x == n)) [
  | inl passes ↦ rw passes refl
  | inr fails ↦ rw fails (found_among seq xs n)
]

among_split : (live : List Message) (kept : List KeptNumber) (seq : ℕ)
    → is_among (seqs_in live kept) seq ≡ (is_among (map (λ (message : Message). message.seq) live) seq || is_among (map (λ (number : KeptNumber). number.seq) kept) seq)
among_split live kept seq = list_any-append (λ other. other == seq) (map (λ (message : Message). message.seq) live) (map (λ (number : KeptNumber). number.seq) kept)

-- whether a number is in use is whether a live message or a kept one is found by it
pub used_found : (live : List Message) (kept : List KeptNumber) (seq : ℕ) → (is_some (find (has_seq seq) live) || is_some (find (keeps_seq seq) kept)) ≡ is_among (seqs_in live kept) seq
used_found live kept seq =
    ap (λ b. b || is_some (find (keeps_seq seq) kept)) (found_among (λ (message : Message). message.seq) live seq)
    ∙ ap (λ b. is_among (map (λ (message : Message). message.seq) live) seq || b) (found_among (λ (number : KeptNumber). number.seq) kept seq)
    ∙ sym (among_split live kept seq)

seq_used-by : (live : List Message) (kept : List KeptNumber) (drawing seq : ℕ) (o : Option Message) → message_in live drawing ≡ o → option_or (seq_in o) (kept_seq (kept_in kept drawing)) ≡ Some seq
    → (is_among (map (λ (message : Message). message.seq) live) seq || is_among (map (λ (number : KeptNumber). number.seq) kept) seq) ≡ true
seq_used-by live kept drawing seq None o_is has =
    or_right (is_among (map (λ (message : Message). message.seq) live) seq) (is_among (map (λ (number : KeptNumber). number.seq) kept) seq)
    (among_found (λ (number : KeptNumber). number.seq) (is_kept_of drawing) kept seq has)
seq_used-by live kept drawing seq (Some m) o_is has =
    or_left (is_among (map (λ (message : Message). message.seq) live) seq) (is_among (map (λ (number : KeptNumber). number.seq) kept) seq)
    (among_found (λ (message : Message). message.seq) (is_message_of drawing) live seq (ap seq_in o_is ∙ has))

-- the number of a drawing in use is in use
pub seq_in_use : (calls : HeldCalls) (drawing seq : ℕ) → seq_of calls drawing ≡ Some seq → is_in_use calls seq ≡ true
seq_in_use calls drawing seq is = among_split calls.live calls.kept seq ∙ seq_used-by calls.live calls.kept drawing seq (message_in calls.live drawing) refl is

module _ (calls : HeldCalls) (seq : ℕ) (whole : AreValidCalls calls) where
  abbrev live_one : Option Message
  live_one = find (has_seq seq) calls.live

  abbrev kept_one : Option KeptNumber
  kept_one = find (keeps_seq seq) calls.kept

  abbrev drawing_by : Option Message → Option KeptNumber → Option ℕ
  drawing_by o p = option_or (option_map (λ (message : Message). message.drawing) o) (option_map (λ (number : KeptNumber). number.drawing) p)

  -- the drawing that is found has the number
  has_it-by : (o : Option Message) (p : Option KeptNumber) → live_one ≡ o → kept_one ≡ p → (drawing : ℕ) → drawing_by o p ≡ Some drawing → seq_of calls drawing ≡ Some seq
  has_it-by (Some m) p o_is p_is drawing is =
      let found = found_itself (has_seq seq) calls.live 1 calls.next m whole.ordered o_is in
      subst (λ q. seq_of calls q ≡ Some seq) (same_Some m.drawing drawing is) (ap (λ o. option_or (seq_in o) (kept_seq (kept_in calls.kept m.drawing))) found.2 ∙ ap Some (eqb-true m.seq seq found.1))
  has_it-by None (Some k) o_is p_is drawing is =
      let found = kept_itself (keeps_seq seq) calls.kept k whole.once p_is in
      let dead = (whole.ended k.drawing (ap is_some found.1)).1 in
      subst (λ q. seq_of calls q ≡ Some seq) (same_Some k.drawing drawing is) (ap (λ o. option_or (seq_in o) (kept_seq (kept_in calls.kept k.drawing))) dead ∙ ap kept_seq found.1 ∙ ap Some (eqb-true k.seq seq found.0))
  has_it-by None None o_is p_is drawing is = absurd (none-some drawing is)

  pub drawing_has_it : (drawing : ℕ) → drawing_of calls seq ≡ Some drawing → seq_of calls drawing ≡ Some seq
  drawing_has_it = has_it-by live_one kept_one refl refl

  -- of a number in use a drawing is found
  found-by : (o : Option Message) (p : Option KeptNumber) → (is_some o || is_some p) ≡ true → (drawing : ℕ) × (drawing_by o p ≡ Some drawing)
  found-by (Some m) p some = (m.drawing, refl)
  found-by None (Some k) some = (k.drawing, refl)
  found-by None None some = absurd cc

  pub in_use_has_drawing : is_in_use calls seq ≡ true → (drawing : ℕ) × (drawing_of calls seq ≡ Some drawing) × (seq_of calls drawing ≡ Some seq)
  in_use_has_drawing used =
      let found = found-by live_one kept_one (used_found calls.live calls.kept seq ∙ used) in
      (found.0, found.1, drawing_has_it found.0 found.1)

  -- the one drawing that has the number is found
  pub drawing_is : (drawing : ℕ) → seq_of calls drawing ≡ Some seq → drawing_of calls seq ≡ Some drawing
  drawing_is drawing is =
      let found = in_use_has_drawing (seq_in_use calls drawing seq is) in
      found.1 ∙ ap Some (whole.seqs found.0 drawing seq found.2 is)

-- ---- how many numbers are in use

pub some_any : {X : Type 0} (test : X → Bool) (xs : List X) → is_some (find test xs) ≡ list_any test xs
some_any test [] = refl
some_any test (x ∷ xs) = elim (cases_Bool (test x)) [
  | inl passes ↦ rw passes refl
  | inr fails ↦ rw fails (some_any test xs)
]

pub length_moved : (live : List Message) (drawing : ℕ) (state : MsgState) → length (with_state_in live drawing state) ≡ length live
length_moved [] drawing state = refl
length_moved (m ∷ live) drawing state = elim (cases_eq m.drawing drawing) [
  | inl e ↦ rw (eq-eqb m.drawing drawing e) refl
  | inr ne ↦ rw (ne_eqb m.drawing drawing ne) (ap suc (length_moved live drawing state))
]

pub length_seqs : (live : List Message) (kept : List KeptNumber) → length (seqs_in live kept) ≡ length live + length kept
length_seqs live kept =
    omega (
      arith,
      length-append (map (λ (message : Message). message.seq) live) (map (λ (number : KeptNumber). number.seq) kept),
      length-map live (λ (message : Message). message.seq),
      length-map kept (λ (number : KeptNumber). number.seq),
    )

pub length_kept : (keeps : Bool) (m : Message) → length (kept_of_message keeps (Some m)) ≤ 1
length_kept false m = omega arith
length_kept true m = omega arith

pub seqs_in-moved : (live : List Message) (kept : List KeptNumber) (drawing : ℕ) (state : MsgState) → seqs_in (with_state_in live drawing state) kept ≡ seqs_in live kept
seqs_in-moved [] kept drawing state = refl
seqs_in-moved (m ∷ live) kept drawing state = elim (cases_eq m.drawing drawing) [
  | inl e ↦ rw (eq-eqb m.drawing drawing e) refl
  | inr ne ↦ rw (ne_eqb m.drawing drawing ne) (ap (λ seqs. m.seq ∷ seqs) (seqs_in-moved live kept drawing state))
]

-- ---- which numbers are free

-- a number that isn't in use stays so, if each drawing that has it now had it
pub stays_free : (old new : HeldCalls) (seq : ℕ) → AreValidCalls new → ((drawing : ℕ) → seq_of new drawing ≡ Some seq → seq_of old drawing ≡ Some seq) → is_in_use old seq ≡ false → is_in_use new seq ≡ false
stays_free old new seq whole had free = false_from_ne_true (is_in_use new seq) (λ used.
    let found = in_use_has_drawing new seq whole used in
    true≢false (sym (seq_in_use old found.0 seq (had found.0 found.2)) ∙ free)
    )

none_among : {X : Type 0} (seq : X → ℕ) (xs : List X) (n : ℕ) → All (λ x. (seq x == n) ≡ false) xs → is_among (map seq xs) n ≡ false
none_among seq xs n none = list_any_none (λ other. other == n) (map seq xs) (All-map (λ other. (other == n) ≡ false) seq xs none)

-- what no live message and no kept number has isn't in use
pub neither_among : (live : List Message) (kept : List KeptNumber) (seq : ℕ) → All (λ (message : Message). (message.seq == seq) ≡ false) live → All (λ (number : KeptNumber). (number.seq == seq) ≡ false) kept → is_among (seqs_in live kept) seq ≡ false
neither_among live kept seq none_live none_kept = among_split live kept seq ∙ or_from _ _ (none_among (λ (message : Message). message.seq) live seq none_live) (none_among (λ (number : KeptNumber). number.seq) kept seq none_kept)
