-- The numbers of the circle by their places after the last one, and which of them is drawn.
use Rattle.std.proofs.Common.{zero, suc, ◌≡◌, ◌≢◌, ℕ, ◌+◌, ◌-◌, min, ◌<◌, ◌≤◌, Bool, true, false, cond, not, ◌==◌, List, [], ◌∷◌, length, inl, inr, ap, sym, ◌∙◌, subst, arith, length-append, nat_lt}
use Rattle.std.proofs.lemmas.Bool.{cases_Bool, cases_eq, cases_lt, eq-eqb, ne_eqb, false_from_ne_true, le-ltb, lt-ltb, not-false, not-true, not_from_false, not_from_true, or_cases, or_left, or_right}
use Rattle.std.proofs.lemmas.List.{get_or-append_right, get_or_append_left}
use Rattle.std.proofs.lemmas.List.Elements.{All-cons}
use Rattle.std.proofs.lemmas.List.Folds.{find_at}
use Rattle.std.proofs.lemmas.List.FromFn.{get_or-range_with_len, length-range_with_len}
use Rattle.std.proofs.lemmas.List.Sums.{count_by-le-length, fails_before_first, length-filter, passes_at_first, position_or_len_is}
use Rattle.std.proofs.lemmas.Option.{unwrap_or-slice_get}
use Rattle.std.specs.List.{All, filter, fold, list_any, position_or_len, range_with_len}
use Rattle.std.specs.Option.{unwrap_or}
use Rattle.st_messages.specs.Circle.{circle_after, distance, first_free, is_among, nearest, number_ahead, AreFreeAhead}

-- ---- the numbers by their places

abbrev pub at : ℕ → ℕ → ℕ → ℕ
at greatest last k = number_ahead greatest last k

module _ (greatest last : ℕ) (within : last ≤ greatest) where
  pub circle_length : length (circle_after greatest last) ≡ greatest
  circle_length =
      omega (arith, within, length-append (range_with_len (suc last) (greatest - last)) (range_with_len 1 last), length-range_with_len (suc last) (greatest - last), length-range_with_len 1 last)

  pub at_early : (k : ℕ) → last + k < greatest → at greatest last k ≡ suc last + k
  at_early k below =
      get_or_append_left (range_with_len (suc last) (greatest - last)) (range_with_len 1 last) 0 k (omega (arith, below, length-range_with_len (suc last) (greatest - last)))
      ∙ get_or-range_with_len (suc last) (greatest - last) k 0 (omega (arith, below))

  pub at_late : (k : ℕ) → greatest ≤ last + k → k < greatest → at greatest last k + greatest ≡ suc (last + k)
  at_late k above below =
      let is = get_or-append_right (range_with_len (suc last) (greatest - last)) (range_with_len 1 last) (greatest - last) k 0 (length-range_with_len (suc last) (greatest - last)) (omega (arith, above))
      ∙ get_or-range_with_len 1 last (k - (greatest - last)) 0 (omega (arith, above, below, within)) in
      omega (arith, is, above, below, within)

  pub at_first : 0 < greatest → at greatest last 0 ≡ cond (nat_lt last greatest) (suc last) 1
  at_first some = elim (cases_lt last greatest) [
    | inl lt ↦ rw (lt-ltb last greatest lt) (omega (arith, at_early 0 (omega (arith, lt))))
    | inr ge ↦ rw (le-ltb last greatest ge) (omega (arith, within, ge, at_late 0 (omega (arith, ge)) some))
  ]

  pub at_next : (k : ℕ) → suc k < greatest → at greatest last (suc k) ≡ cond (nat_lt (at greatest last k) greatest) (suc (at greatest last k)) 1
  at_next k inside = elim (cases_lt (last + suc k) greatest) [
    | inl lt ↦
        let here = at_early k (omega (arith, lt)) in
        rw (lt-ltb (at greatest last k) greatest (omega (arith, here, lt))) (omega (arith, here, at_early (suc k) lt))
    | inr ge ↦ elim (cases_lt (last + k) greatest) [
      | inl lt ↦
          let here = at_early k lt in
          rw (le-ltb (at greatest last k) greatest (omega (arith, here, ge))) (omega (arith, ge, lt, at_late (suc k) ge inside))
      | inr more ↦
          let here = at_late k more (omega (arith, inside)) in
          rw (lt-ltb (at greatest last k) greatest (omega (arith, here, within, inside))) (omega (arith, here, at_late (suc k) ge inside))
    ]
  ]

  pub at_within : (k : ℕ) → k < greatest → (1 ≤ at greatest last k) × (at greatest last k ≤ greatest)
  at_within k inside = elim (cases_lt (last + k) greatest) [
    | inl lt ↦ (let here = at_early k lt in (omega (arith, here), omega (arith, here, lt)))
    | inr ge ↦ (let here = at_late k ge inside in (omega (arith, here, ge), omega (arith, here, within, inside)))
  ]

  -- no number of the circle comes twice
  pub at_apart : (i k : ℕ) → i < k → k < greatest → at greatest last i ≢ at greatest last k
  at_apart i k less inside same = elim (cases_lt (last + k) greatest) [
    | inl lt ↦ omega (arith, same, less, at_early i (omega (arith, less, lt)), at_early k lt)
    | inr ge ↦ elim (cases_lt (last + i) greatest) [
      | inl lt ↦ omega (arith, same, less, within, inside, at_early i lt, at_late k ge inside)
      | inr more ↦ omega (arith, same, less, at_late i more (omega (arith, less, inside)), at_late k ge inside)
    ]
  ]

-- ---- there are no more different numbers among some than these are

pub filter_shorter : {X : Type 0} (test : X → Bool) (xs : List X) → list_any test xs ≡ true → suc (length (filter (λ x. not (test x)) xs)) ≤ length xs
filter_shorter test [] any = absurd cc
filter_shorter test (x ∷ xs) any = elim (cases_Bool (test x)) [
  | inl passes ↦ rw passes (omega (arith, length-filter (λ x. not (test x)) xs, count_by-le-length (λ x. not (test x)) xs))
  | inr fails ↦ rw fails (let more = filter_shorter test xs (rw fails at any) in omega (arith, more))
]

among_rest : (used : List ℕ) (x y : ℕ) → is_among used y ≡ true → y ≢ x → is_among (filter (λ other. not (other == x)) used) y ≡ true
among_rest [] x y among apart = among
among_rest (u ∷ used) x y among apart = elim (cases_eq u x) [
  | inl e ↦ rw (eq-eqb u x e) (among_rest used x y (rw (ne_eqb u y (λ same. apart (sym same ∙ e))) at among) apart)
  | inr ne ↦ rw (ne_eqb u x ne) (elim (or_cases (u == y) (is_among used y) among) [
    | inl here ↦ or_left (u == y) (is_among (filter (λ other. not (other == x)) used) y) here
    | inr later ↦ or_right (u == y) (is_among (filter (λ other. not (other == x)) used) y) (among_rest used x y later apart)
  ])
]

pub covered : (f : ℕ → ℕ) (n : ℕ) (used : List ℕ) → ((i k : ℕ) → i < k → k < n → f i ≢ f k) → ((k : ℕ) → k < n → is_among used (f k) ≡ true) → n ≤ length used
covered f zero used apart among = omega arith
covered f (suc n) used apart among =
    let less = filter_shorter (λ other. other == f n) used (among n (omega arith)) in
    let more = covered f n (filter (λ other. not (other == f n)) used) (λ i k below inside. apart i k below (omega (arith, inside)))
    (λ k below. among_rest used (f n) (f k) (among k (omega (arith, below))) (apart k n below (omega arith))) in
    omega (arith, less, more)

-- ---- the first number that is free

module _ (greatest last : ℕ) (within : last ≤ greatest) (used : List ℕ) where
  abbrev free : ℕ → Bool
  free number = not (is_among used number)

  -- the first number that is free, by the place at which it is found
  first_at : first_free greatest used last ≡ at greatest last (position_or_len free (circle_after greatest last))
  first_at = ap (λ found. unwrap_or found 0) (find_at free (circle_after greatest last)) ∙ unwrap_or-slice_get (circle_after greatest last) (position_or_len free (circle_after greatest last)) 0

  pub first_free_at : (k : ℕ) → k < greatest → ((j : ℕ) → j < k → is_among used (at greatest last j) ≡ true) → is_among used (at greatest last k) ≡ false → first_free greatest used last ≡ at greatest last k
  first_free_at k inside before here =
      first_at ∙ ap (at greatest last) (position_or_len_is free (circle_after greatest last) k 0 (omega (arith, inside, circle_length greatest last within)) (λ j below. not_from_true _ (before j below)) (λ _. not_from_false _ here))

  -- a number is free, where as many before it are used as there are
  pub free_after_all : length used < greatest → ((j : ℕ) → j < length used → is_among used (at greatest last j) ≡ true) → is_among used (at greatest last (length used)) ≡ false
  free_after_all few before =
      false_from_ne_true (is_among used (at greatest last (length used))) (λ there.
      let all = covered (at greatest last) (suc (length used)) used (λ i k less inside. at_apart greatest last within i k less (omega (arith, inside, few))) (λ k inside. elim (cases_eq k (length used)) [
        | inl e ↦ subst (λ n. is_among used (at greatest last n) ≡ true) (sym e) there
        | inr ne ↦ before k (omega (arith, ne, inside))
      ]) in
      omega (arith, all)
      )

  -- the number that is found is one of the circle, and is free
  pub first_is_free : length used < greatest → (1 ≤ first_free greatest used last) × (first_free greatest used last ≤ greatest) × (is_among used (first_free greatest used last) ≡ false)
  first_is_free few =
      let place = position_or_len free (circle_after greatest last) in
      let inside : place < greatest = elim (cases_lt place greatest) [
        | inl lt ↦ lt
        | inr ge ↦ (let all = covered (at greatest last) greatest used (λ i k. at_apart greatest last within i k) (λ k below. not-false (is_among used (at greatest last k)) (fails_before_first free (circle_after greatest last) k 0 (omega (arith, below, ge)))) in absurd (omega (arith, all, few)))
      ] in
      let one = at_within greatest last within place inside in
      let passes = not-true (is_among used (at greatest last place)) (passes_at_first free (circle_after greatest last) 0 (omega (arith, inside, circle_length greatest last within))) in
      (omega (arith, first_at, one.0), omega (arith, first_at, one.1), ap (is_among used) first_at ∙ passes)

-- ---- how many numbers are free ahead

-- after the first number of the search, the search goes on as before
at_shift : (greatest last k : ℕ) → last ≤ greatest → suc k < greatest → at greatest (at greatest last 0) k ≡ at greatest last (suc k)
at_shift greatest last k within inside = elim (cases_lt last greatest) [
  | inl lt ↦ (
      let first = at_early greatest last within 0 (omega (arith, lt)) in
      let start = at greatest last 0 in
      let start_within : start ≤ greatest = omega (arith, first, lt) in
      elim (cases_lt (last + suc k) greatest) [
        | inl less ↦ omega (arith, first, at_early greatest last within (suc k) less, at_early greatest start start_within k (omega (arith, first, less)))
        | inr more ↦ omega (arith, first, at_late greatest last within (suc k) more inside, at_late greatest start start_within k (omega (arith, first, more)) (omega (arith, inside)))
      ]
      )
  | inr ge ↦ (
      let first = at_late greatest last within 0 (omega (arith, ge)) (omega (arith, inside)) in
      let start = at greatest last 0 in
      omega (arith, within, ge, first, at_late greatest last within (suc k) (omega (arith, ge)) inside, at_early greatest start (omega (arith, first, within, inside)) k (omega (arith, first, within, ge, inside)))
      )
]

module _ (greatest last : ℕ) (within : last ≤ greatest) (used : List ℕ) (rest : ℕ) (ahead : AreFreeAhead greatest used last (suc rest)) where
  -- where a number is free ahead, it is drawn
  pub drawn_ahead : first_free greatest used last ≡ at greatest last 0
  drawn_ahead = first_free_at greatest last within used 0 (omega (arith, ahead.some)) (λ j below. absurd (omega (arith, below))) (ahead.free 0 (omega arith))

  -- and one less is free ahead
  pub ahead_rest : AreFreeAhead greatest used (at greatest last 0) rest
  ahead_rest = record {
    some = omega (arith, ahead.some);
    free = λ k below. ap (is_among used) (at_shift greatest last k within (omega (arith, below, ahead.some))) ∙ ahead.free (suc k) (omega (arith, below));
  }

-- a number is as far as the search takes steps to it
pub distance_at : (greatest last k : ℕ) → last ≤ greatest → k < greatest → distance greatest last (at greatest last k) ≡ suc k
distance_at greatest last k within inside = elim (cases_lt (last + k) greatest) [
  | inl lt ↦ (let here = at_early greatest last within k lt in rw (lt-ltb last (at greatest last k) (omega (arith, here))) (omega (arith, here)))
  | inr ge ↦ (let here = at_late greatest last within k ge inside in rw (le-ltb last (at greatest last k) (omega (arith, here, inside))) (omega (arith, here, within)))
]

-- nothing is nearer than the nearest
abbrev least_of : {X : Type 0} → (X → ℕ) → ℕ → List X → ℕ
least_of steps start xs = fold (λ least x. min least (steps x)) start xs

least-le : {X : Type 0} (steps : X → ℕ) (xs : List X) (start : ℕ) → least_of steps start xs ≤ start
least-le steps [] start = omega arith
least-le steps (x ∷ xs) start = omega (arith, least-le steps xs (min start (steps x)))

least-all : {X : Type 0} (steps : X → ℕ) (xs : List X) (start : ℕ) → All (λ x. least_of steps start xs ≤ steps x) xs
least-all steps [] start = λ i d inside. absurd (omega (arith, inside))
least-all steps (x ∷ xs) start = All-cons (λ y. least_of steps start (x ∷ xs) ≤ steps y) x xs (omega (arith, least-le steps xs (min start (steps x)))) (least-all steps xs (min start (steps x)))

pub nearest-le : {X : Type 0} (seq : X → ℕ) (greatest last : ℕ) (xs : List X) → nearest seq greatest last xs ≤ greatest
nearest-le seq greatest last xs = least-le (λ x. distance greatest last (seq x)) xs greatest

pub nearest-all : {X : Type 0} (seq : X → ℕ) (greatest last : ℕ) (xs : List X) → All (λ x. nearest seq greatest last xs ≤ distance greatest last (seq x)) xs
nearest-all seq greatest last xs = least-all (λ x. distance greatest last (seq x)) xs greatest

-- no number before the nearest that is used is used
pub not_nearer : (greatest last k nearest number : ℕ) → last ≤ greatest → k < greatest → suc k < nearest → nearest ≤ distance greatest last number → (number == at greatest last k) ≡ false
not_nearer greatest last k nearest number within inside less near = ne_eqb number (at greatest last k) (λ e. omega (arith, less, near, ap (distance greatest last) e, distance_at greatest last k within inside))

-- the search doesn't come back to where it began before it has been at all others
pub not_back : (greatest last k : ℕ) → last ≤ greatest → suc k < greatest → at greatest last k ≢ last
not_back greatest last k within inside same = elim (cases_lt (last + k) greatest) [
  | inl lt ↦ omega (arith, same, at_early greatest last within k lt)
  | inr ge ↦ omega (arith, same, inside, at_late greatest last within k ge (omega (arith, inside)))
]
