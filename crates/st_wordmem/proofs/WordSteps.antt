-- Each step of a memory without a lock keeps its rule.
use Rattle.std.proofs.Common.{◌≡◌, ◌≢◌, ℕ, zero, suc, ◌<◌, List, [], ◌∷◌, ◌++◌, length, get_or, set, replicate, inl, inr, refl, sym, ap, ◌∙◌, subst, length-set}
use Rattle.std.proofs.lemmas.List.{length-replicate, set-get_or}
use mathlib.Core.Option.{none, some, some-injective, some-ne-none}
use lib.ListN.{get_elem?}
use Rattle.atomic_table.proofs.Lists.{at_set, set_again}
use Rattle.atomic_table.specs.Table.{keeps, step, Allows, Joins, Me, Splits}
use Rattle.st_model.specs.declared.limits.TheConstants.{SPACE_WORDS}
use Rattle.st_trace.specs.declared.start.Start.{Start}
use Rattle.st_law.specs.Loaded.{process_by_script, IsKnownWord, IsLoaded, IsNextStore}
use Rattle.st_wordmem.specs.declared.seat_state.SeatState.{SeatState}
use Rattle.st_wordmem.specs.declared.seat_state.SeatState.TheVariants.{Root, Thread, Spent}
use Rattle.st_wordmem.specs.Rule.{first_root, next_thread, root_after, seat_of_next, AreApart, AreKept, IsLoadedFor, IsLoadTold, IsStoreTold, IsStateKept, Kept}
use Rattle.st_wordmem.proofs.LoadedWords.{known_after, loads_others, loads_own}
use Rattle.st_wordmem.proofs.SeatStates.{apart_by_root, apart_by_stores, apart_from_next, apart_from_spent, apart_push, apart_set, each_push, each_set, next_is_later, AreBothApart}

-- ---- the start

zero_at : (count place : ℕ) → get_or (replicate count zero) place zero ≡ zero
zero_at zero place = refl
zero_at (suc count) zero = refl
zero_at (suc count) (suc place) = zero_at count place

only : (state other : SeatState) (i : ℕ) → get_elem? (state ∷ []) i ≡ some other → (i ≡ 0) × (state ≡ other)
only state other zero e = (refl, some-injective state other e)
only state other (suc i) e = absurd (some-ne-none other (sym e))

pub begins : (start : Start) (pid : ℕ) (words : List ℕ) → words ≡ replicate SPACE_WORDS 0 → AreKept start pid words (first_root start pid ∷ [])
begins start pid words zeros = record {
  size = ap length zeros ∙ length-replicate {A = ℕ} SPACE_WORDS 0;
  known = λ place. inl (ap (λ (ws : List ℕ). get_or ws place 0) zeros ∙ zero_at SPACE_WORDS place);
  each = λ i state at. subst (IsStateKept start pid words) (only (first_root start pid) state i at).1 (refl, refl);
  apart = λ i j state other at_i at_j.
      let a = only (first_root start pid) state i at_i in
      let b = only (first_root start pid) other j at_j in
      subst (λ (z : ℕ × SeatState × ℕ × SeatState). AreApart z.0 z.1 z.2 z.3) (λ k. (sym a.0 k, a.1 k, sym b.0 k, b.1 k)) refl;
}

-- ---- load

told : (start : Start) (pid : ℕ) (words : List ℕ) (state : SeatState) → IsStateKept start pid words state → (place : ℕ) → IsLoadedFor state place (get_or words place 0)
told start pid words (Root own owner next) kept place = tt
told start pid words (Thread own owner t made) kept place = kept.3 place
told start pid words Spent kept place = tt

pub loads : (start : Start) (pid slots id place : ℕ) (me : Me (Unit {0}) SeatState) → Allows (Kept start pid) slots id me place (λ n. n) (IsLoadTold (step slots place 0 0 none) me)
loads start pid slots id place me table kept homes at small = (
  me.0,
  keeps,
  tt,
  subst (λ (z : List ℕ × List SeatState). AreKept start pid z.0 z.1) (λ k. (sym (set-get_or table.words place 0) k, sym (set_again table.views id me.0 at) k)) kept,
  (refl, told start pid table.words me.0 (kept.each id me.0 at) place),
)

-- ---- store

module _ (start : Start) (pid id place word t made : ℕ) (inside : place < SPACE_WORDS) (next : IsNextStore start t made place word)
    (words : List ℕ) (states : List SeatState) (kept : AreKept start pid words states) (at : get_elem? states id ≡ some (Thread start pid t made)) where
  within : place < length words
  within = subst (λ n. place < n) (sym kept.size) inside

  mine : IsStateKept start pid words (Thread start pid t made)
  mine = kept.each id (Thread start pid t made) at

  both : (j : ℕ) (state : SeatState) → get_elem? states j ≡ some state → AreBothApart id (Thread start pid t made) j state
  both j state at_j = (kept.apart id j (Thread start pid t made) state at at_j, kept.apart j id state (Thread start pid t made) at_j at)

  others_kept : (j : ℕ) → j ≢ id → (state : SeatState) → AreBothApart id (Thread start pid t made) j state → IsStateKept start pid words state → IsStateKept start pid (set words place word) state
  others_kept j apart (Root own owner later) away h = h
  others_kept j apart (Thread own owner u stores) away h =
      let same : process_by_script start t ≡ process_by_script start u = mine.2 ∙ sym h.1 ∙ sym h.2 ∙ ap (λ (s : Start). process_by_script s u) h.0 in
      let before : (other : ℕ) → IsLoaded start u stores other (get_or words other 0) = subst (λ (s : Start). (other : ℕ) → IsLoaded s u stores other (get_or words other 0)) h.0 h.3 in
      let after : (other : ℕ) → IsLoaded start u stores other (get_or (set words place word) other 0) =
      loads_others start t made place word next words within u stores (λ e. apart (sym (away.0 (sym e)))) same before in
      (h.0, h.1, h.2, subst (λ (s : Start). (other : ℕ) → IsLoaded s u stores other (get_or (set words place word) other 0)) (sym h.0) after)
  others_kept j apart Spent away h = h

  stored_kept : AreKept start pid (set words place word) (set states id (Thread start pid t (suc made)))
  stored_kept = record {
    size = length-set words place word ∙ kept.size;
    known = known_after start t made place word next words within pid mine.2 kept.known;
    each = each_set states id (Thread start pid t (suc made)) (IsStateKept start pid (set words place word))
        (refl, refl, mine.2, loads_own start t made place word next words within mine.3)
        (λ j state apart at_j. others_kept j apart state (both j state at_j) (kept.each j state at_j));
    apart = apart_set states id (Thread start pid t (suc made)) (λ same. refl)
        (λ j state apart at_j. apart_by_stores id j start pid t made (suc made) state (both j state at_j)) kept.apart;
  }

pub stores : (start : Start) (pid slots id place word t made : ℕ) (carried : List (ℕ × Unit {0})) → place < SPACE_WORDS → IsNextStore start t made place word
    → Allows (Kept start pid) slots id (Thread start pid t made, carried) place (λ _. word) (IsStoreTold (step slots place word 0 none) (Thread start pid t made, carried))
stores start pid slots id place word t made carried inside next table kept homes at small =
    (Thread start pid t (suc made), keeps, tt, stored_kept start pid id place word t made inside next table.words table.views kept at, refl)

-- ---- split

module _ (start : Start) (pid id next : ℕ) (is : process_by_script start next ≡ pid)
    (words : List ℕ) (states : List SeatState) (kept : AreKept start pid words states) (at : get_elem? states id ≡ some (Root start pid next)) where
  root_apart : (j : ℕ) (state : SeatState) → get_elem? states j ≡ some state → AreBothApart id (Root start pid next) j state
  root_apart j state at_j = (kept.apart id j (Root start pid next) state at at_j, kept.apart j id state (Root start pid next) at_j at)

  new_apart : (n j : ℕ) (state : SeatState) → get_elem? (set states id (Root start pid (next_thread start pid next))) j ≡ some state → AreBothApart n (Thread start pid next 0) j state
  new_apart n j state at_j = elim (at_set states id j (Root start pid (next_thread start pid next)) state at_j) [
    | inl here ↦ subst (AreBothApart n (Thread start pid next 0) j) here.1 (next_is_later start pid next, tt)
    | inr there ↦ apart_from_next id j n start pid next there.0 state (root_apart j state there.1)
  ]

  split_kept : AreKept start pid words (set states id (Root start pid (next_thread start pid next)) ++ Thread start pid next 0 ∷ [])
  split_kept = record {
    size = kept.size;
    known = kept.known;
    each = each_push (set states id (Root start pid (next_thread start pid next))) (Thread start pid next 0) (IsStateKept start pid words)
        (refl, refl, is, λ place. subst (λ p. IsKnownWord start p place (get_or words place 0)) (sym is) (kept.known place))
        (each_set states id (Root start pid (next_thread start pid next)) (IsStateKept start pid words) (refl, refl) (λ j state apart at_j. kept.each j state at_j));
    apart = apart_push (set states id (Root start pid (next_thread start pid next))) (Thread start pid next 0) (λ same. refl)
        (new_apart (length (set states id (Root start pid (next_thread start pid next)))))
        (apart_set states id (Root start pid (next_thread start pid next)) refl
        (λ j state apart at_j. apart_by_root id j start pid next (next_thread start pid next) (next_is_later start pid next) state (root_apart j state at_j)) kept.apart);
  }

pub splits : (start : Start) (pid id next : ℕ) → process_by_script start next ≡ pid → Splits (Kept start pid) id (Root start pid next) (root_after (Root start pid next)) (seat_of_next (Root start pid next))
splits start pid id next is table kept at = split_kept start pid id next is table.words table.views kept at

-- ---- join

spends : (start : Start) (pid other : ℕ) (words : List ℕ) (states : List SeatState) → AreKept start pid words states → AreKept start pid words (set states other Spent)
spends start pid other words states kept = record {
  size = kept.size;
  known = kept.known;
  each = each_set states other Spent (IsStateKept start pid words) tt (λ j state apart at. kept.each j state at);
  apart = apart_set states other Spent tt (λ j state apart at. apart_from_spent other j state) kept.apart;
}

pub joins : (start : Start) (pid id : ℕ) (state : SeatState) (other : ℕ) (back : SeatState) → Joins (Kept start pid) id state other back state Spent
joins start pid id state other back table kept at apart at_other =
    subst (λ (vs : List SeatState). AreKept start pid table.words (set vs other Spent)) (sym (set_again table.views id state at)) (spends start pid other table.words table.views kept)
