-- The states of seats: which of them are kept and apart after one is changed or appended.
use Rattle.std.proofs.Common.{◌≡◌, ◌≢◌, ◌⊎◌, ℕ, zero, suc, ◌<◌, ◌≤◌, ◌==◌, if◌then◌else◌, Bool, true, false, List, [], ◌∷◌, ◌++◌, length, set, Some, inl, inr, ⊎_elim, refl, sym, ap, subst, arith}
use Rattle.std.specs.Prelude.{drop}
use mathlib.Core.Option.{some, some-injective, some-ne-none}
use lib.ListN.{get_elem?}
use Rattle.atomic_table.proofs.Lists.{at_set}
use Rattle.atomic_table.specs.Seated.{TableId}
use Rattle.st_law.specs.Threads.{owner_of_row}
use Rattle.st_trace.specs.declared.start.Start.{Start}
use Rattle.st_trace.specs.declared.start.ThreadRow.{ThreadRow}
use Rattle.st_wordmem.specs.declared.seat_state.SeatState.{SeatState}
use Rattle.st_wordmem.specs.declared.seat_state.SeatState.TheVariants.{Root, Thread, Spent}
use Rattle.st_wordmem.specs.Memory.{made_in, memory_in, next_in, thread_in, IsRoot, IsThreadSeat, MemoryOf}
use Rattle.st_wordmem.specs.Rule.{first_thread_from, next_thread, AreApart}

-- ---- the state of a root and of a seat of a memory

pub root_state : (table : TableId) (state : SeatState) (memory : MemoryOf) → IsRoot state → memory_in table state ≡ memory → (table ≡ memory.table) × (state ≡ Root memory.start memory.pid (next_in state))
root_state table (Root start pid next) memory is e = (ap (λ (m : MemoryOf). m.table) e, ap (λ (m : MemoryOf). Root m.start m.pid next) e)
root_state table (Thread start pid thread made) memory is e = absurd is
root_state table Spent memory is e = absurd is

pub thread_state : (table : TableId) (state : SeatState) (memory : MemoryOf) → IsThreadSeat state → memory_in table state ≡ memory
    → (table ≡ memory.table) × (state ≡ Thread memory.start memory.pid (thread_in state) (made_in state))
thread_state table (Root start pid next) memory is e = absurd is
thread_state table (Thread start pid thread made) memory is e = (ap (λ (m : MemoryOf). m.table) e, ap (λ (m : MemoryOf). Thread m.start m.pid thread made) e)
thread_state table Spent memory is e = absurd is

-- ---- the next thread

at_least : (b : Bool) (t later : ℕ) → t ≤ later → t ≤ (if b then t else later)
at_least true t later h = omega arith
at_least false t later h = h

from_le : (pid : ℕ) (rows : List ThreadRow) (t : ℕ) → t ≤ first_thread_from pid rows t
from_le pid [] t = omega arith
from_le pid (row ∷ rows) t = at_least (owner_of_row (Some row) == pid) t (first_thread_from pid rows (suc t)) (omega (arith, from_le pid rows (suc t)))

pub next_is_later : (start : Start) (pid t : ℕ) → t < next_thread start pid t
next_is_later start pid t = omega (arith, from_le pid (drop t start.threads) (suc t))

-- ---- one state is changed, or one is appended

-- an element is of the list, or the one appended
at_end : {X : Type 0} (xs : List X) (last x : X) (i : ℕ) → get_elem? (xs ++ last ∷ []) i ≡ some x → (get_elem? xs i ≡ some x) ⊎ ((i ≡ length xs) × (last ≡ x))
at_end [] last x zero e = inr (refl, some-injective last x e)
at_end [] last x (suc i) e = absurd (some-ne-none x (sym e))
at_end (y ∷ xs) last x zero e = inl e
at_end (y ∷ xs) last x (suc i) e = ⊎_elim (λ front. inl front) (λ h. inr (ap suc h.0, h.1)) (at_end xs last x i e)

abbrev pub AllApart : List SeatState → Type 0
AllApart states = (i j : ℕ) (state other : SeatState) → get_elem? states i ≡ some state → get_elem? states j ≡ some other → AreApart i state j other

-- a state is apart from another, and the other from it
abbrev pub AreBothApart : ℕ → SeatState → ℕ → SeatState → Type 0
AreBothApart i state j other = AreApart i state j other × AreApart j other i state

module _ (states : List SeatState) (id : ℕ) (state : SeatState) where
  pub each_set : (P : SeatState → Type 0) → P state → ((j : ℕ) (other : SeatState) → j ≢ id → get_elem? states j ≡ some other → P other)
      → (i : ℕ) (one : SeatState) → get_elem? (set states id state) i ≡ some one → P one
  each_set P new others i one at = elim (at_set states id i state one at) [
    | inl here ↦ subst P here.1 new
    | inr there ↦ others i one there.0 there.1
  ]

  pub apart_set : AreApart id state id state → ((j : ℕ) (other : SeatState) → j ≢ id → get_elem? states j ≡ some other → AreBothApart id state j other) → AllApart states → AllApart (set states id state)
  apart_set own others apart i j one other at_i at_j = elim (at_set states id i state one at_i) [
    | inl a ↦ elim (at_set states id j state other at_j) [
      | inl b ↦ subst (λ (z : ℕ × SeatState × ℕ × SeatState). AreApart z.0 z.1 z.2 z.3) (λ k. (sym a.0 k, a.1 k, sym b.0 k, b.1 k)) own
      | inr b ↦ subst (λ (z : ℕ × SeatState). AreApart z.0 z.1 j other) (λ k. (sym a.0 k, a.1 k)) (others j other b.0 b.1).0
    ]
    | inr a ↦ elim (at_set states id j state other at_j) [
      | inl b ↦ subst (λ (z : ℕ × SeatState). AreApart i one z.0 z.1) (λ k. (sym b.0 k, b.1 k)) (others i one a.0 a.1).1
      | inr b ↦ apart i j one other a.1 b.1
    ]
  ]

module _ (states : List SeatState) (state : SeatState) where
  pub each_push : (P : SeatState → Type 0) → P state → ((j : ℕ) (other : SeatState) → get_elem? states j ≡ some other → P other)
      → (i : ℕ) (one : SeatState) → get_elem? (states ++ state ∷ []) i ≡ some one → P one
  each_push P new others i one at = elim (at_end states state one i at) [
    | inl there ↦ others i one there
    | inr here ↦ subst P here.1 new
  ]

  pub apart_push : AreApart (length states) state (length states) state → ((j : ℕ) (other : SeatState) → get_elem? states j ≡ some other → AreBothApart (length states) state j other) → AllApart states
      → AllApart (states ++ state ∷ [])
  apart_push own others apart i j one other at_i at_j = elim (at_end states state one i at_i) [
    | inr a ↦ elim (at_end states state other j at_j) [
      | inr b ↦ subst (λ (z : ℕ × SeatState × ℕ × SeatState). AreApart z.0 z.1 z.2 z.3) (λ k. (sym a.0 k, a.1 k, sym b.0 k, b.1 k)) own
      | inl b ↦ subst (λ (z : ℕ × SeatState). AreApart z.0 z.1 j other) (λ k. (sym a.0 k, a.1 k)) (others j other b).0
    ]
    | inl a ↦ elim (at_end states state other j at_j) [
      | inr b ↦ subst (λ (z : ℕ × SeatState). AreApart i one z.0 z.1) (λ k. (sym b.0 k, b.1 k)) (others i one a).1
      | inl b ↦ apart i j one other a b
    ]
  ]

-- ---- which states are apart

-- how many stores a thread made doesn't matter
pub apart_by_stores : (i j : ℕ) (start : Start) (pid t made more : ℕ) (state : SeatState) → AreBothApart i (Thread start pid t made) j state → AreBothApart i (Thread start pid t more) j state
apart_by_stores i j start pid t made more (Root own owner next) h = h
apart_by_stores i j start pid t made more (Thread own owner u stores) h = h
apart_by_stores i j start pid t made more Spent h = h

-- the root's next thread may be a later one
pub apart_by_root : (i j : ℕ) (start : Start) (pid next later : ℕ) → next < later → (state : SeatState) → AreBothApart i (Root start pid next) j state → AreBothApart i (Root start pid later) j state
apart_by_root i j start pid next later below (Root own owner other) h = h
apart_by_root i j start pid next later below (Thread own owner u stores) h = (tt, omega (arith, h.1, below))
apart_by_root i j start pid next later below Spent h = h

-- the root's next thread has no seat
pub apart_from_next : (i j n : ℕ) (start : Start) (pid next : ℕ) → j ≢ i → (state : SeatState) → AreBothApart i (Root start pid next) j state → AreBothApart n (Thread start pid next 0) j state
apart_from_next i j n start pid next apart (Root own owner other) h = absurd (apart (sym h.0))
apart_from_next i j n start pid next apart (Thread own owner u stores) h =
    let below : u < next = h.1 in ((λ e. absurd (omega (arith, e, below))), λ e. absurd (omega (arith, e, below)))
apart_from_next i j n start pid next apart Spent h = (tt, tt)

-- a spent seat is apart from each
pub apart_from_spent : (i j : ℕ) (state : SeatState) → AreBothApart i Spent j state
apart_from_spent i j (Root start pid next) = (tt, tt)
apart_from_spent i j (Thread start pid t made) = (tt, tt)
apart_from_spent i j Spent = (tt, tt)
