-- The rule of a process's words, which every step keeps, over the words and the states of all seats that aren't spent.
use Rattle.std.specs.Prelude.{◌≡◌, ℕ, suc, ◌<◌, ◌==◌, if◌then◌else◌, List, [], ◌∷◌, drop, length, slice_index, Some}
use mathlib.Core.Option.{some}
use lib.ListN.{get_elem?}
use Rattle.atomic_table.specs.Table.{Me, State, Step}
use Rattle.st_model.specs.declared.limits.TheConstants.{SPACE_WORDS}
use Rattle.st_trace.specs.declared.start.Start.{Start}
use Rattle.st_trace.specs.declared.start.ThreadRow.{ThreadRow}
use Rattle.st_law.specs.Loaded.{process_by_script, IsKnownWord, IsLoaded}
use Rattle.st_law.specs.Threads.{owner_of_row}
use Rattle.st_wordmem.specs.declared.seat_state.SeatState.{SeatState}
use Rattle.st_wordmem.specs.declared.seat_state.SeatState.TheVariants.{Root, Thread, Spent}

-- ---- the threads of a process, in order

-- the number of the first of these rows that starts its thread in a process, the first row having number t; if there is none, the number
-- after the last row's
abbrev pub first_thread_from : ℕ → List ThreadRow → ℕ → ℕ
first_thread_from pid [] t = t
first_thread_from pid (row ∷ rows) t = if owner_of_row (Some row) == pid then t else first_thread_from pid rows (suc t)

-- the first thread of a process after thread t; if there is none, the number after the last thread's
abbrev pub next_thread : Start → ℕ → ℕ → ℕ
next_thread start pid t = first_thread_from pid (drop t start.threads) (suc t)

-- ---- states

-- the first state: the root's, when no seat was given
abbrev pub first_root : Start → ℕ → SeatState
first_root start pid = Root start pid (next_thread start pid 0)

-- the root's state after a seat was given to its next thread
abbrev pub root_after : SeatState → SeatState
root_after (Root start pid next) = Root start pid (next_thread start pid next)
root_after state = state

-- the state of the seat that is given to the root's next thread
abbrev pub seat_of_next : SeatState → SeatState
seat_of_next (Root start pid next) = Thread start pid next 0
seat_of_next state = Spent

-- a thread's state after one more store
abbrev pub state_after_store : SeatState → SeatState
state_after_store (Thread start pid thread made) = Thread start pid thread (suc made)
state_after_store state = state

-- ---- the rule

-- What a state says of the words. A thread's says that the thread can load each of them after the stores that it made.
abbrev pub IsStateKept : Start → ℕ → List ℕ → SeatState → Type 0
IsStateKept start pid words (Root own owner next) = (own ≡ start) × (owner ≡ pid)
IsStateKept start pid words (Thread own owner thread made) =
    (own ≡ start) × (owner ≡ pid) × (process_by_script own thread ≡ owner)
    × ((place : ℕ) → IsLoaded own thread made place (slice_index words place))
IsStateKept start pid words Spent = Unit {0}

-- What holds of two seats, by their numbers and states: there is one root, no two seats have the same thread, and a thread's seat stands
-- before the root's next.
abbrev pub AreApart : ℕ → SeatState → ℕ → SeatState → Type 0
AreApart i (Root start pid next) j (Root other owner later) = i ≡ j
AreApart i (Root start pid next) j (Thread other owner u stores) = Unit {0}
AreApart i (Root start pid next) j Spent = Unit {0}
AreApart i (Thread start pid t made) j (Root other owner next) = t < next
AreApart i (Thread start pid t made) j (Thread other owner u stores) = t ≡ u → i ≡ j
AreApart i (Thread start pid t made) j Spent = Unit {0}
AreApart i Spent j other = Unit {0}

-- The rule. Every word is 0, or one that a thread of the process stores at that place by its body. Where a state's thread has stored, the
-- word is one that a thread of the process stores there; and where no other thread does, it is the last that the state's thread has stored.
-- No two seats have the same thread, and every seat's thread stands before the root's next.
pub record AreKept (start : Start) (pid : ℕ) (words : List ℕ) (states : List SeatState) : Type 0 where
  pub size : length words ≡ SPACE_WORDS
  pub known : (place : ℕ) → IsKnownWord start pid place (slice_index words place)
  pub each : (i : ℕ) (state : SeatState) → get_elem? states i ≡ some state → IsStateKept start pid words state
  pub apart : (i j : ℕ) (state other : SeatState) → get_elem? states i ≡ some state → get_elem? states j ≡ some other → AreApart i state j other

-- the rule, over a table
abbrev pub Kept : Start → ℕ → State (Unit {0}) SeatState → Type 0
Kept start pid table = AreKept start pid table.words table.views

-- ---- what the steps tell

-- a state's thread can load this word at this place
abbrev pub IsLoadedFor : SeatState → ℕ → ℕ → Type 0
IsLoadedFor (Root start pid next) place word = Unit {0}
IsLoadedFor (Thread start pid thread made) place word = IsLoaded start thread made place word
IsLoadedFor Spent place word = Unit {0}

-- a load changes nothing, and gives a word that its thread can load there
abbrev pub IsLoadTold : Step (Unit {0}) → Me (Unit {0}) SeatState → ℕ → Me (Unit {0}) SeatState → Type 0
IsLoadTold step before found after = (after ≡ before) × IsLoadedFor before.0 step.word found

-- a store counts one more store of its thread
abbrev pub IsStoreTold : Step (Unit {0}) → Me (Unit {0}) SeatState → ℕ → Me (Unit {0}) SeatState → Type 0
IsStoreTold step before found after = after ≡ (state_after_store before.0, before.1)
