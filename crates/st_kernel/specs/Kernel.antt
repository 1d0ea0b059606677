-- The abstract state of the kernel, a run so far, and how a choice, `rest` or a line of a schedule continues it.
use Rattle.std.specs.Option.{option_map}
use Rattle.std.specs.Prelude.{◌≡◌, ◌≤◌, ◌<◌, ◌+◌, ℕ, zero, suc, if◌then◌else◌, Bool, true, false, is_some, List, [], ◌∷◌, ◌++◌, length, reverse, Option, Some, None}
use Rattle.st_calls.specs.declared.judged.Snapshot.{Snapshot}
use Rattle.st_trace.specs.declared.entry.Choice.{Choice}
use Rattle.st_trace.specs.declared.entry.Entry.{Entry}
use Rattle.st_law.specs.declared.input.Input.{Input}
use Rattle.st_law.specs.Inputs.{IsStartable}
use Rattle.st_law.specs.Machine.{entry_of, history, run, state_of_run, thread_entry}
use Rattle.st_law.specs.Numbers.{Numbers, in_use_now, largest_number, numbered, numbered_entry, numbers_at}
use Rattle.st_law.specs.Schedules.{EnabledChoice, Played, first_enabled, most_steps, rest_from}
use Rattle.st_law.specs.State.{State, is_live, snapshot_in, thread_count, worker_at}
use Rattle.st_law.specs.Threads.{History}
use Rattle.st_report.specs.ScheduleText.{repeats_of, spelled_choices}
use Rattle.st_report.specs.declared.schedule.Repeat.{Repeat}
use Rattle.st_workers.specs.Numbers.{HasNumbers}
use Rattle.st_decide.specs.Machine.{Refines, Running}
use Rattle.st_waking.specs.Waking.{is_asleep}

-- a run so far: its input, and the choices that were made
pub record RunSoFar : Type 0 where
  pub input : Input
  pub choices : List Choice

-- a run with one more choice
abbrev pub with_choice : RunSoFar → Choice → RunSoFar
with_choice so_far choice = record { input = so_far.input; choices = so_far.choices ++ choice ∷ [] }

-- the state that the choices lead to
abbrev pub state_in : RunSoFar → State
state_in so_far = state_of_run so_far.input so_far.choices

-- the entries that the choices add, in order, with the drawings of messages
abbrev pub drawn_of : RunSoFar → List Entry
drawn_of so_far = run so_far.input so_far.choices

-- the same, the last one first
abbrev pub history_of : RunSoFar → History
history_of so_far = history so_far.input (reverse so_far.choices)

-- the trace: these entries with the numbers of the drawings
abbrev pub trace_of : RunSoFar → List Entry
trace_of so_far = numbered so_far.input (drawn_of so_far)

-- the next entry, with the numbers of its drawings
abbrev pub numbered_next : RunSoFar → Entry → Entry
numbered_next so_far e = numbered_entry (numbers_at largest_number so_far.input (e ∷ history_of so_far)).number_of e

-- the entry that a choice would add now, with the numbers of its drawings
abbrev pub entry_now : RunSoFar → Choice → Option Entry
entry_now so_far c = option_map (numbered_next so_far) (entry_of so_far.input (state_in so_far) c)

-- the law's numbers after these choices, for the drawings that are in use in the state that they lead to
abbrev pub numbers_now : Input → List Choice → Numbers
numbers_now i choices = in_use_now i (state_of_run i choices) (numbers_at largest_number i (history i (reverse choices)))

-- the number of a drawing
abbrev pub number_now : RunSoFar → ℕ → ℕ
number_now so_far q = (numbers_now so_far.input so_far.choices).number_of q

-- the number of a drawing, if it is live
abbrev pub live_number : RunSoFar → ℕ → Option ℕ
live_number so_far q = if is_live (state_in so_far) q then Some (number_now so_far q) else None

-- a live drawing has this number
abbrev pub IsLiveNumber : RunSoFar → ℕ → Type 0
IsLiveNumber so_far seq = (q : ℕ) × (is_live (state_in so_far) q ≡ true) × (number_now so_far q ≡ seq)

-- the choices that were made before are a prefix of those that were made since
abbrev pub Continues : RunSoFar → RunSoFar → Type 0
Continues old new = (made : List Choice) × (new.choices ≡ old.choices ++ made)

-- a choice was made, and this is the entry that it adds, with the numbers of its drawings; or it adds none, the place for its entry is
-- empty, and the run is unchanged
abbrev pub IsChosen : RunSoFar → Choice → Bool → Option Entry → RunSoFar → Type 0
IsChosen old c true added new = (e : Entry) × (added ≡ Some (numbered_next old e)) × (entry_of old.input (state_in old) c ≡ Some e) × (new ≡ with_choice old c)
IsChosen old c false added new = (added ≡ None) × (entry_of old.input (state_in old) c ≡ None) × (new ≡ old)

-- the same, but if the choice adds no entry, the place for its entry may hold anything
abbrev pub IsTried : RunSoFar → Choice → Bool → Option Entry → RunSoFar → Type 0
IsTried old c true added new = IsChosen old c true added new
IsTried old c false added new = (entry_of old.input (state_in old) c ≡ None) × (new ≡ old)

-- a run can start with the input, and each of the choices was enabled when it was made
pub record IsPlayed (so_far : RunSoFar) : Type 0 where
  pub startable : IsStartable so_far.input
  pub enabled : length (run so_far.input so_far.choices) ≡ length so_far.choices

-- the choices, with the state that they lead to: the start of the next lines of a schedule
abbrev pub played_so_far : RunSoFar → Played
played_so_far so_far = record { choices = so_far.choices; state = state_in so_far }

-- the first choice that is enabled, with the entry that it adds
abbrev pub next_enabled : RunSoFar → Option EnabledChoice
next_enabled so_far = first_enabled so_far.input (state_in so_far)

-- no thread before this one can move
abbrev pub NoneMoves : RunSoFar → ℕ → Type 0
NoneMoves so_far tid = (t : ℕ) → 1 ≤ t → t < tid → thread_entry so_far.input (state_in so_far) t ≡ None

-- the first enabled choice of a family was made, and adds this entry of drawings
pub record IsFirstEnabledMade (of : ℕ → Choice) (count : ℕ) (old : RunSoFar) (e : Entry) (new : RunSoFar) : Type 0 where
  pub number : ℕ
  pub from : 1 ≤ number
  pub to : number ≤ count
  pub before : (n : ℕ) → 1 ≤ n → n < number → entry_of old.input (state_in old) (of n) ≡ None
  pub adds : entry_of old.input (state_in old) (of number) ≡ Some e
  pub made : new ≡ with_choice old (of number)

-- the first enabled choice of a family was made; or none of so many is enabled, and the run is unchanged
abbrev pub HasMadeFirstEnabled : (ℕ → Choice) → ℕ → RunSoFar → Bool → Option Entry → RunSoFar → Type 0
HasMadeFirstEnabled of count old true added new = (e : Entry) × (added ≡ Some (numbered_next old e)) × IsFirstEnabledMade of count old e new
HasMadeFirstEnabled of count old false added new = ((n : ℕ) → 1 ≤ n → n ≤ count → entry_of old.input (state_in old) (of n) ≡ None) × (new ≡ old)

-- the first enabled choice was made, and adds this entry; or no choice is enabled, and the run is unchanged
abbrev pub IsNextEntry : RunSoFar → Bool → Option Entry → RunSoFar → Type 0
IsNextEntry old true added new = (e : Entry) × (c : Choice) × (added ≡ Some (numbered_next old e)) × (next_enabled old ≡ Some (record { choice = c; entry = e })) × (new ≡ with_choice old c)
IsNextEntry old false added new = (next_enabled old ≡ None) × (new ≡ old)

-- a run after the first enabled choice was made again and again, until none is enabled
abbrev pub rested : RunSoFar → RunSoFar
rested so_far = record { input = so_far.input; choices = (rest_from (most_steps so_far.input) so_far.input (state_in so_far) so_far.choices).choices }

-- no thread that is marked as asleep can move; thread t is at index t - 1
abbrev pub AreStill : Input → State → List Bool → Type 0
AreStill i st asleep = (place : ℕ) → is_asleep asleep place ≡ true → thread_entry i st (suc place) ≡ None

-- the invariant: the machine that runs is in the state after the choices that are kept, with equal consecutive ones joined; each of them
-- was enabled when it was made; no thread can move that is below the cursor or marked as asleep; and the held calls have the law's numbers
pub record IsRunSoFar (m : Running) (kept : List Repeat) (first : ℕ) (asleep : List Bool) : Type 0 where
  pub machine : Refines m (state_of_run m.input (spelled_choices kept))
  pub joined : kept ≡ repeats_of (spelled_choices kept)
  pub enabled : length (run m.input (spelled_choices kept)) ≡ length (spelled_choices kept)
  pub still : (t : ℕ) → 1 ≤ t → t < first → thread_entry m.input (state_of_run m.input (spelled_choices kept)) t ≡ None
  pub from : 1 ≤ first
  pub to : first ≤ suc (thread_count m.input)
  pub marked : AreStill m.input (state_of_run m.input (spelled_choices kept)) asleep
  pub count : length asleep ≡ thread_count m.input
  pub numbers : HasNumbers (numbers_now m.input (spelled_choices kept)) m.workers.calls

-- ---- workers that are ready

-- the copies of a drawing, if there is one and they are complete
abbrev pub copies_at : State → Option ℕ → Option Snapshot
copies_at st None = None
copies_at st (Some q) = snapshot_in st q

-- copies with the number of their drawing
abbrev pub numbered_copies : RunSoFar → Snapshot → Snapshot
numbered_copies so_far s = record s { seq = number_now so_far s.seq }

-- the copies that a worker is ready with, with the number of their drawing; none if it isn't ready
abbrev pub kept_copies : RunSoFar → ℕ → Option Snapshot
kept_copies so_far worker = option_map (numbered_copies so_far) (copies_at (state_in so_far) (worker_at (state_in so_far) worker))

-- how many of the first workers are ready
abbrev pub ready_workers : State → ℕ → ℕ
ready_workers st zero = 0
ready_workers st (suc w) = if is_some (copies_at st (worker_at st (suc w))) then suc (ready_workers st w) else ready_workers st w

-- the invariant: a list of this length and capacity has room for the answer of each ready worker
abbrev pub HasRoom : RunSoFar → ℕ → ℕ → Type 0
HasRoom so_far count capacity = ready_workers (state_in so_far) so_far.input.options.workers + count ≤ capacity
