-- How the held calls of threads end: a thread's own when it is made or denied, and those of threads that are dying.
use Rattle.std.specs.Prelude.{◌≡◌, ℕ, Bool, true, false, ◌&&◌, ◌||◌, ◌==◌, not, if◌then◌else◌, List, [], ◌∷◌, length, Option, Some, None, option_map}
use Rattle.st_base.specs.Numbered.{item_at_number}
use Rattle.st_model.specs.Processes.{Processes, owner_of}
use Rattle.st_model.specs.Tree.{is_number}
use Rattle.st_trace.specs.declared.entry.Change.{Change}
use Rattle.st_trace.specs.declared.entry.Change.TheVariants.{Dying, Execed}
use Rattle.st_law.specs.declared.input.Input.{Input}
use Rattle.st_law.specs.Messages.{Head}
use Rattle.st_law.specs.State.{State}
use Rattle.st_workers.specs.Numbers.{KeepsNumbers}
use Rattle.st_workers.specs.Refinement.{RepresentsMessages}
use Rattle.st_workers.specs.UnderWay.{UnderWay}
use Rattle.st_threads.specs.Thread.{ThreadRow, drawing_held}

-- ---- which drawings are held

-- a thread holds a call under this drawing, by its row
abbrev pub HasDrawing : Option ThreadRow → ℕ → Type 0
HasDrawing None q = ⊥
HasDrawing (Some row) q = drawing_held row ≡ Some q

-- a drawing is live, and is this thread's
pub record IsDrawingOf (st : State) (alive : ℕ → Bool) (t q : ℕ) : Type 0 where
  pub lives : alive q ≡ true
  pub head : Head
  pub posted : (st.messages q).head ≡ Some head
  pub tid_is : head.tid ≡ t

-- each live drawing is that of its thread's held call, and the drawing of each held call is live
pub record AreLiveDrawingsHeld (st : State) (alive : ℕ → Bool) (rows : List ThreadRow) : Type 0 where
  pub own : (q : ℕ) (head : Head) → alive q ≡ true → (st.messages q).head ≡ Some head → HasDrawing (item_at_number rows head.tid) q
  pub lives : (t : ℕ) (row : ThreadRow) (q : ℕ) → item_at_number rows t ≡ Some row → drawing_held row ≡ Some q → IsDrawingOf st alive t q

-- the messages under way are those of the calls that threads hold, in some state
pub record HaveCalls (rows : List ThreadRow) (workers : UnderWay) : Type 0 where
  pub input : Input
  pub state : State
  pub alive : ℕ → Bool
  pub kept : RepresentsMessages input state alive workers
  pub held : AreLiveDrawingsHeld state alive rows

-- ---- a call ends

-- its drawing, if it has one, is no longer live
abbrev pub life_without_number : (ℕ → Bool) → Option ℕ → ℕ → Bool
life_without_number alive drawing other = if is_number other drawing then false else alive other

-- the messages and workers after the call has ended
abbrev pub EndsCall : Option ℕ → UnderWay → UnderWay → Type 0
EndsCall drawing old new = (i : Input) (st : State) (alive : ℕ → Bool) → RepresentsMessages i st alive old → RepresentsMessages i st (life_without_number alive drawing) new

-- ---- threads that are dying

-- a thread that is dying, or that goes on
abbrev pub row_dying_if : Bool → ThreadRow → ThreadRow
row_dying_if true row = record row { dying = true }
row_dying_if false row = row

-- whether a thread ends with a process; one thread is spared
abbrev pub ends_with : Processes → ℕ → ℕ → ℕ → Bool
ends_with processes pid spared t = owner_of processes t == pid && not (t == spared)

-- whether the thread of a head is one of these
abbrev pub is_head_among : (ℕ → Bool) → Option Head → Bool
is_head_among dies None = false
is_head_among dies (Some head) = dies head.tid

-- which drawings are live without those of these threads
abbrev pub life_but : (ℕ → Bool) → State → (ℕ → Bool) → ℕ → Bool
life_but dies st alive other = if is_head_among dies (st.messages other).head then false else alive other

-- these threads are dying, and their held calls have ended
pub record HaveEnded (dies : ℕ → Bool) (before : List ThreadRow) (workers : UnderWay) (new : List ThreadRow) (left : UnderWay) : Type 0 where
  pub count : length new ≡ length before
  pub numbers : KeepsNumbers workers.calls left.calls
  pub rows : (t : ℕ) → item_at_number new t ≡ option_map (λ row. row_dying_if (dies t) row) (item_at_number before t)
  pub kept : (i : Input) (st : State) (alive : ℕ → Bool) → RepresentsMessages i st alive workers → AreLiveDrawingsHeld st alive before → RepresentsMessages i st (life_but dies st alive) left

-- ---- what changes end

-- whether a change ends a thread, if this is the caller and its process
abbrev pub is_end_of : Processes → ℕ → ℕ → ℕ → Change → Bool
is_end_of processes caller pid t (Dying dying) = ends_with processes dying 0 t
is_end_of processes caller pid t (Execed binary space) = ends_with processes pid caller t
is_end_of processes caller pid t _ = false

-- whether one of these changes ends a thread
abbrev pub is_ended_by : Processes → ℕ → ℕ → List Change → ℕ → Bool
is_ended_by processes caller pid [] t = false
is_ended_by processes caller pid (change ∷ changes) t = is_end_of processes caller pid t change || is_ended_by processes caller pid changes t
