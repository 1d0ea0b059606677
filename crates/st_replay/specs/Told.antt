-- Which choice an entry of a printed trace tells, and which entry the machine adds for it. The entries have the numbers of their messages.
use Rattle.std.specs.Option.{option_map}
use Rattle.std.specs.Prelude.{◌≡◌, ℕ, List, [], ◌∷◌, ◌++◌, Option, Some, None, reverse, unwrap_or}
use Rattle.st_model.specs.Tree.{is_number}
use Rattle.st_trace.specs.declared.entry.Choice.{Choice}
use Rattle.st_trace.specs.declared.entry.Choice.TheVariants.{Thread, Worker, Operator}
use Rattle.st_trace.specs.declared.entry.Entry.{Entry}
use Rattle.st_trace.specs.declared.entry.Entry.TheVariants.{Stored, Entered, Claimed, Copied, Looked, Faulted, Answered, Replied, Learned, Used, Denied, Ended, Reloaded}
use Rattle.st_law.specs.declared.input.Input.{Input}
use Rattle.st_law.specs.History.{looking_back}
use Rattle.st_law.specs.Machine.{entry_of}
use Rattle.st_law.specs.Numbers.{IsLawfulByNumber, drawn, largest_number, numbered_entry, numbers_at}
use Rattle.st_law.specs.Sessions.{least_from}
use Rattle.st_law.specs.State.{State, worker_at}
use Rattle.st_law.specs.Threads.{History}
use Rattle.st_replay.specs.declared.mover.Mover.{Mover}
use Rattle.st_replay.specs.declared.mover.Mover.TheVariants as who

-- ---- in a state, by the numbers of its drawings

-- the least worker that is at a drawing of this number, 0 if none is
abbrev pub worker_numbered : Input → State → (ℕ → ℕ) → ℕ → ℕ
worker_numbered i st number_of n = unwrap_or (least_from (λ w. is_number n (option_map number_of (worker_at st w))) 1 i.options.workers) 0

-- who moved by an entry: its thread, the worker that it names or that is at its number, or the operator
abbrev pub mover_of : Entry → Mover
mover_of (Stored tid place word) = who.Thread tid
mover_of (Entered tid call regs way) = who.Thread tid
mover_of (Claimed worker n) = who.Worker worker
mover_of (Copied n part place word) = who.Number n
mover_of (Looked n part name seen) = who.Number n
mover_of (Faulted n errno) = who.Number n
mover_of (Answered worker snapshot verdict applied) = who.Worker worker
mover_of (Replied n reply number) = who.Operator
mover_of (Learned n number) = who.Operator
mover_of (Used tid n call regs args ids result changes) = who.Thread tid
mover_of (Denied tid n errno cause) = who.Thread tid
mover_of (Ended tid) = who.Thread tid
mover_of (Reloaded tid policy done changes) = who.Thread tid

-- the choice of a mover
abbrev pub choice_of_mover : Input → State → (ℕ → ℕ) → Mover → Choice
choice_of_mover i st number_of (who.Thread tid) = Thread tid
choice_of_mover i st number_of (who.Worker worker) = Worker worker
choice_of_mover i st number_of (who.Number n) = Worker (worker_numbered i st number_of n)
choice_of_mover i st number_of who.Operator = Operator

-- the choice that an entry tells
abbrev pub choice_numbered : Input → State → (ℕ → ℕ) → Entry → Choice
choice_numbered i st number_of e = choice_of_mover i st number_of (mover_of e)

-- ---- after a trace

-- a trace so far: the input of its run, and its entries
pub record TraceSoFar : Type 0 where
  pub input : Input
  pub trace : List Entry

-- the trace with one more entry
abbrev pub with_entry : TraceSoFar → Entry → TraceSoFar
with_entry so_far e = record { input = so_far.input; trace = so_far.trace ++ e ∷ [] }

-- the trace with one more entry, if there is one
abbrev pub with_added : TraceSoFar → Option Entry → TraceSoFar
with_added so_far None = so_far
with_added so_far (Some e) = with_entry so_far e

-- the trace is lawful
abbrev pub IsLawfulSoFar : TraceSoFar → Type 0
IsLawfulSoFar so_far = IsLawfulByNumber so_far.input so_far.trace

-- the entries with the drawings of their numbers, the last one first
abbrev pub history_told : TraceSoFar → History
history_told so_far = reverse (drawn so_far.trace)

-- the choice of a mover after the trace
abbrev pub choice_after : TraceSoFar → Mover → Choice
choice_after so_far mover = choice_of_mover so_far.input (looking_back so_far.input (history_told so_far)) (numbers_at largest_number so_far.input (history_told so_far)).number_of mover

-- the choice that an entry tells after the trace
abbrev pub choice_told : TraceSoFar → Entry → Choice
choice_told so_far e = choice_after so_far (mover_of e)

-- an entry of drawings as the next one after a history, with the numbers of its drawings
abbrev pub numbered_after : Input → History → Entry → Entry
numbered_after i h d = numbered_entry (numbers_at largest_number i (d ∷ h)).number_of d

-- the entry that the machine adds after the trace for a choice, none if the choice isn't enabled
abbrev pub entry_made : TraceSoFar → Choice → Option Entry
entry_made so_far c = option_map (numbered_after so_far.input (history_told so_far)) (entry_of so_far.input (looking_back so_far.input (history_told so_far)) c)

-- the entry that the machine adds when this mover moves
abbrev pub entry_moved : TraceSoFar → Mover → Option Entry
entry_moved so_far mover = entry_made so_far (choice_after so_far mover)

-- the entry that the machine adds for the choice that an entry tells
abbrev pub entry_told : TraceSoFar → Entry → Option Entry
entry_told so_far e = entry_made so_far (choice_told so_far e)

-- an entry of this mover is lawful after the trace only if the machine adds it
abbrev pub IsOnly : TraceSoFar → Mover → Option Entry → Type 0
IsOnly so_far mover added = (e : Entry) → mover_of e ≡ mover → IsLawfulSoFar (with_entry so_far e) → added ≡ Some e
