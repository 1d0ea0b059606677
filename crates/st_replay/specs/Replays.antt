-- What replaying an entry, or a whole trace, answers.
use Rattle.std.specs.Prelude.{◌≡◌, ℕ, List, Some, slice_get, take}
use Rattle.st_trace.specs.declared.entry.Entry.{Entry}
use Rattle.st_law.specs.declared.input.Input.{Input}
use Rattle.st_law.specs.Numbers.{IsLawfulByNumber}
use Rattle.st_replay.specs.Told.{IsLawfulSoFar, TraceSoFar, choice_told, entry_told, with_added, with_entry}
use Rattle.st_replay.specs.declared.entries.Mismatch.{Mismatch}
use Rattle.st_replay.specs.declared.entries.ReplayFault.{ReplayFault}
use Rattle.st_replay.specs.declared.entries.ReplayFault.TheVariants.{NotLawful, NoMemory}
use Rattle.st_replay.specs.declared.whole.Replayed.{Replayed}
use Rattle.st_replay.specs.declared.whole.Replayed.TheVariants.{Lawful, Broken}

-- how an entry differs from what the machine does for the choice that it tells
abbrev pub mismatch_of : TraceSoFar → Entry → Mismatch
mismatch_of so_far e = record { choice = choice_told so_far e; entry = entry_told so_far e }

-- an entry isn't lawful after a trace, the machine has another entry or none for its choice, and the trace goes on with that one; or
-- memory runs out, and the trace is as it was
abbrev pub IsReplayFault : TraceSoFar → Entry → ReplayFault → TraceSoFar → Type 0
IsReplayFault old e (NotLawful mismatch) new = (IsLawfulSoFar (with_entry old e) → ⊥) × (mismatch ≡ mismatch_of old e) × (new ≡ with_added old (entry_told old e))
IsReplayFault old e NoMemory new = new ≡ old

-- the first so many entries of a trace
abbrev pub first_entries : Input → List Entry → ℕ → TraceSoFar
first_entries i trace count = record { input = i; trace = take count trace }

-- a whole trace is lawful; or so many entries of it are, and the next one isn't lawful after them
abbrev pub IsReplayed : Input → List Entry → Replayed → Type 0
IsReplayed i trace Lawful = IsLawfulByNumber i trace
IsReplayed i trace (Broken at mismatch) = (e : Entry) × (slice_get trace at ≡ Some e) × IsLawfulSoFar (first_entries i trace at) × (IsLawfulSoFar (with_entry (first_entries i trace at) e) → ⊥) × (mismatch ≡ mismatch_of (first_entries i trace at) e)
