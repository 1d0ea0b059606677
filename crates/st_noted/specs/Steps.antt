-- What a step does to a run, and to what was recorded of it.
use Rattle.std.specs.Prelude.{◌≡◌, ◌≢◌, ◌⊎◌, ℕ, Bool, true, false, List, None, Some}
use Rattle.st_calls.specs.declared.judged.Snapshot.{Snapshot}
use Rattle.st_trace.specs.declared.entry.Choice.{Choice}
use Rattle.st_trace.specs.declared.entry.Choice.TheVariants.{Worker}
use Rattle.st_trace.specs.declared.entry.Entry.{Entry}
use Rattle.st_law.specs.declared.input.Input.{Input}
use Rattle.st_law.specs.Machine.{entry_of, IsEnabled}
use Rattle.st_law.specs.Meaning.{IsWorker}
use Rattle.st_kernel.specs.declared.runners.Work.{Work}
use Rattle.st_kernel.specs.declared.runners.Work.TheVariants.{Idle, Judge, Went}
use Rattle.st_kernel.specs.Kernel.{RunSoFar, kept_copies, state_in, trace_of, with_choice}

-- a choice was made, or none was; so much is known also where memory runs out
abbrev pub MayHaveMade : RunSoFar → Choice → RunSoFar → Type 0
MayHaveMade old choice new = (new ≡ old) ⊎ (new ≡ with_choice old choice)

-- a choice was enabled, and it was made; or it isn't enabled, and the run is unchanged
abbrev pub IsStepMade : RunSoFar → Choice → Bool → RunSoFar → Type 0
IsStepMade old choice true new = IsEnabled old.input (state_in old) choice × (new ≡ with_choice old choice)
IsStepMade old choice false new = (entry_of old.input (state_in old) choice ≡ None) × (new ≡ old)

-- what a worker did: it isn't enabled; or it is ready with these copies, and has still to answer; or it wasn't ready, and its choice was made
abbrev pub IsWorkDone : RunSoFar → ℕ → Work → RunSoFar → Type 0
IsWorkDone old worker Idle new = IsStepMade old (Worker worker) false new
IsWorkDone old worker (Judge copies) new = (kept_copies old worker ≡ Some copies) × IsEnabled old.input (state_in old) (Worker worker) × (new ≡ old)
IsWorkDone old worker Went new = (kept_copies old worker ≡ None) × IsStepMade old (Worker worker) true new

-- a worker was ready with these copies, and its answer was made; or it isn't there or isn't ready with them, and the run is unchanged
abbrev pub IsAnswerTaken : RunSoFar → ℕ → Snapshot → Bool → RunSoFar → Type 0
IsAnswerTaken old worker copies true new = (kept_copies old worker ≡ Some copies) × IsStepMade old (Worker worker) true new
IsAnswerTaken old worker copies false new = (IsWorker old.input worker → kept_copies old worker ≢ Some copies) × (new ≡ old)

-- if so much was noted of a run before, so much is noted of it now
abbrev pub StillNoted : (Input → List Entry → Type 0) → RunSoFar → (Input → List Entry → Type 0) → RunSoFar → Type 0
StillNoted before old now new = before old.input (trace_of old) → now new.input (trace_of new)
