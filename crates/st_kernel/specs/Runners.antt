-- What a runner asks of a run, and what it does.
use Rattle.std.specs.Prelude.{◌≡◌, ◌≢◌, ◌≤◌, ℕ, Bool, true, false, Option, Some, None}
use Rattle.st_calls.specs.declared.judged.Snapshot.{Snapshot}
use Rattle.st_filter.specs.Judged.{JudgedCall}
use Rattle.st_trace.specs.declared.entry.Choice.{Choice}
use Rattle.st_trace.specs.declared.entry.Choice.TheVariants.{Worker}
use Rattle.st_trace.specs.declared.entry.Entry.{Entry}
use Rattle.st_law.specs.Machine.{entry_of, IsEnabled}
use Rattle.st_kernel.specs.Kernel.{RunSoFar, kept_copies, numbered_next, state_in, with_choice}
use Rattle.st_kernel.specs.declared.runners.AnswerFault.{AnswerFault}
use Rattle.st_kernel.specs.declared.runners.AnswerFault.TheVariants.{NotEnabled, Differs}
use Rattle.st_kernel.specs.declared.runners.Work.{Work}
use Rattle.st_kernel.specs.declared.runners.Work.TheVariants.{Idle, Judge, Went}

-- some choice of a family is enabled, or none of so many is
abbrev pub HasEnabled : (ℕ → Choice) → ℕ → RunSoFar → Bool → Type 0
HasEnabled of count so_far true = (n : ℕ) × IsEnabled so_far.input (state_in so_far) (of n)
HasEnabled of count so_far false = (n : ℕ) → 1 ≤ n → n ≤ count → entry_of so_far.input (state_in so_far) (of n) ≡ None

-- what a worker did: it isn't enabled, and no entry is there any more; it is ready with these copies, and has still to answer; or it isn't
-- ready, and its choice was made, which adds this entry, with the numbers of its drawings
abbrev pub IsWork : RunSoFar → ℕ → Work → Option Entry → Option Entry → RunSoFar → Type 0
IsWork old worker Idle before added new = (added ≡ None) × (entry_of old.input (state_in old) (Worker worker) ≡ None) × (new ≡ old)
IsWork old worker (Judge copies) before added new = (kept_copies old worker ≡ Some copies) × IsEnabled old.input (state_in old) (Worker worker) × (added ≡ before) × (new ≡ old)
IsWork old worker Went before added new = (kept_copies old worker ≡ None) × (e : Entry) × (added ≡ Some (numbered_next old e)) × (entry_of old.input (state_in old) (Worker worker) ≡ Some e) × (new ≡ with_choice old (Worker worker))

-- why an answer with a judged call isn't taken: the worker isn't ready, or it is ready with other copies. The judged call is returned
abbrev pub IsAnswerFault : RunSoFar → ℕ → JudgedCall → AnswerFault → Type 0
IsAnswerFault old worker judged (NotEnabled back) = (kept_copies old worker ≡ None) × (back ≡ judged)
IsAnswerFault old worker judged (Differs back) = (s : Snapshot) × (kept_copies old worker ≡ Some s) × (s ≢ judged.snapshot) × (back ≡ judged)
