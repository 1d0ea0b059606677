-- The verdict with which a worker answers, and whether its answer was applied.
use Rattle.std.specs.Prelude.{◌≡◌, ℕ, Bool, true, false, Some}
use Rattle.st_calls.specs.declared.judged.Snapshot.{Snapshot}
use Rattle.st_calls.specs.declared.judged.Verdict.{Verdict}
use Rattle.st_decide.specs.Machine.{Running}
use Rattle.st_filter.specs.Judged.{verdict_under}
use Rattle.st_messages.specs.declared.message.Delivered.{Delivered}
use Rattle.st_messages.specs.declared.message.Delivered.TheVariants.{Applied, Stale}
use Rattle.st_workers.specs.UnderWay.{turn_of_worker}
use Rattle.st_workers.specs.declared.turn.Turn.TheVariants.{Ready}

-- this is the verdict of the policies on the copies that a worker is ready with, at their version
abbrev pub IsVerdictFor : Running → ℕ → Verdict → Type 0
IsVerdictFor m worker v = (q : ℕ) (s : Snapshot) → turn_of_worker m.workers worker ≡ Some (Ready q s) → v ≡ verdict_under m.input.policies s

-- whether an answer was applied, and not stale
abbrev pub is_applied : Delivered → Bool
is_applied Applied = true
is_applied Stale = false
