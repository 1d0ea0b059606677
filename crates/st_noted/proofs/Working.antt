-- What a worker did, and how far its step went.
use Rattle.std.proofs.Common.{◌∙◌, ◌≢◌, ℕ, Option, Some, inl, inr, sym}
use Rattle.std.proofs.lemmas.Option.{none-some, same_Some}
use Rattle.st_trace.specs.declared.entry.Choice.TheVariants.{Worker}
use Rattle.st_trace.specs.declared.entry.Entry.{Entry}
use Rattle.st_filter.specs.Judged.{JudgedCall}
use Rattle.st_kernel.specs.declared.runners.AnswerFault.{AnswerFault}
use Rattle.st_kernel.specs.declared.runners.AnswerFault.TheVariants.{NotEnabled, Differs}
use Rattle.st_kernel.specs.declared.runners.Work.{Work}
use Rattle.st_kernel.specs.declared.runners.Work.TheVariants.{Idle, Judge, Went}
use Rattle.st_kernel.specs.Kernel.{RunSoFar, kept_copies}
use Rattle.st_kernel.specs.Runners.{IsAnswerFault, IsWork}
use Rattle.st_noted.specs.Steps.{IsWorkDone, MayHaveMade}

module _ (old : RunSoFar) (worker : ℕ) (before added : Option Entry) (new : RunSoFar) where
  pub work_done : (work : Work) → IsWork old worker work before added new → IsWorkDone old worker work new
  work_done Idle is = (is.1, is.2)
  work_done (Judge copies) is = (is.0, is.1, is.3)
  work_done Went is = (is.0, ((is.1, is.3), is.4))

pub work_step : (old : RunSoFar) (worker : ℕ) (new : RunSoFar) (work : Work) → IsWorkDone old worker work new → MayHaveMade old (Worker worker) new
work_step old worker new Idle is = inl is.1
work_step old worker new (Judge copies) is = inl is.2
work_step old worker new Went is = inr is.1.1

-- a worker whose answer wasn't taken isn't ready with these copies
pub not_taken : (old : RunSoFar) (worker : ℕ) (judged : JudgedCall) (fault : AnswerFault) → IsAnswerFault old worker judged fault → kept_copies old worker ≢ Some judged.snapshot
not_taken old worker judged (NotEnabled back) is kept = none-some judged.snapshot (sym is.0 ∙ kept)
not_taken old worker judged (Differs back) is kept = is.2 (same_Some is.0 judged.snapshot (sym is.1 ∙ kept))
