-- Which held calls policies permit by themselves.
use Rattle.std.specs.Prelude.{◌≡◌, ℕ, List, Some}
use Rattle.st_base.specs.declared.ids.Ids.{Ids}
use Rattle.st_calls.specs.declared.judged.Snapshot.{Snapshot}
use Rattle.st_calls.specs.declared.judged.Verdict.TheVariants.{Permit}
use Rattle.st_filter.specs.Judging.{verdict}
use Rattle.st_filter.specs.Policies.{read_filters}
use Rattle.st_filter.specs.declared.set.BinaryPolicy.{BinaryPolicy}
use Rattle.st_law.specs.State.{State, snapshot_in}

-- the first filter of these policies that holds of the copies of a number permits its call under these ids
pub record IsPermittedBy (policies : List BinaryPolicy) (st : State) (q : ℕ) (ids : Ids) : Type 0 where
  pub copies : Snapshot
  pub there : snapshot_in st q ≡ Some copies
  pub filter : ℕ
  pub permitted : verdict (read_filters policies copies.policy copies.rule) copies ≡ Permit filter ids
