-- Held calls with the verdict of the policies of a run.
use Rattle.st_calls.specs.declared.judged.Snapshot.{Snapshot}
use Rattle.st_calls.specs.declared.judged.Verdict.{Verdict}
use Rattle.st_filter.specs.Judging.{verdict}
use Rattle.st_filter.specs.Policies.{PoliciesValue, filters_in_force}

-- what policies say of a call: the verdict of the filters that are in force for its policy and rule at its version
abbrev pub verdict_under : PoliciesValue → Snapshot → Verdict
verdict_under policies s = verdict (filters_in_force policies s.policy s.version s.rule) s

-- a call with its verdict, and the policies that it was judged by
pub record JudgedCall : Type 0 where
  pub policies : PoliciesValue
  pub snapshot : Snapshot
  pub verdict : Verdict
