use Rattle.std.proofs.Common.{◌≡◌, drop}
use Rattle.std.specs.Prelude.{slice_get}
use Rattle.st_filter.specs.Policies.{filters_of}
use Rattle.st_filter.proofs.answer.first_answer.Given as goal

-- the first of the remaining filters for the rule is the first of all
abbrev pub invariant-loop-filter : goal.invariant-loop-filter
invariant-loop-filter l = slice_get (filters_of l.rule (drop l.filter-index l.filter-items)) 0 ≡ slice_get (filters_of l.rule l.policy) 0
