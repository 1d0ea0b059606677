use Rattle.std.proofs.Common.{◌≡◌, ◌+◌, ◌≤◌, drop}
use Rattle.st_filter.specs.Judging.{verdict_from}
use Rattle.st_filter.specs.Policies.{filters_of}
use Rattle.st_filter.proofs.judging.decide.Given as goal

-- the remaining filters give the verdict, by their numbers
abbrev pub invariant-loop-filter : goal.invariant-loop-filter
invariant-loop-filter l =
    (verdict_from (l.number + 1) (filters_of l.copies.rule (drop l.filter-index l.filter-items)) l.copies ≡ verdict_from 1 (filters_of l.copies.rule l.policy) l.copies) × (l.number ≤ l.filter-index)
