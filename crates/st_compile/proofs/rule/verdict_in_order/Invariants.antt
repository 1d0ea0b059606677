use Rattle.std.proofs.Common.{◌≡◌, ◌+◌, drop}
use Rattle.st_filter.specs.Judging.{verdict_from}
use Rattle.st_compile.proofs.rule.verdict_in_order.Given as goal

-- the filters that are left give the verdict, by their numbers
abbrev pub invariant-loop-filter : goal.invariant-loop-filter
invariant-loop-filter l = record {
  number : l.number ≡ l.filter-index;
  same : verdict_from (l.number + 1) (drop l.filter-index l.filters) l.copies ≡ verdict_from 1 l.filters l.copies;
}
