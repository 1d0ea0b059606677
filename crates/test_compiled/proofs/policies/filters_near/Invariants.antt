use Rattle.std.proofs.Common.{◌≤◌, length}
use Rattle.test_compiled.proofs.policies.filters_near.Given as goal

abbrev pub invariant-loop : goal.invariant-loop
invariant-loop l = length l.filters ≤ 80
