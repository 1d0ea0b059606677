use Rattle.std.proofs.Common.{◌≡◌, ◌≤◌, [], take, length}
use Rattle.st_filter.specs.PolicyEntries.{represented_policies}
use Rattle.st_filter.specs.Policies.{filters_in}
use Rattle.st_filter.specs.declared.set.TheConstants.{MOST_FILTERS}
use Rattle.st_filter.proofs.set.PolicySet.truncate.Given as goal

abbrev pub invariant-loop-self : goal.invariant-loop-self
invariant-loop-self l = record {
  none : l.self-inside.empty ≡ [];
  counted : l.self-inside.filters ≡ filters_in (represented_policies l.self-inside.policies.entries);
  few : l.self-inside.filters ≤ MOST_FILTERS;
  kept : take l.len (represented_policies l.self-inside.policies.entries) ≡ take l.len (represented_policies l.initial.self-inside.policies.entries);
}

abbrev pub decreases-loop-self : goal.decreases-loop-self
decreases-loop-self l = length l.self-inside.policies.entries
