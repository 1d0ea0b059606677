use Rattle.std.proofs.Common.{◌≡◌, ◌≤◌, length}
use Rattle.st_filter.specs.declared.set.TheConstants.{MOST_FILTERS}
use Rattle.st_script_faults.specs.Faults.{first_fault, filters_after}
use Rattle.st_script_names.specs.declared.limits.TheConstants.{MOST_INSTRUCTIONS}
use Rattle.st_script_faults.proofs.faults.fault_among.Given as goal

-- the lines that are left give the answer, and what they are read as follows what was added
abbrev pub invariant-loop-line : goal.invariant-loop-line
invariant-loop-line l = record {
  rest : first_fault l.whole l.above l.rest ≡ first_fault l.whole l.initial.above l.lines;
  found : filters_after l.whole.env l.found l.rest ≡ filters_after l.whole.env l.initial.found l.lines;
  few : l.above.instructions ≤ MOST_INSTRUCTIONS;
  few_filters : l.above.filters ≤ MOST_FILTERS;
}

abbrev pub decreases-loop-line : goal.decreases-loop-line
decreases-loop-line l = length l.rest
