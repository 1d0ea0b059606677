use Rattle.std.proofs.Common.{◌≡◌, [], drop}
use Rattle.st_script_faults.specs.Faults.{threads_after}
use Rattle.st_script_faults.proofs.faults.threads_of.Given as goal

-- the lines that are left give the answer
abbrev pub invariant-loop-line : goal.invariant-loop-line
invariant-loop-line l = threads_after l.names (drop l.line-index l.lines) ≡ threads_after [] l.lines
