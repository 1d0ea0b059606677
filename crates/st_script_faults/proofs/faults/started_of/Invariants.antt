use Rattle.std.proofs.Common.{◌≡◌, [], drop}
use Rattle.st_script_faults.specs.Faults.{started_after}
use Rattle.st_script_faults.proofs.faults.started_of.Given as goal

-- the lines that are left give the answer
abbrev pub invariant-loop-line : goal.invariant-loop-line
invariant-loop-line l = started_after l.names (drop l.line-index l.lines) ≡ started_after [] l.lines
