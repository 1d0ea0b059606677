use Rattle.std.proofs.Common.{◌≡◌, [], drop}
use Rattle.st_script.specs.Reading.{policy_names_after}
use Rattle.st_script.proofs.bodies.policies_of.Given as goal

-- the lines that are left give the answer
abbrev pub invariant-loop-line : goal.invariant-loop-line
invariant-loop-line l = policy_names_after l.names (drop l.line-index l.lines) ≡ policy_names_after [] l.lines
