use Rattle.std.proofs.Common.{◌≡◌, [], drop}
use Rattle.st_script.specs.Reading.{processes_after}
use Rattle.st_script.proofs.bodies.processes_of.Given as goal

-- the lines that are left give the answer
abbrev pub invariant-loop-line : goal.invariant-loop-line
invariant-loop-line l = processes_after l.names (drop l.line-index l.lines) ≡ processes_after [] l.lines
