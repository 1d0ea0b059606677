use Rattle.std.proofs.Common.{◌≡◌, ◌++◌, length}
use Rattle.st_script.specs.Reading.{threads_in}
use Rattle.st_script.proofs.bodies.threads_among.Given as goal

-- the threads so far, and those of the rest, are those of all lines
abbrev pub invariant-loop-line : goal.invariant-loop-line
invariant-loop-line l = l.rows ++ threads_in l.processes l.names l.rest ≡ threads_in l.processes l.names l.lines

abbrev pub decreases-loop-line : goal.decreases-loop-line
decreases-loop-line l = length l.rest
