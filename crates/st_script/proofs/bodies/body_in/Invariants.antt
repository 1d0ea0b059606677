use Rattle.std.proofs.Common.{◌≡◌, ◌++◌, drop}
use Rattle.st_script.specs.Reading.{body_in}
use Rattle.st_script.proofs.bodies.body_in.Given as goal

-- the instructions so far, and those of the rest, are those of the body
abbrev pub invariant-loop-line : goal.invariant-loop-line
invariant-loop-line l = l.body ++ body_in l.names (drop l.line-index l.lines) ≡ body_in l.names l.lines
