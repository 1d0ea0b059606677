use Rattle.std.proofs.Common.{◌≡◌, drop}
use Rattle.st_script_names.specs.Environment.{first_traced}
use Rattle.st_script_names.proofs.environment.first_traced.Given as goal

-- the lines that are left give the answer
abbrev pub invariant-loop-line : goal.invariant-loop-line
invariant-loop-line l = first_traced l.known (drop l.line-index l.lines) ≡ first_traced l.initial.known l.lines
