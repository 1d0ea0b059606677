use Rattle.std.proofs.Common.{◌≡◌, drop}
use Rattle.st_compile.specs.Arguments.{are_at_places}
use Rattle.st_compile.proofs.argument.are_at_places.Given as goal

-- the arguments that are left are those that the rule has left exactly if all are
abbrev pub invariant-loop-spec : goal.invariant-loop-spec
invariant-loop-spec l = are_at_places (drop l.spec-index l.specs) l.left ≡ are_at_places l.specs l.arguments
