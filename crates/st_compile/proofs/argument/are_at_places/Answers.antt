use Rattle.std.proofs.Common.{◌∙◌, sym}
use Rattle.st_compile.proofs.Arguments.{too_few}
use Rattle.st_compile.proofs.argument.are_at_places.Goals as goal

pub returns-in-empty : goal.returns-in-empty
returns-in-empty c = sym (too_few c.args.specs.now c.loop-spec.left.now c.loop-spec.spec-index c.loop-spec-test.true c.in-empty.len_below) ∙ c.loop-spec.invariant
