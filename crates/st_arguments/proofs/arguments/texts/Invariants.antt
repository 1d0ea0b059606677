use Rattle.st_arguments.specs.Parts.{surroundings}
use Rattle.st_arguments.proofs.InOrder.{HasCome}
use Rattle.st_arguments.proofs.arguments.texts.Given as goal

abbrev pub invariant-loop-spec : goal.invariant-loop-spec
invariant-loop-spec l = HasCome l.asked (surroundings l.tree l.spaces l.space) l.spec-index l.args
