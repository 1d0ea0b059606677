use Rattle.std.proofs.Common.{◌≡◌, length}
use Rattle.st_filter.specs.Formula.{formula}
use Rattle.st_grammar.specs.Expression.{settle}
use Rattle.st_policy_states.proofs.stack.Stack.bind.Given as goal

abbrev pub invariant-loop-self : goal.invariant-loop-self
invariant-loop-self l = settle l.self (formula l.operand) ≡ settle l.initial.self (formula l.initial.operand)

abbrev pub decreases-loop-self : goal.decreases-loop-self
decreases-loop-self l = length l.self
