-- The stack of pending operands as the code keeps it.
use Rattle.std.specs.Prelude.{box_value, List, [], ◌∷◌, map, reverse, Option, Some, None}
use Rattle.st_policy_states.specs.declared.stack.PendingOperand.{PendingOperand}
use Rattle.st_policy_states.specs.declared.stack.PendingOperand.TheVariants as kept
use Rattle.st_policy_states.specs.declared.stack.Takes.{Takes}
use Rattle.st_policy_states.specs.declared.stack.Takes.TheVariants.{Operand, Conjunction, Expression}
use Rattle.st_filter.specs.Formula.{Formula, formula}
use Rattle.st_filter.specs.Formula as formula
use Rattle.st_grammar.specs.Expression as spec

-- a pending operand of the code as its abstract value
abbrev pub pending_value : PendingOperand → spec.PendingOperand
pending_value kept.Negation = spec.Negation
pending_value kept.Group = spec.Group
pending_value (kept.Both e) = spec.Both (formula (box_value e))
pending_value (kept.Either e) = spec.Either (formula (box_value e))

-- the stack as its abstract value, the newest first
abbrev pub stack_of : List PendingOperand → List spec.PendingOperand
stack_of items = reverse (map pending_value items)

-- what a pending operand takes once it is complete: an operand, a conjunction or an expression
abbrev pub takes : spec.PendingOperand → Takes
takes spec.Negation = Operand
takes spec.Group = Expression
takes (spec.Both f) = Operand
takes (spec.Either f) = Conjunction

-- what the newest pending operand takes
abbrev pub newest : List spec.PendingOperand → Option Takes
newest [] = None
newest (p ∷ ps) = Some (takes p)

-- the formula of a pending operand with its right operand
abbrev pub with_right_operand : spec.PendingOperand → Formula → Formula
with_right_operand spec.Negation f = formula.Not f
with_right_operand spec.Group f = f
with_right_operand (spec.Both g) f = formula.And g f
with_right_operand (spec.Either g) f = formula.Or g f
