-- A complete operand and the pending operands that take it.
use Rattle.std.proofs.Common.{◌≡◌, ◌≢◌, List, [], ◌∷◌, ◌++◌, map, Some, refl, ap, ◌∙◌}
use Rattle.std.specs.Prelude.{reverse}
use Rattle.std.proofs.lemmas.List.{map-append, reverse-append}
use Rattle.st_policy_states.specs.declared.stack.PendingOperand as kept
use Rattle.st_filter.specs.Formula.{Formula}
use Rattle.st_grammar.specs.Expression.{PendingOperand, Negation, Group, Both, Either, reduced, settle, close_either, without_group}
use Rattle.st_policy_states.specs.Stack.{pending_value, stack_of, takes, newest, with_right_operand}
use Rattle.st_policy_states.specs.declared.stack.Takes.TheVariants.{Operand, Conjunction, Expression}

pub stacked_push : (items : List kept.PendingOperand) (p : kept.PendingOperand) → stack_of (items ++ p ∷ []) ≡ pending_value p ∷ stack_of items
stacked_push items p = ap reverse (map-append pending_value items (p ∷ [])) ∙ reverse-append (map pending_value items) (pending_value p ∷ [])

pub settle_binds : (p : PendingOperand) (ps : List PendingOperand) (f : Formula) → takes p ≡ Operand → settle (p ∷ ps) f ≡ settle ps (with_right_operand p f)
settle_binds Negation ps f h = refl
settle_binds (Both g) ps f h = refl
settle_binds _ ps f h = cc

pub settle_stops : (ps : List PendingOperand) (f : Formula) → newest ps ≢ Some Operand → settle ps f ≡ reduced ps f
settle_stops [] f h = refl
settle_stops (Group ∷ ps) f h = refl
settle_stops (Either g ∷ ps) f h = refl
settle_stops (_ ∷ ps) f h = absurd (h refl)

pub close_either_joins : (p : PendingOperand) (ps : List PendingOperand) (f : Formula) → takes p ≡ Conjunction → close_either (p ∷ ps) f ≡ reduced ps (with_right_operand p f)
close_either_joins (Either g) ps f h = refl
close_either_joins _ ps f h = cc

pub close_either_stops : (ps : List PendingOperand) (f : Formula) → newest ps ≢ Some Conjunction → close_either ps f ≡ reduced ps f
close_either_stops (Either g ∷ ps) f h = absurd (h refl)
close_either_stops _ f h = refl

pub without_group_first : (p : PendingOperand) (ps : List PendingOperand) → takes p ≡ Expression → without_group (p ∷ ps) ≡ ps
without_group_first Group ps h = refl
without_group_first _ ps h = cc

pub without_group_none : (ps : List PendingOperand) → newest ps ≢ Some Expression → without_group ps ≡ ps
without_group_none (Group ∷ ps) h = absurd (h refl)
without_group_none _ h = refl
