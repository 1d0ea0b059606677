-- An expression as it is read, operand by operand.
use Rattle.std.specs.Prelude.{List, ◌∷◌}
use Rattle.st_filter.specs.Formula.{Formula, True}
use Rattle.st_filter.specs.Formula as formula

-- an operator that waits for its right operand, or a parenthesis that isn't closed yet
pub data PendingOperand : Type 0 where
  Negation : PendingOperand
  Group : PendingOperand
  -- a left operand and `and`, or a left operand and `or`
  Both : Formula → PendingOperand
  Either : Formula → PendingOperand

-- an expression that is being read: the pending operands, the newest first, and the operand that was read last
pub record Reduced : Type 0 where
  pub pending : List PendingOperand
  pub formula : Formula

-- the expression with these pending operands and this last operand
abbrev pub reduced : List PendingOperand → Formula → Reduced
reduced pending f = record { pending = pending; formula = f }

-- an operand is complete: each pending `not` and `and` before it takes it
abbrev pub settle : List PendingOperand → Formula → Reduced
settle (Negation ∷ pending) f = settle pending (formula.Not f)
settle (Both g ∷ pending) f = settle pending (formula.And g f)
settle pending f = reduced pending f

-- a conjunction is complete: a pending `or` takes it
abbrev pub close_either : List PendingOperand → Formula → Reduced
close_either (Either g ∷ pending) f = reduced pending (formula.Or g f)
close_either pending f = reduced pending f

-- the pending operands without the parenthesis that is closed
abbrev pub without_group : List PendingOperand → List PendingOperand
without_group (Group ∷ pending) = pending
without_group pending = pending

-- a parenthesis is closed, and the expression in it is a complete operand
abbrev pub close_group : Reduced → Reduced
close_group e = settle (without_group e.pending) e.formula

-- adds this pending operand
abbrev pub with_pending : PendingOperand → Reduced → Reduced
with_pending p e = reduced (p ∷ e.pending) e.formula

-- this operand is complete
abbrev pub with_operand : Formula → Reduced → Reduced
with_operand f e = settle e.pending f

-- the conjunction at the end is complete
abbrev pub without_either : Reduced → Reduced
without_either e = close_either e.pending e.formula

-- `and` makes what was read a pending operand, whose right operand is still to be read
abbrev pub joins_both : Reduced → Reduced
joins_both e = reduced (Both e.formula ∷ e.pending) True

-- `or` makes what was read a pending operand, whose right operand is still to be read
abbrev pub joins_either : Reduced → Reduced
joins_either e = reduced (Either e.formula ∷ e.pending) True
