-- Filters and their expressions as plain data, the way contracts see them.
use Rattle.std.specs.Prelude.{ℕ, Bool, List, Option}
use Rattle.st_filter.specs.declared.filter.FilterName.{FilterName}
use Rattle.st_filter.specs.declared.filter.Action.{Action}
use Rattle.st_filter.specs.declared.filter.Grant.{Grant}
use Rattle.st_filter.specs.declared.filter.Predicate.{Predicate}
use Rattle.st_filter.specs.declared.filter.Op.{Op}
use Rattle.st_filter.specs.declared.filter.Expr.{Expr}
use Rattle.st_filter.specs.declared.filter.Expr.TheVariants as expr

-- an expression as contracts see it, without the addresses of its parts in memory
pub data Formula : Type 0 where
  True : Formula
  -- the argument with this label and index compares with this text as the operator says
  Test : List ℕ → ℕ → Op → List ℕ → Formula
  Not : Formula → Formula
  And : Formula → Formula → Formula
  Or : Formula → Formula → Formula

-- the formula of an expression
abbrev pub formula : Expr → Formula
formula expr.True = True
formula (expr.Test label index op text) = Test label index op text
formula (expr.Not' p e) = Not (formula e)
formula (expr.And' p e q f) = And (formula e) (formula f)
formula (expr.Or' p e q f) = Or (formula e) (formula f)

-- the levels of an expression's text: operands bind closest, then what `and` joins, then what `or` joins
pub data Level : Type 0 where
  Operand : Level
  Conjunction : Level
  Disjunction : Level

-- a filter as contracts see it, without the addresses of its parts in memory
pub record FilterValue : Type 0 where
  pub name : FilterName
  pub formula : Formula
  pub action : Action
  pub grant : Option Grant
  pub log : Bool
  pub predicate : Option Predicate
