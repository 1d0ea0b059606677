-- Compiled expressions and filters.
use Rattle.std.specs.Prelude.{◌≡◌, ◌<◌, ◌≤◌, ◌+◌, ◌&&◌, ◌||◌, not, ℕ, Bool, true, false, List, [], length, get_or, slice_get, Some}
use Rattle.st_calls.specs.Call.{every_rule, index_of_rule}
use Rattle.st_calls.specs.declared.argument.ArgSpec.{ArgSpec}
use Rattle.st_calls.specs.declared.argument.ArgText.{ArgText}
use Rattle.st_calls.specs.declared.rule.Rule.{Rule}
use Rattle.st_filter.specs.Formula.{FilterValue, Formula}
use Rattle.st_filter.specs.Judging.{is_true}
use Rattle.st_filter.specs.Policies.{filters_of}
use Rattle.st_compile.specs.Arguments.{are_at_places}
use Rattle.st_compile.specs.Passing.{passes}
use Rattle.st_compile.specs.declared.expr.CompiledExpr.{CompiledExpr}
use Rattle.st_compile.specs.declared.expr.CompiledExpr.TheVariants as compiled

-- whether a compiled expression is true of arguments
abbrev pub is_true_at : CompiledExpr → List ArgText → Bool
is_true_at compiled.True args = true
is_true_at compiled.Never args = false
is_true_at (compiled.Test place shared op text) args = passes op shared text.now (slice_get args place)
is_true_at (compiled.Not' p e) args = not (is_true_at e args)
is_true_at (compiled.And' p e q f) args = is_true_at e args && is_true_at f args
is_true_at (compiled.Or' p e q f) args = is_true_at e args || is_true_at f args

-- a compiled expression is true of the same calls as a formula, if their arguments are those of the rule, in order
abbrev pub HasTruthOf : List ArgSpec → Formula → CompiledExpr → Type 0
HasTruthOf specs formula expr = (args : List ArgText) → are_at_places specs args ≡ true → is_true_at expr args ≡ is_true formula args

-- ---- the filters of a policy, by their rules

-- the place of a rule's list
abbrev pub place_of : List ℕ → Rule → ℕ
place_of places rule = get_or places (index_of_rule rule) 0

-- the list at the place of each rule has the rule's filters; the first list is empty, and no two rules have another one in common
pub record AreListed (filters : List FilterValue) (lists : List (List FilterValue)) (places : List ℕ) : Type 0 where
  pub listed : (rule : Rule) → slice_get lists (place_of places rule) ≡ Some (filters_of rule filters)
  pub none : slice_get lists 0 ≡ Some []
  pub apart : (rule other : Rule) → 0 < place_of places rule → place_of places rule ≡ place_of places other → rule ≡ other
  pub rules : length places ≡ length every_rule
  pub few : length lists ≤ length filters + 1
