-- Equality of rules.
use Rattle.std.specs.Prelude.{Bool}
use Rattle.st_calls.specs.declared.rule.Rule.{Rule}
use Rattle.st_calls.specs.contracts.rule.RulePartialEq.TheImpl as rules

-- whether two rules are equal, as `==` decides
abbrev pub same_rule : Rule → Rule → Bool
same_rule = (rules.ghosts).eq
