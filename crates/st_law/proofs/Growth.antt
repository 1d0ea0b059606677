-- The session's filters for a policy and a rule, as the session grows.
use Rattle.std.proofs.Common.{◌≡◌, ℕ, List, ◌++◌, map, ap, ◌∙◌}
use Rattle.std.specs.Prelude.{filter}
use Rattle.std.proofs.lemmas.List.{map-append}
use Rattle.std.proofs.lemmas.List.Elements.{filter-append}
use Rattle.st_calls.specs.declared.rule.Rule.{Rule}
use Rattle.st_law.specs.Sessions.{SessionFilter, is_kept_for, session_filters}

-- a session that grows at its end grows at its end for each policy and rule
pub session_append : (session more : List SessionFilter) (policy : List ℕ) (rule : Rule) → session_filters (session ++ more) policy rule ≡ session_filters session policy rule ++ session_filters more policy rule
session_append session more policy rule = ap (map (λ kept. kept.filter)) (filter-append (is_kept_for policy rule) session more) ∙ map-append (λ kept. kept.filter) (filter (is_kept_for policy rule) session) (filter (is_kept_for policy rule) more)
