-- The kernel's own answers, by the first filter of a rule.
use Rattle.std.specs.Prelude.{Bool, false, Option, None, option_map, List, [], ◌∷◌, slice_get}
use Rattle.st_calls.specs.declared.rule.FastAnswer.{FastAnswer}
use Rattle.st_calls.specs.declared.rule.FastAnswer.TheVariants as answer
use Rattle.st_filter.specs.declared.filter.Action.{Action}
use Rattle.st_filter.specs.declared.filter.Action.TheVariants.{Permit, Deny}
use Rattle.st_filter.specs.declared.filter.Grant.{Grant}
use Rattle.st_filter.specs.declared.filter.Predicate.{Predicate}
use Rattle.st_filter.specs.Formula.{Formula, True, FilterValue}

-- a plain permit without `as`, `log` and `if` permits; a plain deny without `log` and `if` refuses
abbrev pub answer_by : Formula → Action → Option Grant → Bool → Option Predicate → FastAnswer
answer_by True Permit None false None = answer.Permit
answer_by True (Deny errno) grant false None = answer.Refuse errno
answer_by formula action grant log predicate = answer.Ask

-- the kernel's own answer under a first filter
abbrev pub fast_answer : FilterValue → FastAnswer
fast_answer f = answer_by f.formula f.action f.grant f.log f.predicate

-- the answer by the first of these filters of one rule; none if there are no filters
abbrev pub first_answer : List FilterValue → Option FastAnswer
first_answer fs = option_map fast_answer (slice_get fs 0)

-- the kernel's own answer under these filters of one rule
abbrev pub fast : List FilterValue → FastAnswer
fast [] = answer.Ask
fast (f ∷ fs) = fast_answer f
