-- What filters say of a call by the copies of its arguments.
use Rattle.std.specs.Prelude.{ℕ, suc, ◌==◌, ◌&&◌, ◌||◌, not, nat_eq, nat_lt, if◌then◌else◌, Bool, true, false, List, [], ◌∷◌, codes, Option, Some, None, unwrap_or}
use Rattle.std.specs.List.{list_any, starts_with}
use Rattle.std.specs.Str.{bytes_eq}
use Rattle.st_base.specs.declared.ids.Ids.{Ids}
use Rattle.st_calls.specs.declared.argument.ArgText.{ArgText}
use Rattle.st_calls.specs.declared.judged.Snapshot.{Snapshot}
use Rattle.st_calls.specs.declared.judged.Verdict.{Verdict}
use Rattle.st_calls.specs.declared.judged.Verdict.TheVariants as verdicts
use Rattle.st_calls.specs.Argument.{name_of_label}
use Rattle.st_glob.specs.Glob.{glob}
use Rattle.st_filter.specs.declared.filter.Action.{Action}
use Rattle.st_filter.specs.declared.filter.Action.TheVariants as action
use Rattle.st_filter.specs.declared.filter.Cmp.{Cmp}
use Rattle.st_filter.specs.declared.filter.Cmp.TheVariants as cmp
use Rattle.st_filter.specs.declared.filter.Grant.{Grant}
use Rattle.st_filter.specs.declared.filter.Op.{Op}
use Rattle.st_filter.specs.declared.filter.Op.TheVariants as op
use Rattle.st_filter.specs.declared.filter.Predicate.{Predicate}
use Rattle.st_filter.specs.declared.filter.Who.{Who}
use Rattle.st_filter.specs.declared.filter.Who.TheVariants as who
use Rattle.st_filter.specs.Formula.{Formula, True, Test, Not, And, Or, FilterValue}

-- whether a text occurs in an argument
abbrev pub stands_in : List ℕ → List ℕ → Bool
stands_in text [] = starts_with nat_eq [] text
stands_in text (b ∷ bs) = starts_with nat_eq (b ∷ bs) text || stands_in text bs

-- whether an argument is a prefix of a path, after which the path ends or goes on with a slash
abbrev pub is_path_prefix : List ℕ → List ℕ → Bool
is_path_prefix [] [] = true
is_path_prefix [] (b ∷ path) = b == 47
is_path_prefix (a ∷ argument) [] = false
is_path_prefix (a ∷ argument) (b ∷ path) = a == b && is_path_prefix argument path

-- whether an argument is a path, or a directory on the way to it, the root included
abbrev pub is_on_way : List ℕ → List ℕ → Bool
is_on_way argument path = is_path_prefix argument path || (bytes_eq argument (codes "/") && starts_with nat_eq path (codes "/"))

-- whether an argument and a text compare as the operator says
abbrev pub compares : Op → List ℕ → List ℕ → Bool
compares op.Match argument text = glob text argument
compares op.Eq argument text = bytes_eq argument text
compares op.Neq argument text = not (bytes_eq argument text)
compares op.Sub argument text = stands_in text argument
compares op.Nsub argument text = not (stands_in text argument)
compares op.Inpath argument text = is_on_way argument text

-- whether an argument has this label and index, and compares with a text as the operator says
abbrev pub test_holds_of : List ℕ → ℕ → Op → List ℕ → ArgText → Bool
test_holds_of label index op text arg = bytes_eq (name_of_label arg.label) label && arg.index == index && compares op arg.text text

-- whether an expression is true of arguments; a test of an argument that doesn't exist doesn't hold
abbrev pub is_true : Formula → List ArgText → Bool
is_true True args = true
is_true (Test label index op text) args = list_any (test_holds_of label index op text) args
is_true (Not f) args = not (is_true f args)
is_true (And f g) args = is_true f args && is_true g args
is_true (Or f g) args = is_true f args || is_true g args

-- the effective id that a predicate looks at
abbrev pub id_of : Who → Ids → ℕ
id_of who.User ids = ids.euid
id_of who.Group ids = ids.egid

-- whether an id compares with another as a predicate says
abbrev pub compares_ids : Cmp → ℕ → ℕ → Bool
compares_ids cmp.Same a b = a == b
compares_ids cmp.Other a b = not (a == b)
compares_ids cmp.Below a b = nat_lt a b
compares_ids cmp.Above a b = nat_lt b a

-- whether ids are as a predicate requires
abbrev pub ids_match : Option Predicate → Ids → Bool
ids_match None ids = true
ids_match (Some p) ids = compares_ids p.cmp (id_of p.who ids) p.id

-- whether a filter holds of a snapshot
abbrev pub holds : FilterValue → Snapshot → Bool
holds f s = is_true f.formula s.parts && ids_match f.predicate s.ids

-- the ids of a call under a grant: the effective ids that the grant names, and all other ids as they were
abbrev pub granted : Option Grant → Ids → Ids
granted None ids = ids
granted (Some g) ids = record { ruid = ids.ruid; euid = unwrap_or g.user ids.euid; rgid = ids.rgid; egid = unwrap_or g.group ids.egid }

-- what the filter with number n says; a filter that asks decides nothing
abbrev pub verdict_by : ℕ → Option Grant → Ids → Action → Verdict
verdict_by n grant ids action.Permit = verdicts.Permit n (granted grant ids)
verdict_by n grant ids (action.Deny errno) = verdicts.Refuse n errno
verdict_by n grant ids action.Ask = verdicts.Unmatched

-- the verdict of the first filter that holds, of filters numbered from n on
abbrev pub verdict_from : ℕ → List FilterValue → Snapshot → Verdict
verdict_from n [] s = verdicts.Unmatched
verdict_from n (f ∷ fs) s = if holds f s then verdict_by n f.grant s.ids f.action else verdict_from (suc n) fs s

-- the verdict of the filters of a rule, in order
abbrev pub verdict : List FilterValue → Snapshot → Verdict
verdict filters s = verdict_from 1 filters s
