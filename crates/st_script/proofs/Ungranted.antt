-- Policies that are read grant no ids to a call that sets ids.
use Rattle.std.proofs.Common.{◌≡◌, ◌∙◌, ℕ, Bool, true, false, List, [], ◌∷◌, Option, None, refl, sym, subst}
use Rattle.std.proofs.lemmas.List.Elements.{All-append, All-from_recursion}
use Rattle.std.specs.List.{All, AllByRecursion}
use Rattle.st_filter.specs.Formula.{FilterValue}
use Rattle.st_filter.specs.Policies.{names_set_id_call, with_filter}
use Rattle.st_filter.specs.declared.filter.Action.{Action}
use Rattle.st_filter.specs.declared.filter.Action.TheVariants as action
use Rattle.st_filter.specs.declared.filter.FilterName.{FilterName}
use Rattle.st_filter.specs.declared.filter.Grant.{Grant}
use Rattle.st_filter.specs.declared.set.BinaryPolicy.{BinaryPolicy}
use Rattle.st_base.proofs.Each.{each-append, each-parts}
use Rattle.st_grammar.specs.Grammar.{AreRows, NoRow, Blank, Header, FilterRow, IsFilter, IsTail, Plain, Logs, Grants, GrantsAndLogs, LogsAndGrants, MayGrant, Reads}
use Rattle.st_grammar.specs.Symbol.{Symbol}
use Rattle.st_grammar.specs.declared.env.Env.{Env}
use Rattle.st_reached.specs.Grants.{IsUngrantedForSetting, SetIdsUngranted}

-- ---- filters

may_not : (env : Env) (n : FilterName) (a : Action) → MayGrant env n a → names_set_id_call n ≡ true → ⊥
may_not env n action.Permit may is = let clash : true ≡ false = sym is ∙ may.1 in cc
may_not env n (action.Deny errno) may is = may
may_not env n action.Ask may is = may

ungranted : (env : Env) (n : FilterName) (a : Action) {ts : List Symbol} {grant : Option Grant} {log : Bool} → IsTail env n a ts grant log → names_set_id_call n ≡ true → grant ≡ None
ungranted env n a Plain is = refl
ungranted env n a Logs is = refl
ungranted env n a (Grants may spelled) is = absurd (may_not env n a may is)
ungranted env n a (GrantsAndLogs may spelled) is = absurd (may_not env n a may is)
ungranted env n a (LogsAndGrants may spelled) is = absurd (may_not env n a may is)

pub filter_ungranted : (env : Env) (row : List Symbol) (f : FilterValue) → IsFilter env row f → IsUngrantedForSetting f
filter_ungranted env row f filter is = ungranted env f.name f.action filter.tail_is is

-- ---- policies

abbrev pub IsUngrantedPolicy : BinaryPolicy → Type 0
IsUngrantedPolicy policy = All IsUngrantedForSetting policy.filters

rows_ungranted : (env : Env) {ts : List Symbol} {ps : List BinaryPolicy} → AreRows env ts ps → AllByRecursion IsUngrantedPolicy ps
rows_ungranted env NoRow = tt
rows_ungranted env (Blank ts ps rows) = rows_ungranted env rows
rows_ungranted env (Header ts row ps binary rows is) =
    each-append IsUngrantedPolicy ps (record { binary = binary; filters = [] } ∷ []) (rows_ungranted env rows) (All-from_recursion IsUngrantedForSetting [] tt, tt)
rows_ungranted env (FilterRow ts row ps p f rows is) =
    let before : AllByRecursion IsUngrantedPolicy ps × AllByRecursion IsUngrantedPolicy (p ∷ []) = each-parts IsUngrantedPolicy ps (p ∷ []) (rows_ungranted env rows) in
    let one : All IsUngrantedForSetting (f ∷ []) = All-from_recursion IsUngrantedForSetting (f ∷ []) (filter_ungranted env row f is, tt) in
    each-append IsUngrantedPolicy ps (with_filter p f ∷ []) before.0 (All-append IsUngrantedForSetting p.filters (f ∷ []) before.1.0 one, tt)

-- policies that are read grant no ids for setting ids, if those that were read before grant none
pub read_ungranted : (text : List ℕ) (env : Env) (old set : List BinaryPolicy) → Reads text env old set → SetIdsUngranted old → SetIdsUngranted set
read_ungranted text env old set read before =
    let policies : All IsUngrantedPolicy read.policies = All-from_recursion IsUngrantedPolicy read.policies (rows_ungranted env read.rows) in
    subst SetIdsUngranted (sym read.set_is) (All-append IsUngrantedPolicy old read.policies before policies)
