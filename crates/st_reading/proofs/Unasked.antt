-- Policies that are read while filters are learnt have no filter that asks.
use Rattle.std.proofs.Common.{◌≡◌, ◌≢◌, ◌∙◌, ℕ, true, false, List, [], ◌∷◌, sym, subst}
use Rattle.std.proofs.lemmas.List.Elements.{All-append, All-from_recursion}
use Rattle.std.specs.List.{All, AllByRecursion}
use Rattle.st_filter.specs.Formula.{FilterValue}
use Rattle.st_filter.specs.Policies.{with_filter}
use Rattle.st_filter.specs.declared.filter.Action.{Action}
use Rattle.st_filter.specs.declared.filter.Action.TheVariants as action
use Rattle.st_filter.specs.declared.set.BinaryPolicy.{BinaryPolicy}
use Rattle.st_base.proofs.Each.{each-append, each-parts}
use Rattle.st_grammar.specs.Grammar.{AreRows, NoRow, Blank, Header, FilterRow, IsAction, Permits, Denies, DeniesWith, Asks, Reads}
use Rattle.st_grammar.specs.Symbol.{Symbol}
use Rattle.st_grammar.specs.declared.env.Env.{Env}
use Rattle.st_learn.specs.Learnt.{NoneAsks}

abbrev DoesNotAsk : FilterValue → Type 0
DoesNotAsk f = f.action ≢ action.Ask

abbrev AsksNothing : BinaryPolicy → Type 0
AsksNothing p = All DoesNotAsk p.filters

does_not_ask : (env : Env) {ts : List Symbol} {a : Action} → env.learn ≡ true → IsAction env ts a → a ≢ action.Ask
does_not_ask env learns Permits = λ e. cc
does_not_ask env learns Denies = λ e. cc
does_not_ask env learns (DeniesWith named) = λ e. cc
does_not_ask env learns (Asks is) = λ e. let clash : true ≡ false = sym learns ∙ is in cc

rows_ask_nothing : (env : Env) {ts : List Symbol} {ps : List BinaryPolicy} → env.learn ≡ true → AreRows env ts ps → AllByRecursion AsksNothing ps
rows_ask_nothing env learns NoRow = tt
rows_ask_nothing env learns (Blank ts ps rows) = rows_ask_nothing env learns rows
rows_ask_nothing env learns (Header ts row ps binary rows is) =
    each-append AsksNothing ps (record { binary = binary; filters = [] } ∷ []) (rows_ask_nothing env learns rows) (All-from_recursion DoesNotAsk [] tt, tt)
rows_ask_nothing env learns (FilterRow ts row ps p f rows is) =
    let before : AllByRecursion AsksNothing ps × AllByRecursion AsksNothing (p ∷ []) = each-parts AsksNothing ps (p ∷ []) (rows_ask_nothing env learns rows) in
    let one : All DoesNotAsk (f ∷ []) = All-from_recursion DoesNotAsk (f ∷ []) (does_not_ask env learns is.action_is, tt) in
    each-append AsksNothing ps (with_filter p f ∷ []) before.0 (All-append DoesNotAsk p.filters (f ∷ []) before.1.0 one, tt)

-- policies that are read have no filter that asks, if those that were read before have none
pub read_asks_nothing : (text : List ℕ) (env : Env) (old set : List BinaryPolicy) → Reads text env old set → env.learn ≡ true → NoneAsks old → NoneAsks set
read_asks_nothing text env old set read learns before =
    let policies : NoneAsks read.policies = All-from_recursion AsksNothing read.policies (rows_ask_nothing env learns read.rows) in
    subst NoneAsks (sym read.set_is) (All-append AsksNothing old read.policies before policies)
