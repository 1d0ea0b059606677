-- A filter that doesn't ask is read as the same filter whether filters are learnt or not.
use Rattle.std.proofs.Common.{◌≡◌, ◌≢◌, ◌∙◌, ℕ, Bool, true, List, Option, Some, None, Ok, Err, refl, ap, sym, subst}
use Rattle.std.proofs.lemmas.Option.{same_Some}
use Rattle.st_emulation.specs.declared.emulation.Emulation.{Emulation}
use Rattle.st_filter.specs.Formula.{Formula, FilterValue, Level}
use Rattle.st_filter.specs.declared.filter.Action.{Action}
use Rattle.st_filter.specs.declared.filter.Action.TheVariants.{Permit, Deny, Ask}
use Rattle.st_filter.specs.declared.filter.FilterName.{FilterName}
use Rattle.st_filter.specs.declared.filter.Grant.{Grant}
use Rattle.st_filter.specs.declared.filter.Predicate.{Predicate}
use Rattle.st_filter.specs.declared.filter.Who.{Who}
use Rattle.st_filter.specs.declared.filter.Who.TheVariants.{User, Group}
use Rattle.st_lex.specs.declared.unquoted.Dollars.{Dollars}
use Rattle.st_grammar.specs.Grammar.{Always, Asks, Both, Denies, DeniesWith, Either, First, Grants, GrantsAndLogs, Grouped, If, Indexed, IsAction, IsCondition, IsFilter, IsGrant, IsPredicate, IsTail, Logs, LogsAndGrants, MayGrant, Negated, OfBoth, OfGroup, OfUser, OneConjunction, OneOperand, Permits, Plain, Short, Spells, Then, Whoever}
use Rattle.st_grammar.specs.OneFilter.{FilterResult, ReadsFilter, filter_in}
use Rattle.st_grammar.specs.Symbol.{Symbol}
use Rattle.st_grammar.specs.Words.{id_in, names_for}
use Rattle.st_grammar.specs.declared.env.Env.{Env}
use Rattle.st_grammar.specs.declared.env.NamedId.{NamedId}
use Rattle.st_script_faults.specs.Faults.{reply_filter, unless_ask}

-- ---- the laws that this proof uses

abbrev pub IsSound : Type 0
IsSound = (text : List ℕ) (env : Env) (f : FilterValue) → filter_in text env ≡ Ok f → ReadsFilter text env f

abbrev pub IsComplete : Type 0
IsComplete = (text : List ℕ) (env : Env) (f : FilterValue) → ReadsFilter text env f → filter_in text env ≡ Ok f

-- ---- answers that don't ask

kept_filter : (g f : FilterValue) (action : Action) → unless_ask g action ≡ Some f → (g ≡ f) × (action ≢ Ask)
kept_filter g f Permit is = (same_Some g f is, λ asks. cc)
kept_filter g f (Deny errno) is = (same_Some g f is, λ asks. cc)
kept_filter g f Ask is = absurd (cc)

filter_kept : (f : FilterValue) (action : Action) → action ≢ Ask → unless_ask f action ≡ Some f
filter_kept f Permit unasked = refl
filter_kept f (Deny errno) unasked = refl
filter_kept f Ask unasked = absurd (unasked refl)

-- two options that have the same values are equal
one_option : {A : Type 0} (o p : Option A) → ((x : A) → o ≡ Some x → p ≡ Some x) → ((x : A) → p ≡ Some x → o ≡ Some x) → o ≡ p
one_option (Some x) p there back = sym (there x refl)
one_option None (Some x) there back = back x refl
one_option None None there back = refl

module _ (users groups : List NamedId) (dollars : Dollars) (elevate : Bool) (emulation : Emulation) where
  -- the environment of filters, whether they are learnt or not
  abbrev pub env_with : Bool → Env
  env_with learn = record { users = users; groups = groups; dollars = dollars; elevate = elevate; learn = learn; emulation = emulation }

  module _ (a b : Bool) where
    expression_so : {name : FilterName} {level : Level} {ts : List Symbol} {f : Formula} → Spells (env_with a) name level ts f → Spells (env_with b) name level ts f
    expression_so Always = Always
    expression_so (First is may named) = First is may named
    expression_so (Indexed is index may named) = Indexed is index may named
    expression_so (Negated s) = Negated (expression_so s)
    expression_so (Grouped s) = Grouped (expression_so s)
    expression_so (OneOperand s) = OneOperand (expression_so s)
    expression_so (Both s t) = Both (expression_so s) (expression_so t)
    expression_so (OneConjunction s) = OneConjunction (expression_so s)
    expression_so (Either s t) = Either (expression_so s) (expression_so t)

    condition_so : {name : FilterName} {ts : List Symbol} {f : Formula} → IsCondition (env_with a) name ts f → IsCondition (env_with b) name ts f
    condition_so Short = Short
    condition_so (Then s few) = Then (expression_so s) few

    action_so : {ts : List Symbol} {action : Action} → IsAction (env_with a) ts action → action ≢ Ask → IsAction (env_with b) ts action
    action_so Permits unasked = Permits
    action_so Denies unasked = Denies
    action_so (DeniesWith named) unasked = DeniesWith named
    action_so (Asks is) unasked = absurd (unasked refl)

    grant_so : {ts : List Symbol} {g : Grant} → IsGrant (env_with a) ts g → IsGrant (env_with b) ts g
    grant_so (OfUser user) = OfUser user
    grant_so (OfBoth user group) = OfBoth user group
    grant_so (OfGroup group) = OfGroup group

    may_so : (name : FilterName) (action : Action) → MayGrant (env_with a) name action → MayGrant (env_with b) name action
    may_so name Permit may = may
    may_so name (Deny errno) may = absurd may
    may_so name Ask may = absurd may

    tail_so : (name : FilterName) (action : Action) {ts : List Symbol} {g : Option Grant} {log : Bool} → IsTail (env_with a) name action ts g log → IsTail (env_with b) name action ts g log
    tail_so name action Plain = Plain
    tail_so name action Logs = Logs
    tail_so name action (Grants may g) = Grants (may_so name action may) (grant_so g)
    tail_so name action (GrantsAndLogs may g) = GrantsAndLogs (may_so name action may) (grant_so g)
    tail_so name action (LogsAndGrants may g) = LogsAndGrants (may_so name action may) (grant_so g)

    same_names : (who : Who) → names_for (env_with a) who ≡ names_for (env_with b) who
    same_names User = refl
    same_names Group = refl

    predicate_so : {ts : List Symbol} {p : Option Predicate} → IsPredicate (env_with a) ts p → IsPredicate (env_with b) ts p
    predicate_so Whoever = Whoever
    predicate_so (If {w} {id} {s} {who} {c} {n} named compared is) = If named compared (subst (λ (rows : List NamedId). id_in rows id ≡ Some n) (same_names who) is)

    filter_so : (row : List Symbol) (f : FilterValue) → f.action ≢ Ask → IsFilter (env_with a) row f → IsFilter (env_with b) row f
    filter_so row f unasked is = record {
      spelled = is.spelled;
      condition = is.condition;
      action = is.action;
      tail = is.tail;
      predicate = is.predicate;
      parts = is.parts;
      name_is = is.name_is;
      condition_is = condition_so is.condition_is;
      action_is = action_so is.action_is unasked;
      tail_is = tail_so f.name f.action is.tail_is;
      predicate_is = predicate_so is.predicate_is;
    }

    text_so : (text : List ℕ) (f : FilterValue) → f.action ≢ Ask → ReadsFilter text (env_with a) f → ReadsFilter text (env_with b) f
    text_so text f unasked reads = record { whole = reads.whole; row = reads.row; one_row = reads.one_row; is = filter_so reads.row f unasked reads.is }

    module _ (sound : IsSound) (complete : IsComplete) (text : List ℕ) where
      answer_so : (x : FilterResult) (f : FilterValue) → filter_in text (env_with a) ≡ x → reply_filter x ≡ Some f → reply_filter (filter_in text (env_with b)) ≡ Some f
      answer_so (Err fault) f is said = absurd (cc)
      answer_so (Ok g) f is said =
          let kept = kept_filter g f g.action said in
          let read : filter_in text (env_with b) ≡ Ok g = complete text (env_with b) g (text_so text g kept.1 (sound text (env_with a) g is)) in
          ap reply_filter read ∙ (filter_kept g g.action kept.1 ∙ ap Some kept.0)

  -- a filter doesn't ask if it is read while filters are learnt
  learnt_action : {ts : List Symbol} {action : Action} → IsAction (env_with true) ts action → action ≢ Ask
  learnt_action Permits = λ asks. cc
  learnt_action Denies = λ asks. cc
  learnt_action (DeniesWith named) = λ asks. cc
  learnt_action (Asks is) = absurd (cc)

  -- so it is read while they aren't learnt, too
  pub learnt_read : IsSound → IsComplete → (b : Bool) (text : List ℕ) (f : FilterValue) → filter_in text (env_with true) ≡ Ok f → filter_in text (env_with b) ≡ Ok f
  learnt_read sound complete b text f is =
      let reads : ReadsFilter text (env_with true) f = sound text (env_with true) f is in
      complete text (env_with b) f (text_so true b text f (learnt_action reads.is.action_is) reads)

  -- the answer of a text doesn't depend on whether filters are learnt
  pub same_answer : IsSound → IsComplete → (a b : Bool) (text : List ℕ) → reply_filter (filter_in text (env_with a)) ≡ reply_filter (filter_in text (env_with b))
  same_answer sound complete a b text =
      one_option (reply_filter (filter_in text (env_with a))) (reply_filter (filter_in text (env_with b)))
      (λ f is. answer_so a b sound complete text (filter_in text (env_with a)) f refl is) (λ f is. answer_so b a sound complete text (filter_in text (env_with b)) f refl is)
