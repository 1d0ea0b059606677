-- What a session adds to the policies that were read: learnt filters, and replies of the operator.
use Rattle.std.specs.Prelude.{ℕ, zero, suc, Bool, false, ◌&&◌, ◌||◌, ◌==◌, if◌then◌else◌, List, [], ◌∷◌, ◌++◌, map, filter, length, Option, Some, None}
use Rattle.std.specs.List.{fold}
use Rattle.std.specs.Str.{bytes_eq}
use Rattle.st_base.specs.Numbered.{item_at_number}
use Rattle.st_calls.specs.Argument.{name_of_label}
use Rattle.st_calls.specs.Rules.{same_rule}
use Rattle.st_calls.specs.declared.argument.ArgText.{ArgText}
use Rattle.st_calls.specs.declared.judged.Snapshot.{Snapshot}
use Rattle.st_calls.specs.declared.judged.Verdict.{Verdict}
use Rattle.st_calls.specs.declared.judged.Verdict.TheVariants.{Permit, Refuse, Unmatched}
use Rattle.st_calls.specs.declared.rule.Rule.{Rule}
use Rattle.st_filter.specs.Formula.{Formula, True, Test, And, FilterValue}
use Rattle.st_filter.specs.Judging.{verdict, verdict_from}
use Rattle.st_filter.specs.Policies.{is_for, with_binary}
use Rattle.st_filter.specs.declared.filter.Action.TheVariants as action
use Rattle.st_filter.specs.declared.filter.FilterName.TheVariants as name
use Rattle.st_filter.specs.declared.filter.Op.TheVariants.{Eq}
use Rattle.st_filter.specs.declared.set.Reply.{Reply}
use Rattle.st_trace.specs.declared.entry.Entry.{Entry}
use Rattle.st_trace.specs.declared.entry.Entry.TheVariants.{Learned, Replied}

-- a filter of the session, with its policy and rule
pub record SessionFilter : Type 0 where
  pub policy : List ℕ
  pub rule : Rule
  pub filter : FilterValue

-- whether a filter of the session is for this policy and rule
abbrev pub is_kept_for : List ℕ → Rule → SessionFilter → Bool
is_kept_for policy rule kept = bytes_eq kept.policy policy && same_rule kept.rule rule

-- the session's filters for a policy and a rule, in order
abbrev pub session_filters : List SessionFilter → List ℕ → Rule → List FilterValue
session_filters session policy rule = map (λ kept. kept.filter) (filter (is_kept_for policy rule) session)

-- ---- what is learnt

-- the test that an argument has exactly this text
abbrev pub test_of : ArgText → Formula
test_of arg = Test (name_of_label arg.label) arg.index Eq arg.text

-- the formula that all arguments have exactly these texts
abbrev pub learnt_formula : List ArgText → Formula
learnt_formula [] = True
learnt_formula (arg ∷ args) = fold (λ formula other. And formula (test_of other)) (test_of arg) args

-- the filter that permits calls with exactly these copies
abbrev pub learnt_filter : Snapshot → FilterValue
learnt_filter s = record {
  name = name.Rule s.rule;
  formula = learnt_formula s.parts;
  action = action.Permit;
  grant = None;
  log = false;
  predicate = None;
}

-- the session's filter for the policy and rule of these copies
abbrev pub kept_for : FilterValue → Snapshot → SessionFilter
kept_for given s = record { policy = s.policy; rule = s.rule; filter = given }

-- what is added to the session when a question with these copies is learnt
abbrev pub learnt_by : Option Snapshot → List SessionFilter
learnt_by None = []
learnt_by (Some s) = kept_for (learnt_filter s) s ∷ []

-- what is added to the session when this reply is given to a question with these copies
abbrev pub replied_by : Option Reply → Option Snapshot → List SessionFilter
replied_by (Some reply) (Some s) = kept_for reply.filter s ∷ []
replied_by _ _ = []

-- the filters of the session after an entry, by the copies of each number
abbrev pub session_after : List Reply → (ℕ → Option Snapshot) → Entry → List SessionFilter → List SessionFilter
session_after replies copies (Learned q n) before = before ++ learnt_by (copies q)
session_after replies copies (Replied q reply n) before = before ++ replied_by (item_at_number replies reply) (copies q)
session_after replies copies _ before = before

-- binaries, with those of these filters of a session appended that aren't among them
abbrev pub with_binaries : List (List ℕ) → List SessionFilter → List (List ℕ)
with_binaries binaries session = fold (λ all kept. with_binary all kept.policy) binaries session

-- whether a reply was given after an entry
abbrev pub replied_after : Entry → ℕ → Bool → Bool
replied_after (Replied q reply n) r before = reply == r || before
replied_after _ r before = before

-- ---- what decides

-- this verdict if it decides, otherwise the other
abbrev pub verdict_or : Verdict → Verdict → Verdict
verdict_or (Permit n ids) other = Permit n ids
verdict_or (Refuse n errno) other = Refuse n errno
verdict_or Unmatched other = other

-- the verdict of the filters that were read, otherwise of the session's, which are numbered on; Unmatched if none decides
abbrev pub decision : List FilterValue → List FilterValue → Snapshot → Verdict
decision read session s = verdict_or (verdict read s) (verdict_from (suc (length read)) session s)

-- whether this is a reply for a policy and a rule
abbrev pub is_reply_for : List ℕ → Rule → Option Reply → Bool
is_reply_for policy rule None = false
is_reply_for policy rule (Some reply) = bytes_eq reply.binary policy && is_for rule reply.filter.name

-- ---- the least number of its kind

-- the least of `count` numbers from n on that satisfies a predicate
abbrev pub least_from : (ℕ → Bool) → ℕ → ℕ → Option ℕ
least_from is n zero = None
least_from is n (suc count) = if is n then Some n else least_from is (suc n) count
