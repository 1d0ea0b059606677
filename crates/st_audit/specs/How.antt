-- How a call went, and the marks of the filter that decided.
use Rattle.std.specs.Prelude.{ℕ, Bool, true, false, List, [], ◌++◌, codes, decimal, Option, Some, None, is_some, option_map}
use Rattle.st_base.specs.Numbered.{item_at_number}
use Rattle.st_base.specs.declared.ids.Ids.{Ids}
use Rattle.st_calls.specs.declared.argument.ArgText.{ArgText}
use Rattle.st_calls.specs.declared.judged.Snapshot.{Snapshot}
use Rattle.st_calls.specs.declared.judged.Verdict.{Verdict}
use Rattle.st_calls.specs.declared.judged.Verdict.TheVariants as verdicts
use Rattle.st_calls.specs.declared.rule.Rule.{Rule}
use Rattle.st_filter.specs.Formula.{FilterValue}
use Rattle.st_lex.specs.Quote.{quoted}
use Rattle.st_names.specs.Name.{printed_name}
use Rattle.st_trace.specs.declared.entry.Cause.{Cause}
use Rattle.st_trace.specs.declared.entry.Cause.TheVariants as cause
use Rattle.st_law.specs.declared.input.Input.{Input}
use Rattle.st_law.specs.Sessions.{SessionFilter, session_filters}
use Rattle.st_law.specs.State.{State, decision_in, read_at, snapshot_in}
use Rattle.st_audit.specs.declared.how.How.{How}
use Rattle.st_audit.specs.declared.marks.Marks.{Marks}
use Rattle.st_audit.specs.declared.how.How.TheVariants.{Fast, Barred, Permit, PermitAs, Deny, NoFilter, Fault, Link}

-- ---- how a call went, as text

-- the effective ids that a call was made under
abbrev pub as_text : Ids → List ℕ
as_text ids = codes " as " ++ decimal ids.euid ++ codes ":" ++ decimal ids.egid

-- how a call went
abbrev pub how_text : How → List ℕ
how_text Fast = codes "fast"
how_text (Barred n) = codes "barred#" ++ decimal n
how_text (Permit n) = codes "permit#" ++ decimal n
how_text (PermitAs n ids) = codes "permit#" ++ decimal n ++ as_text ids
how_text (Deny n) = codes "deny#" ++ decimal n
how_text NoFilter = codes "nofilter"
how_text Fault = codes "fault"
how_text (Link name) = codes "link " ++ quoted name

-- ---- what decided on a held call

-- the number of the filter that decides; 0 if none does
abbrev pub deciding_number : Verdict → ℕ
deciding_number (verdicts.Permit n ids) = n
deciding_number (verdicts.Refuse n errno) = n
deciding_number verdicts.Unmatched = 0

-- the filter with a number, among those in force for a policy and a rule and, after them, those of the session
abbrev pub filter_numbered : List FilterValue → List SessionFilter → List ℕ → Rule → ℕ → Option FilterValue
filter_numbered in_force session policy rule n = item_at_number (in_force ++ session_filters session policy rule) n

-- what an audit says of a filter, if there is one: whether it grants ids, and whether it asks for a mark
abbrev pub marks_of : Option FilterValue → Marks
marks_of None = record { grants = false; logs = false }
marks_of (Some f) = record { grants = is_some f.grant; logs = f.log }

-- what an audit says of a held call: its arguments, and the number and marks of the filter that decided
pub record Decided : Type 0 where
  pub parts : List ArgText
  pub number : ℕ
  pub marks : Marks

-- what an audit says of a held call, from its parts
abbrev pub decided_with : List ArgText → ℕ → Marks → Decided
decided_with parts number marks = record { parts = parts; number = number; marks = marks }

-- a held call with these copies, decided by the filter with this number, by the filters in force and those of the session
abbrev pub decided_by : List FilterValue → List SessionFilter → Snapshot → ℕ → Decided
decided_by in_force session s n = decided_with s.parts n (marks_of (filter_numbered in_force session s.policy s.rule n))

-- the held call with a number, and what its filters decide now
abbrev pub decided_in : Input → State → ℕ → Option Decided
decided_in i st q = option_map (λ s. decided_by (read_at i st s.policy s.rule) st.session s (deciding_number (decision_in i st s))) (snapshot_in st q)

-- the held call with a number, if there is one
abbrev pub decided_on : (ℕ → Option Decided) → Option ℕ → Option Decided
decided_on decided None = None
decided_on decided (Some q) = decided q

-- the arguments that were judged
abbrev pub parts_of : Option Decided → List ArgText
parts_of None = []
parts_of (Some decided) = decided.parts

-- whether the filter that decided asks for a mark
abbrev pub is_logged : Option Decided → Bool
is_logged None = false
is_logged (Some decided) = decided.marks.logs

-- ---- a call that was made

-- permitted by the filter with this number; the ids are printed if the filter grants some
abbrev pub permitted : ℕ → Bool → Ids → How
permitted n true ids = PermitAs n ids
permitted n false ids = Permit n

-- permitted by the filter that decided
abbrev pub how_permitted : Option Decided → Ids → How
how_permitted None ids = Permit 0
how_permitted (Some decided) ids = permitted decided.number decided.marks.grants ids

-- a call that was made: by the kernel itself, or as a filter permitted
abbrev pub how_used : Option ℕ → Option Decided → Ids → How
how_used None decided ids = Fast
how_used (Some q) decided ids = how_permitted decided ids

-- the arguments that are printed of a call that was made: its own if it was held, otherwise none
abbrev pub args_used : Option ℕ → List ArgText → List ArgText
args_used None args = []
args_used (Some q) args = args

-- ---- a call that was denied

-- denied by the filter with this number: barred without a message, otherwise held
abbrev pub how_filtered : ℕ → Option ℕ → How
how_filtered n None = Barred n
how_filtered n (Some q) = Deny n

-- a call that was denied: by the kernel itself or by a filter, or because no filter decided, there was a fault, or a link was in
-- the way
abbrev pub how_denied : Option ℕ → Cause → How
how_denied seq (cause.Filter n) = how_filtered n seq
how_denied seq cause.NoFilter = NoFilter
how_denied seq cause.Fault = Fault
how_denied seq (cause.Link name) = Link (printed_name name)

-- the number of the message whose copies are printed; none after a fault
abbrev pub seq_of_decision : Option ℕ → Cause → Option ℕ
seq_of_decision seq (cause.Filter n) = seq
seq_of_decision seq cause.NoFilter = seq
seq_of_decision seq cause.Fault = None
seq_of_decision seq (cause.Link name) = seq
