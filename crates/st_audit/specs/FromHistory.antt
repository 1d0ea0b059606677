-- What the entries themselves record of held calls: their applied answers, by the numbers of messages. A number that is drawn again means another
-- call from then on.
use Rattle.std.specs.Prelude.{ℕ, suc, Bool, true, false, ◌==◌, ◌&&◌, if◌then◌else◌, List, [], ◌∷◌, ◌++◌, reverse, length, Option, Some, None, option_map}
use Rattle.std.specs.List.{fold}
use Rattle.st_base.specs.Numbered.{item_at_number}
use Rattle.st_calls.specs.declared.judged.Snapshot.{Snapshot}
use Rattle.st_calls.specs.declared.judged.Verdict.{Verdict}
use Rattle.st_calls.specs.declared.judged.Verdict.TheVariants.{Permit, Refuse, Unmatched}
use Rattle.st_emulation.specs.declared.emulation.Emulation.{Emulation}
use Rattle.st_filter.specs.Formula.{FilterValue}
use Rattle.st_filter.specs.Judging.{verdict_from}
use Rattle.st_filter.specs.Policies.{PoliciesValue, filters_in_force}
use Rattle.st_model.specs.Tree.{is_number}
use Rattle.st_trace.specs.declared.entry.Change.{Change}
use Rattle.st_trace.specs.declared.entry.Change.TheVariants.{Renewed}
use Rattle.st_trace.specs.declared.entry.Entry.{Entry}
use Rattle.st_trace.specs.declared.entry.Entry.TheVariants.{Stored, Entered, Claimed, Copied, Looked, Faulted, Answered, Used, Denied, Ended, Replied, Learned, Reloaded}
use Rattle.st_trace.specs.declared.entry.Way.TheVariants.{Held}
use Rattle.st_law.specs.declared.input.Input.{Input}
use Rattle.st_law.specs.History.{session_at}
use Rattle.st_law.specs.Numbers.{drawn_back}
use Rattle.st_law.specs.Sessions.{SessionFilter, session_filters}
use Rattle.st_law.specs.Threads.{History, owner_at}
use Rattle.st_audit.specs.How.{Decided, decided_by, decided_with, deciding_number, marks_of}
use Rattle.st_audit.specs.AuditText.{line_by}
use Rattle.st_audit.specs.Rows.{entered_at, row_at}

-- whether an entry says how a call goes on: that it is entered, answered, made or denied, that a filter for it is replied or learnt, or
-- that its policy is reloaded; the others are steps in between
abbrev pub concerns_call : Entry → Bool
concerns_call (Entered t call regs way) = true
concerns_call (Answered w s verdict applied) = true
concerns_call (Replied q reply n) = true
concerns_call (Learned q n) = true
concerns_call (Used t seq call regs args ids result changes) = true
concerns_call (Denied t seq errno cause) = true
concerns_call (Reloaded t n done changes) = true
concerns_call (Stored t place word) = false
concerns_call (Claimed w q) = false
concerns_call (Copied q part place word) = false
concerns_call (Looked q part name seen) = false
concerns_call (Faulted q errno) = false
concerns_call (Ended t) = false

-- ---- answers

-- an answer: the held call that was judged, and what the filters in force say of the call
pub record Answer : Type 0 where
  pub snapshot : Snapshot
  pub verdict : Verdict

-- the answer with this snapshot and this verdict
abbrev pub answer_with : Snapshot → Verdict → Answer
answer_with snapshot verdict = record { snapshot = snapshot; verdict = verdict }

-- an answer to the same call by another number
abbrev pub answer_as : ℕ → Answer → Answer
answer_as n answer = answer_with (record answer.snapshot { seq = n }) answer.verdict

-- the answer to a number after a change; it is removed when the number is drawn again, since the number means another call then
abbrev pub answer_after_change : ℕ → Option Answer → Change → Option Answer
answer_after_change n before (Renewed old new) = if new == n then None else before
answer_after_change n before _ = before

-- the applied answer to a number after an entry; it is removed when the call is made or denied, and when the number is drawn again
abbrev pub answer_after : Entry → ℕ → Option Answer → Option Answer
answer_after (Entered t call regs (Held m)) n before = if m == n then None else before
answer_after (Answered w snapshot verdict applied) n before =
    if (snapshot.seq == n) && applied then Some (answer_with snapshot verdict) else before
answer_after (Used t seq call regs args ids result changes) n before = fold (answer_after_change n) (if is_number n seq then None else before) changes
answer_after (Denied t seq errno cause) n before = if is_number n seq then None else before
answer_after (Reloaded t policy done changes) n before = fold (answer_after_change n) before changes
answer_after _ n before = before

-- the newest applied answer to a number since it was drawn last, if the call is neither made nor denied
abbrev pub applied_answer : History → ℕ → Option Answer
applied_answer [] n = None
applied_answer (e ∷ h) n = answer_after e n (applied_answer h n)

-- ---- what decided

-- the filters in force for a held call with these copies, at the version of its policy that judges it
abbrev pub filters_for_copies : PoliciesValue → Snapshot → List FilterValue
filters_for_copies policies s = filters_in_force policies s.policy s.version s.rule

-- a held call with these copies, decided by the filter with this number among those in force
abbrev pub decided_by_policy : PoliciesValue → Snapshot → ℕ → Decided
decided_by_policy policies s n = decided_with s.parts n (marks_of (item_at_number (filters_for_copies policies s) n))

-- a held call with these copies, decided by the session's filters, which are numbered after those in force
abbrev pub decided_by_session : PoliciesValue → List SessionFilter → Snapshot → Decided
decided_by_session policies session s =
    decided_by (filters_for_copies policies s) session s (deciding_number (verdict_from (suc (length (filters_for_copies policies s))) (session_filters session s.policy s.rule) s))

-- a held call with these copies, decided as the filters in force say, otherwise by those of the session
abbrev pub decided_after : PoliciesValue → List SessionFilter → Snapshot → Verdict → Decided
decided_after policies session s (Permit n ids) = decided_by_policy policies s n
decided_after policies session s (Refuse n errno) = decided_by_policy policies s n
decided_after policies session s Unmatched = decided_by_session policies session s

-- what an audit says of the held call of an answer
abbrev pub decided_from_history : PoliciesValue → List SessionFilter → Option Answer → Option Decided
decided_from_history policies session answer = option_map (λ a. decided_after policies session a.snapshot a.verdict) answer

-- what an entry prints, by what the entries before it record under the numbers of messages, and by the session after their drawings
abbrev pub line_from_history : Input → History → Entry → Emulation → List ℕ
line_from_history i h e emulation =
    line_by i (owner_at i h) (row_at i h) (entered_at i h) (λ n. decided_from_history i.policies (session_at i (drawn_back h)) (applied_answer h n)) e emulation

-- the audit of a history of numbers, by what its entries record and by the session at each
abbrev pub text_from_history : Input → History → Emulation → List ℕ
text_from_history i [] emulation = []
text_from_history i (e ∷ h) emulation = text_from_history i h emulation ++ line_from_history i h e emulation

-- the audit of a trace of numbers, by what its entries record and by the session at each
abbrev pub audit_from_history : Input → List Entry → Emulation → List ℕ
audit_from_history i trace emulation = text_from_history i (reverse trace) emulation
