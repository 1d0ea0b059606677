-- How the machine that runs finds the questions for the operator.
use Rattle.std.specs.Prelude.{◌≡◌, ◌≤◌, ℕ, suc, Bool, true, false, ◌&&◌, ◌||◌, not, if◌then◌else◌, nat_le, List, length, Option, Some, None, is_some}
use Rattle.std.specs.List.{fold}
use Rattle.st_base.specs.Numbered.{item_at_number}
use Rattle.st_calls.specs.declared.judged.Snapshot.{Snapshot}
use Rattle.st_calls.specs.declared.judged.Verdict.{Verdict}
use Rattle.st_calls.specs.declared.judged.Verdict.TheVariants.{Unmatched}
use Rattle.st_filter.specs.Judging.{verdict_from}
use Rattle.st_messages.specs.declared.message.MsgState.{MsgState}
use Rattle.st_messages.specs.declared.message.MsgState.TheVariants.{Answered}
use Rattle.st_messages.specs.Messages.{message_state}
use Rattle.st_workers.specs.Refinement.{HasAnswer}
use Rattle.st_law.specs.declared.input.Input.{Input}
use Rattle.st_learn.specs.Deciding.{lesser}
use Rattle.st_learn.specs.Operator.{answers}
use Rattle.st_learn.specs.Sessions.{version_of}
use Rattle.st_law.specs.Machine.{least_question}
use Rattle.st_law.specs.Sessions.{session_filters}
use Rattle.st_filter.specs.Formula.{FilterValue}
use Rattle.st_filter.specs.Policies.{filters_in_force}
use Rattle.st_law.specs.State.{State, is_live, is_question, is_undecided}
use Rattle.st_decide.specs.Machine.{Refines, Running}
use Rattle.st_threads.specs.Thread.{ThreadRow, drawing_held}

-- whether a message was answered, and no filter in force decides
abbrev pub is_unmatched : Option MsgState → Bool
is_unmatched (Some (Answered Unmatched)) = true
is_unmatched _ = false

-- the least drawing that a thread holds, if any thread holds one
abbrev pub least_held : List ThreadRow → Option ℕ
least_held rows = fold (λ least row. lesser least (drawing_held row)) None rows

-- the filters in force for the policy and the rule of copies, without the session's
abbrev pub filters_now : Running → Snapshot → List FilterValue
filters_now m s = filters_in_force m.input.policies s.policy (version_of m.operator.reloads s.policy) s.rule

-- the verdict of the session's filters on copies; the filters are numbered on after those in force
abbrev pub session_verdict : Running → Snapshot → Verdict
session_verdict m s = verdict_from (suc (length (filters_now m s))) (session_filters m.operator.filters s.policy s.rule) s

-- the decision on a call with these copies on which the filters in force don't decide; none if the session's don't decide either,
-- and the operator would answer
abbrev pub later_decision : Running → Snapshot → Option Verdict
later_decision m s = if is_undecided (session_verdict m s) && answers m.input m.operator s then None else Some (session_verdict m s)

-- a drawing that was found is an answered question
abbrev pub IsFound : Running → Option ℕ → Type 0
IsFound m None = Unit {0}
IsFound m (Some q) = HasAnswer (message_state m.workers.calls q) × ((st : State) → Refines m st → is_question m.input st q ≡ true)

-- a question was found, with this drawing or a smaller one
abbrev pub IsAtMost : Option ℕ → ℕ → Type 0
IsAtMost None drawing = ⊥
IsAtMost (Some q) drawing = q ≤ drawing

-- whether a question was found, with this drawing or a smaller one
abbrev pub is_at_most : Option ℕ → ℕ → Bool
is_at_most None drawing = false
is_at_most (Some q) drawing = nat_le q drawing

-- the lesser of two questions: the question that was found before, and this drawing if it is a question
pub record IsLeastWith (m : Running) (least : Option ℕ) (drawing : ℕ) (found : Option ℕ) : Type 0 where
  pub question : IsFound m least → IsFound m found
  pub before : (st : State) → Refines m st → (other : ℕ) → IsAtMost least other → IsAtMost found other
  pub this : (st : State) → Refines m st → is_question m.input st drawing ≡ true → IsAtMost found drawing

-- the least of the questions that the first so many threads hold
pub record IsLeastAmong (m : Running) (count : ℕ) (found : Option ℕ) : Type 0 where
  pub question : IsFound m found
  pub least : (t drawing : ℕ) (row : ThreadRow) → t ≤ count → item_at_number m.threads t ≡ Some row → drawing_held row ≡ Some drawing → (st : State) → Refines m st → is_question m.input st drawing ≡ true → IsAtMost found drawing

-- the least question, which is answered, or none
abbrev pub IsLeastFound : Running → Option ℕ → Type 0
IsLeastFound m None = (st : State) → Refines m st → least_question m.input st ≡ None
IsLeastFound m (Some q) = HasAnswer (message_state m.workers.calls q) × ((st : State) → Refines m st → (least_question m.input st ≡ Some q) × (is_question m.input st q ≡ true))

-- whether the call of a live drawing can be made or denied: its message was faulted or answered, and is no question
abbrev pub CanBeMadeOrDenied : Input → State → ℕ → Bool → Type 0
CanBeMadeOrDenied i st drawing over = is_live st drawing ≡ true → over ≡ ((is_some (st.messages drawing).fault || (st.messages drawing).answered) && not (is_question i st drawing))
