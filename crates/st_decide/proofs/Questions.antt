-- Which held calls are questions for the operator, and how a held call goes on by the decision on its copies.
use Rattle.std.proofs.Common.{◌≡◌, ◌≢◌, ◌∙◌, ◌&&◌, not, suc, ℕ, Bool, true, false, cond, List, length, Option, Some, None, refl, ap, sym, subst}
use Rattle.std.proofs.lemmas.Option.{same_Some}
use Rattle.std.specs.Prelude.{if◌then◌else◌, is_some}
use Rattle.st_base.specs.declared.errno.Errno.{Errno}
use Rattle.st_base.specs.declared.errno.Errno.TheVariants.{EPERM}
use Rattle.st_base.specs.declared.ids.Ids.{Ids}
use Rattle.st_calls.specs.declared.judged.Snapshot.{Snapshot}
use Rattle.st_calls.specs.declared.judged.Verdict.{Verdict}
use Rattle.st_calls.specs.declared.judged.Verdict.TheVariants.{Permit, Refuse, Unmatched}
use Rattle.st_filter.specs.Judging.{verdict, verdict_from}
use Rattle.st_messages.specs.declared.message.MsgState.{MsgState}
use Rattle.st_messages.specs.declared.message.MsgState.TheVariants.{Waiting, Claimed, Answered, Faulted}
use Rattle.st_trace.specs.declared.entry.Cause.{Cause}
use Rattle.st_trace.specs.declared.entry.Cause.TheVariants.{Filter, NoFilter}
use Rattle.st_trace.specs.declared.entry.Entry.TheVariants.{Denied}
use Rattle.st_law.specs.declared.input.Input.{Input}
use Rattle.st_law.specs.Machine.{decided_entry}
use Rattle.st_law.specs.Sessions.{SessionFilter, session_filters, verdict_or}
use Rattle.st_law.specs.State.{State, decision_in, operator_decides, is_live, is_open_question, is_question, is_undecided, read_at, snapshot_in}
use Rattle.st_law.proofs.Standing.{read_decides}
use Rattle.st_filter.specs.Policies.{filters_in_force}
use Rattle.st_law.specs.declared.input.Mode.{Mode}
use Rattle.st_law.specs.declared.input.Mode.TheVariants.{Enforce, Learn, AskText}
use Rattle.st_learn.specs.Operator.{answers, operator_answers, Added}
use Rattle.st_learn.proofs.Replies.{asked_same}
use Rattle.st_workers.specs.Refinement.{drawn_copies, HasAnswer, IsMessageStateOf, RepresentsMessages}
use Rattle.st_workers.proofs.Copies.{same_verdict}
use Rattle.st_decide.specs.Machine.{Refines, Running}
use Rattle.st_decide.specs.NextSteps.{IsDecidedStep, IsDecision, IsPermittedStep}
use Rattle.st_decide.specs.Questions.{filters_now, is_unmatched, later_decision, session_verdict}
use Rattle.st_decide.proofs.Versions.{judged_now}
use Rattle.st_decide.specs.declared.step.Step.{Step}
use Rattle.st_decide.specs.declared.step.Step.TheVariants.{Wait, Deny}

-- the step that denies a held call
abbrev pub denied : ℕ → Errno → Cause → Step
denied q errno why = Deny (record { drawing = Some q; errno = errno; cause = why })

-- ---- the filters in force decide

-- their verdict is the decision
pub read_decision : (m : Running) (q : ℕ) (read : Verdict) → read ≢ Unmatched → IsDecision m q read (Some read)
read_decision m q read some st is s there from = (
  read_decides (read_at m.input st s.policy s.rule) (session_filters st.session s.policy s.rule) s read from some,
  λ none. absurd (some none),
)

-- ---- the filters in force don't decide

module _ (m : Running) (st : State) (is : Refines m st) where
  pub later_decides : (s : Snapshot) → verdict (read_at m.input st s.policy s.rule) s ≡ Unmatched → decision_in m.input st s ≡ session_verdict m s
  later_decides s read =
      ap (λ (v : Verdict). verdict_or v (verdict_from (suc (length (read_at m.input st s.policy s.rule))) (session_filters st.session s.policy s.rule) s)) read
      ∙ ap (λ (session : List SessionFilter). verdict_from (suc (length (read_at m.input st s.policy s.rule))) (session_filters session s.policy s.rule) s) is.operator.session
      ∙ ap (λ (n : ℕ). verdict_from (suc (length (filters_in_force m.input.policies s.policy n s.rule))) (session_filters m.operator.filters s.policy s.rule) s) (is.operator.versions s.policy)

  -- a held call that they don't decide is a question iff the session doesn't decide either, and the operator would answer
  question_by : (q : ℕ) (copies : Snapshot) → IsMessageStateOf m.input st q (Some (Answered Unmatched)) → snapshot_in st q ≡ Some copies → is_question m.input st q ≡ (is_undecided (session_verdict m copies) && answers m.input m.operator copies)
  question_by q copies come there =
      let same : come.2 ≡ copies = same_Some come.2 copies (sym come.3 ∙ there) in
      let read : verdict (read_at m.input st copies.policy copies.rule) copies ≡ Unmatched = subst (λ (s : Snapshot). verdict (read_at m.input st s.policy s.rule) s ≡ Unmatched) same (sym (judged_now m st is q come.2 come.0 come.3) ∙ sym come.4) in
      (λ k. come.0 k && come.1.answered k && is_open_question m.input st (there k))
      ∙ (λ k. is_undecided (later_decides copies read k) && asked_same m.input st m.operator is.operator copies m.input.options.mode k)

module _ (m : Running) (q : ℕ) (copies : Snapshot) (sealed : (i : Input) (state : State) → RepresentsMessages i state (is_live state) m.workers → snapshot_in state q ≡ Some copies)
    (come : (st : State) → Refines m st → IsMessageStateOf m.input st q (Some (Answered Unmatched))) where
  abbrev later : Verdict
  later = session_verdict m copies

  -- the decision is the session's verdict
  decided_later : (st : State) → Refines m st → (s : Snapshot) → snapshot_in st q ≡ Some s → verdict (read_at m.input st s.policy s.rule) s ≡ Unmatched → decision_in m.input st s ≡ later
  decided_later st is s there read = later_decides m st is s read ∙ ap (session_verdict m) (same_Some s copies (sym there ∙ sealed m.input st is.workers))

  asked : (v : Verdict) → v ≡ later → (st : State) → Refines m st → is_question m.input st q ≡ (is_undecided v && answers m.input m.operator copies)
  asked v said st is = question_by m st is q copies (come st is) (sealed m.input st is.workers) ∙ (λ k. is_undecided (sym said k) && answers m.input m.operator copies)

  by : (v : Verdict) (asks : Bool) → v ≡ later → answers m.input m.operator copies ≡ asks → IsDecision m q Unmatched (if is_undecided v && asks then None else Some v)
  by Unmatched true said asks = λ st is s there read. (decided_later st is s there read ∙ sym said, asked Unmatched said st is ∙ asks)
  by Unmatched false said asks = λ st is s there read. (decided_later st is s there read ∙ sym said, λ none. asked Unmatched said st is ∙ asks)
  by (Permit n ids) asks said is_asked = λ st is s there read. (decided_later st is s there read ∙ sym said, λ none. asked (Permit n ids) said st is)
  by (Refuse n errno) asks said is_asked = λ st is s there read. (decided_later st is s there read ∙ sym said, λ none. asked (Refuse n errno) said st is)

  pub later_decision_is : IsDecision m q Unmatched (later_decision m copies)
  later_decision_is = by later (answers m.input m.operator copies) refl refl

-- ---- the step of an answered call, by the decision

module _ (m : Running) (t q : ℕ) (read : Verdict) where
  -- a question waits for the operator
  pub waits : IsDecision m q read None → IsDecidedStep m t q read Wait
  waits given st is s there from =
      let x = given st is s there from in
      ap (decided_entry m.input st t q s) x.0 ∙ ap (λ (b : Bool). cond b None (Some (Denied t (Some q) EPERM NoFilter))) x.1

  pub permits : (n : ℕ) (ids : Ids) (step : Step) → IsDecision m q read (Some (Permit n ids)) → IsPermittedStep m t q ids step → IsDecidedStep m t q read step
  permits n ids step given next st is s there from = ap (decided_entry m.input st t q s) (given st is s there from).0 ∙ next st is s there

  pub refuses : (n : ℕ) (errno : Errno) → IsDecision m q read (Some (Refuse n errno)) → IsDecidedStep m t q read (denied q errno (Filter n))
  refuses n errno given st is s there from = ap (decided_entry m.input st t q s) (given st is s there from).0

  -- a call that nobody decides is denied
  pub denies : IsDecision m q read (Some Unmatched) → IsDecidedStep m t q read (denied q EPERM NoFilter)
  denies given st is s there from =
      let x = given st is s there from in
      ap (decided_entry m.input st t q s) x.0 ∙ ap (λ (b : Bool). cond b None (Some (Denied t (Some q) EPERM NoFilter))) (x.1 refl)

-- ---- by the state of a message

unmatched_is : (o : Option MsgState) → is_unmatched o ≡ true → o ≡ Some (Answered Unmatched)
unmatched_is (Some (Answered Unmatched)) e = refl
unmatched_is (Some (Answered (Permit n ids))) e = cc
unmatched_is (Some (Answered (Refuse n errno))) e = cc
unmatched_is (Some Waiting) e = cc
unmatched_is (Some (Claimed w)) e = cc
unmatched_is (Some (Faulted errno)) e = cc
unmatched_is None e = cc

module _ (m : Running) (st : State) (is : Refines m st) (q : ℕ) where
  unanswered : is_live st q ≡ true → (st.messages q).answered ≡ false → is_question m.input st q ≡ false
  unanswered live none = λ k. live k && none k && is_open_question m.input st (snapshot_in st q)

  decided : (v : Verdict) → v ≢ Unmatched → is_undecided v ≡ false → IsMessageStateOf m.input st q (Some (Answered v)) → is_question m.input st q ≡ false
  decided v some none come =
      (λ k. come.0 k && come.1.answered k && is_open_question m.input st (come.3 k))
      ∙ (λ k. is_undecided (read_decides (read_at m.input st come.2.policy come.2.rule) (session_filters st.session come.2.policy come.2.rule) come.2 v (sym (judged_now m st is q come.2 come.0 come.3) ∙ sym come.4) some k) && operator_decides m.input st come.2 m.input.options.mode)
      ∙ ap (λ (b : Bool). b && operator_decides m.input st come.2 m.input.options.mode) none

  -- a message in any other state is no question
  pub no_question : (o : Option MsgState) → IsMessageStateOf m.input st q o → is_unmatched o ≡ false → is_question m.input st q ≡ false
  no_question None come e = λ k. come k && (st.messages q).answered && is_open_question m.input st (snapshot_in st q)
  no_question (Some Waiting) come e = unanswered come.0 come.1.answered
  no_question (Some (Claimed w)) come e = unanswered come.0 come.1.answered
  no_question (Some (Faulted errno)) come e = unanswered come.0 come.1.answered
  no_question (Some (Answered (Permit n ids))) come e = decided (Permit n ids) (λ x. cc) refl come
  no_question (Some (Answered (Refuse n errno))) come e = decided (Refuse n errno) (λ x. cc) refl come
  no_question (Some (Answered Unmatched)) come e = cc

-- the number in copies tells nothing of whether the operator would answer, and nothing of the decision on them
pub answers_drawn : (added : Added) (q : ℕ) (s : Snapshot) (mode : Mode) → operator_answers added (drawn_copies q s) mode ≡ operator_answers added s mode
answers_drawn added q s Enforce = refl
answers_drawn added q s Learn = refl
answers_drawn added q s AskText = refl

pub later_drawn : (m : Running) (q : ℕ) (s : Snapshot) → later_decision m (drawn_copies q s) ≡ later_decision m s
later_drawn m q s = λ k. if is_undecided (same k) && answers_drawn m.operator q s m.input.options.mode k then None else Some (same k) where
  same : session_verdict m (drawn_copies q s) ≡ session_verdict m s
  same = same_verdict q s (suc (length (filters_now m s))) (session_filters m.operator.filters s.policy s.rule)

-- an unmatched message is answered
pub unmatched_answered : (o : Option MsgState) → is_unmatched o ≡ true → HasAnswer o
unmatched_answered o e = subst HasAnswer (sym (unmatched_is o e)) tt

none_if : (b : Bool) (v : Verdict) → b ≡ not (is_some (if b then None else Some v))
none_if true v = refl
none_if false v = refl

-- an unmatched number is a question iff there is no decision on its copies
pub asked_by : (m : Running) (st : State) → Refines m st → (q : ℕ) (copies : Snapshot) (o : Option MsgState) → IsMessageStateOf m.input st q o → is_unmatched o ≡ true → snapshot_in st q ≡ Some copies → is_question m.input st q ≡ not (is_some (later_decision m copies))
asked_by m st is q copies o come unmatched there =
    question_by m st is q copies (subst (IsMessageStateOf m.input st q) (unmatched_is o unmatched) come) there
    ∙ none_if (is_undecided (session_verdict m copies) && answers m.input m.operator copies) (session_verdict m copies)
