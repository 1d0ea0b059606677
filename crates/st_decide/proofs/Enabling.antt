-- Which threads and workers can move.
use Rattle.std.proofs.Common.{◌≡◌, ◌∙◌, ◌<◌, ◌&&◌, ◌||◌, not, ℕ, arith, Bool, true, false, Option, Some, None, refl, ap, sym, true≢false}
use Rattle.std.proofs.lemmas.Bool.{eqb-true}
use Rattle.std.proofs.lemmas.Option.{none-some, same_Some}
use Rattle.std.specs.Option.{option_map}
use Rattle.std.specs.Prelude.{is_some, IfSome}
use Rattle.st_base.specs.declared.errno.Errno.{Errno}
use Rattle.st_trace.specs.declared.entry.Way.TheVariants.{Held}
use Rattle.st_base.specs.Numbered.{item_at_number}
use Rattle.st_messages.specs.declared.message.MsgState.{MsgState}
use Rattle.st_messages.specs.declared.message.MsgState.TheVariants.{Waiting, Claimed, Answered, Faulted}
use Rattle.st_model.specs.Processes.{pid_of}
use Rattle.st_trace.specs.declared.entry.Entry.{Entry}
use Rattle.st_law.specs.declared.input.Input.{Input}
use Rattle.st_law.specs.Machine.{thread_entry, worker_entry}
use Rattle.st_law.specs.Messages.{Head}
use Rattle.st_law.specs.State.{State, is_live, is_question}
use Rattle.st_law.specs.Threads.{PendingCall}
use Rattle.st_reached.specs.Waiting.{WaitsForOperator, IsAwaiting, IsStill, asking, awaiting, ended, is_head_by, is_message_by, unstarted}
use Rattle.st_reached.proofs.Still.{none_still, question_answered, still_none}
use Rattle.st_workers.specs.Refinement.{IsMessageStateOf, IsHeldBy, RepresentsMessages}
use Rattle.st_workers.specs.Tasks.{IsTask}
use Rattle.st_workers.specs.UnderWay.{UnderWay}
use Rattle.st_workers.specs.declared.task.Task.{Task}
use Rattle.st_workers.specs.declared.task.Task.TheVariants.{Rest, Claim, Copy, Look as LookAt, Fault, Answer}
use Rattle.st_decide.specs.Enabled.{is_faulted_or_answered, is_work}
use Rattle.st_decide.specs.Machine.{Refines, Running}
use Rattle.st_decide.specs.Questions.{CanBeMadeOrDenied}
use Rattle.st_threads.specs.Thread.{ThreadRow, IsRow, drawing_held}
use Rattle.st_decide.proofs.HeldCalls.{are_held}
use Rattle.st_decide.proofs.NextSteps.{owner_is, row_of}
use Rattle.st_decide.proofs.Reached.{reached_of}
use Rattle.st_threads.proofs.Rows.{Holds, drawing_of_held, holds}

module _ (m : Running) (st : State) (is : Refines m st) (t : ℕ) where
  -- a thread that is still adds no entry
  pub cannot : IsStill m.input st t → false ≡ is_some (thread_entry m.input st t)
  cannot still = ap (λ (o : Option Entry). is_some o) (sym (still_none m.input st t still))

  -- a thread that isn't still adds an entry
  pub can : (IsStill m.input st t → ⊥) → true ≡ is_some (thread_entry m.input st t)
  can moves = by (thread_entry m.input st t) refl where
    by : (o : Option Entry) → thread_entry m.input st t ≡ o → true ≡ is_some o
    by None e = absurd (moves (none_still m.input st (reached_of m.input st is.reached).whole t e))
    by (Some entry) e = refl

  module _ (row : ThreadRow) (row_is : item_at_number m.threads t ≡ Some row) (unended : row.ended ≡ false) (pid : ℕ) (process : pid_of m.system.processes t ≡ Some pid) (there : 0 < pid) where
    its : IsRow row (st.threads t)
    its = row_of m st is t row row_is

    -- a thread that waits neither for its message nor for the operator isn't still
    running : (IsAwaiting st t → ⊥) → (WaitsForOperator m.input st t → ⊥) → IsStill m.input st t → ⊥
    running free unasked (unstarted none) = let owner = owner_is m st is t pid process in omega (arith, none, owner, there)
    running free unasked (ended over) = true≢false (sym over ∙ its.ended ∙ unended)
    running free unasked (awaiting waits) = free waits
    running free unasked (asking asks) = unasked asks

    holds_none : drawing_held row ≡ None → (entered : PendingCall) → (st.threads t).dying ≡ false → (st.threads t).pending ≡ Some entered → (first : ℕ) → entered.way ≡ Held first → ⊥
    holds_none none entered undying pending first way = none-some row.number (sym none ∙ drawing_of_held row (sym its.dying ∙ undying) entered (sym its.pending ∙ pending) first way)

    -- a thread that holds no call can move
    pub free_moves : drawing_held row ≡ None → true ≡ is_some (thread_entry m.input st t)
    free_moves none = can (running (λ waits. holds_none none waits.entered waits.undying waits.pending waits.first waits.way) (λ asks. holds_none none asks.entered asks.undying asks.pending asks.first asks.way))

    -- a thread that holds a call can move if its message was faulted or answered, and is no question
    module _ (q : ℕ) (held : drawing_held row ≡ Some q) where
      x : Holds row q
      x = holds row q held

      number : (st.threads t).number ≡ q
      number = its.number q held

      waiting : (st.messages q).fault ≡ None → (st.messages q).answered ≡ false → IsStill m.input st t
      waiting unfaulted unanswered = awaiting (record {
        undying = its.dying ∙ x.undying;
        entered = x.entered;
        pending = its.pending ∙ x.pending;
        first = x.first;
        way = x.way;
        unfaulted = ap (λ (n : ℕ). (st.messages n).fault) number ∙ unfaulted;
        unanswered = ap (λ (n : ℕ). (st.messages n).answered) number ∙ unanswered;
      })

      questioned : is_question m.input st q ≡ true → IsStill m.input st t
      questioned is_one = asking (record {
        undying = its.dying ∙ x.undying;
        entered = x.entered;
        pending = its.pending ∙ x.pending;
        first = x.first;
        way = x.way;
        unfaulted = ap (λ (n : ℕ). (st.messages n).fault) number ∙ (reached_of m.input st is.reached).whole.turns.sound q (question_answered m.input st q is_one);
        question = ap (is_question m.input st) number ∙ is_one;
      })

      by : (fault : Option Errno) (answered question : Bool) → (st.messages q).fault ≡ fault → (st.messages q).answered ≡ answered → is_question m.input st q ≡ question → ((is_some fault || answered) && not question) ≡ is_some (thread_entry m.input st t)
      by None false question unfaulted unanswered asks = cannot (waiting unfaulted unanswered)
      by None true true unfaulted answered asks = cannot (questioned asks)
      by None true false unfaulted answered quiet = can (running (λ waits. true≢false (sym answered ∙ ap (λ (n : ℕ). (st.messages n).answered) (sym number) ∙ waits.unanswered))
          (λ asks. true≢false (sym asks.question ∙ ap (is_question m.input st) number ∙ quiet)))
      by (Some errno) answered true faulted is_answered asks = absurd (none-some errno (sym ((reached_of m.input st is.reached).whole.turns.sound q (question_answered m.input st q asks)) ∙ faulted))
      by (Some errno) answered false faulted is_answered quiet = can (running (λ waits. none-some errno (sym waits.unfaulted ∙ ap (λ (n : ℕ). (st.messages n).fault) number ∙ faulted))
          (λ asks. true≢false (sym asks.question ∙ ap (is_question m.input st) number ∙ quiet)))

      pub held_moves : (over : Bool) → CanBeMadeOrDenied m.input st q over → over ≡ is_some (thread_entry m.input st t)
      held_moves over is_over = is_over ((are_held m st is).lives t row q row_is held).lives ∙ by (st.messages q).fault (st.messages q).answered (is_question m.input st q) refl refl refl

-- ---- whether a held call is over

-- whether a message was faulted or answered, by its state
come_by : (i : Input) (st : State) (q : ℕ) (o : Option MsgState) → IsMessageStateOf i st q o → is_live st q ≡ true → is_faulted_or_answered o ≡ (is_some (st.messages q).fault || (st.messages q).answered)
come_by i st q None come live = absurd (true≢false (sym live ∙ come))
come_by i st q (Some Waiting) come live = sym (λ k. is_some (come.1.fault k) || come.1.answered k)
come_by i st q (Some (Claimed w)) come live = sym (λ k. is_some (come.1.fault k) || come.1.answered k)
come_by i st q (Some (Answered v)) come live = sym (λ k. is_some (come.1.fault k) || come.1.answered k)
come_by i st q (Some (Faulted errno)) come live = sym (λ k. is_some (come.1.fault k) || come.1.answered k)

-- a held call whose message was neither faulted nor answered isn't over
pub not_over : (i : Input) (st : State) (q : ℕ) (o : Option MsgState) → IsMessageStateOf i st q o → is_faulted_or_answered o ≡ false → CanBeMadeOrDenied i st q false
not_over i st q o come none live = ap (λ (b : Bool). b && not (is_question i st q)) (sym none ∙ come_by i st q o come live)

-- a held call whose message was faulted or answered is over if it is no question
pub over_by : (m : Running) (st : State) (q : ℕ) (o : Option MsgState) → IsMessageStateOf m.input st q o → is_faulted_or_answered o ≡ true → (asks : Bool) → is_question m.input st q ≡ asks → CanBeMadeOrDenied m.input st q (not asks)
over_by m st q o come has asks question live = (λ k. true && not (sym question k)) ∙ ap (λ (b : Bool). b && not (is_question m.input st q)) (sym has ∙ come_by m.input st q o come live)

-- a worker can move iff it has something to do
pub work_moves : (i : Input) (st : State) (kept : UnderWay) (worker : ℕ) (task : Task) → IsTask i st kept worker task → is_work task ≡ is_some (worker_entry i st worker)
work_moves i st kept worker Rest x = ap (λ (o : Option Entry). is_some o) (sym x)
work_moves i st kept worker Claim x = ap (λ (o : Option Entry). is_some o) (sym x.1)
work_moves i st kept worker (Copy drawing pid part place) x = ap (λ (o : Option Entry). is_some o) (sym x.0)
work_moves i st kept worker (LookAt drawing part) x = ap (λ (o : Option Entry). is_some o) (sym x.1)
work_moves i st kept worker (Fault drawing errno) x = ap (λ (o : Option Entry). is_some o) (sym x)
work_moves i st kept worker Answer x = ap (λ (o : Option Entry). is_some o) (sym x.3)

-- ---- the thread of a number

same_thread : (t u : ℕ) (o : Option Head) → is_head_by t o ≡ true → option_map (λ (head : Head). head.tid) o ≡ Some u → t ≡ u
same_thread t u None by held = absurd (true≢false (sym by))
same_thread t u (Some head) by held = sym (eqb-true head.tid t by) ∙ same_Some head.tid u held

-- a live number isn't another thread's
pub only_holder : (m : Running) (drawing : ℕ) (o : Option ℕ) → IfSome o (λ tid. (i : Input) (st : State) → RepresentsMessages i st (is_live st) m.workers → IsHeldBy st drawing tid) →
    IfSome o (λ tid. (st : State) → Refines m st → (t : ℕ) → is_message_by st t drawing ≡ true → t ≡ tid)
only_holder m drawing None law = tt
only_holder m drawing (Some tid) law = λ st is t by. same_thread t tid (st.messages drawing).head by (law m.input st is.workers)
