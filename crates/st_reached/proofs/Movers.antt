-- The thread of an entry: the thread that makes it, and no thread if a worker or the operator does.
use native.Mathlib.Omega.{arith}
use Rattle.std.proofs.Common.{◌≡◌, ◌≢◌, ◌≤◌, ◌∙◌, ◌==◌, ◌||◌, ℕ, List, [], ◌∷◌, Option, Some, None, refl, sym, subst}
use Rattle.std.proofs.lemmas.Option.{none-some}
use Rattle.st_base.specs.declared.errno.Errno.{Errno}
use Rattle.st_base.specs.declared.ids.Ids.{Ids}
use Rattle.st_calls.specs.declared.argument.ArgText.{ArgText}
use Rattle.st_calls.specs.declared.call.SysCall.{SysCall}
use Rattle.st_calls.specs.declared.judged.Snapshot.{Snapshot}
use Rattle.st_calls.specs.declared.judged.Verdict.{Verdict}
use Rattle.st_calls.specs.declared.judged.Verdict.TheVariants as verdict
use Rattle.st_calls.specs.declared.rule.FastAnswer.{FastAnswer}
use Rattle.st_calls.specs.declared.rule.FastAnswer.TheVariants as answer
use Rattle.st_effects.specs.Progress.{Progress, Word, Look, Stuck, Ready}
use Rattle.st_names.specs.Name.{Components}
use Rattle.st_trace.specs.declared.entry.Choice.{Choice}
use Rattle.st_trace.specs.declared.entry.Choice.TheVariants as choice
use Rattle.st_trace.specs.declared.entry.Entry.{Entry}
use Rattle.st_trace.specs.declared.entry.Entry.TheVariants.{Ended}
use Rattle.st_trace.specs.declared.entry.Way.{Way}
use Rattle.st_trace.specs.declared.entry.Way.TheVariants.{Fast, Barred, Held, Untraced}
use Rattle.st_trace.specs.declared.start.Instr.{Instr}
use Rattle.st_trace.specs.declared.start.Instr.TheVariants.{Store, Call, Fork, Reload}
use Rattle.st_law.specs.declared.input.Input.{Input}
use Rattle.st_law.specs.declared.input.Mode.{Mode}
use Rattle.st_law.specs.declared.input.Mode.TheVariants.{Enforce, Learn, AskText}
use Rattle.st_law.specs.Machine.{answer_entry, answered_entry, asked_entry, barred_entry, claimed_entry, decided_entry, entry_of, held_entry, least_question, least_waiting, next_instruction_entry, operator_entry, pending_entry, permitted_entry, question_entry, reply_entry, running_entry, thread_entry, turn_entry, unheld_entry, unlinked_entry, worker_entry, working_entry}
use Rattle.st_law.specs.State.{State, arguments_now, decision_in, is_question, is_worker, link_now, next_reply, process_in, progress_in, snapshot_in, snapshot_of_progress, worker_at}
use Rattle.st_law.specs.Threads.{PendingCall, thread_of}
use Rattle.st_law.proofs.Steps.{Says, says-either, says-unless, says-when}

-- ---- the entry of a thread

module _ (i : Input) (st : State) (t : ℕ) where
  abbrev IsOwn : Entry → Type 0
  IsOwn e = thread_of e ≡ t

  next_own : (left : List Instr) → Says IsOwn (next_instruction_entry i st t left)
  next_own [] = refl
  next_own (Store place word ∷ later) = refl
  next_own (Call call regs ∷ later) = refl
  next_own (Fork child ∷ later) = refl
  next_own (Reload n ∷ later) = refl

  unlinked_own : (call : SysCall) (regs : List ℕ) (ids : Ids) (args : List ArgText) (o : Option Components) → IsOwn (unlinked_entry i st t call regs ids args o)
  unlinked_own call regs ids args None = refl
  unlinked_own call regs ids args (Some name) = refl

  unheld_own : (call : SysCall) (regs : List ℕ) (ids : Ids) (p : Progress) → Says IsOwn (unheld_entry i st t call regs ids p)
  unheld_own call regs ids (Word part place) = tt
  unheld_own call regs ids (Look part name) = tt
  unheld_own call regs ids (Stuck errno) = refl
  unheld_own call regs ids (Ready args) = unlinked_own call regs ids args (link_now i st call regs args)

  barred_own : (n : ℕ) (a : FastAnswer) → Says IsOwn (barred_entry t n a)
  barred_own n answer.Permit = tt
  barred_own n (answer.Refuse errno) = refl
  barred_own n answer.Ask = tt

  permitted_own : (q : ℕ) (s : Snapshot) (ids : Ids) (o : Option Components) → IsOwn (permitted_entry i st t q s ids o)
  permitted_own q s ids None = refl
  permitted_own q s ids (Some name) = refl

  decided_own : (q : ℕ) (s : Snapshot) (v : Verdict) → Says IsOwn (decided_entry i st t q s v)
  decided_own q s (verdict.Permit n ids) = permitted_own q s ids (link_now i st s.call s.regs s.parts)
  decided_own q s (verdict.Refuse n errno) = refl
  decided_own q s verdict.Unmatched = says-unless IsOwn (is_question i st q) _ (λ e. refl)

  answered_own : (q : ℕ) (o : Option Snapshot) → Says IsOwn (answered_entry i st t q o)
  answered_own q None = tt
  answered_own q (Some s) = decided_own q s (decision_in i st s)

  held_own : (q : ℕ) (o : Option Errno) → Says IsOwn (held_entry i st t q o)
  held_own q (Some errno) = refl
  held_own q None = says-when IsOwn (st.messages q).answered _ (λ e. answered_own q (snapshot_in st q))

  pending_own : (call : SysCall) (regs : List ℕ) (way : Way) → Says IsOwn (pending_entry i st t call regs way)
  pending_own call regs Fast = unheld_own call regs (process_in st t).ids (arguments_now i st t call regs)
  pending_own call regs Untraced = unheld_own call regs (process_in st t).ids (arguments_now i st t call regs)
  pending_own call regs (Barred n) = barred_own n (st.threads t).answer
  pending_own call regs (Held first) = held_own (st.threads t).number (st.messages (st.threads t).number).fault

  running_own : (o : Option PendingCall) → Says IsOwn (running_entry i st t o)
  running_own None = next_own (st.threads t).left
  running_own (Some entered) = pending_own entered.call entered.regs entered.way

  pub thread_own : Says IsOwn (thread_entry i st t)
  thread_own = says-unless IsOwn ((st.threads t).owner == 0 || (st.threads t).ended) _ (λ runs.
      says-either IsOwn (st.threads t).dying (Some (Ended t)) (running_entry i st t (st.threads t).pending) (λ dying. refl) (λ undying. running_own (st.threads t).pending))

-- ---- the entries of workers and of the operator

abbrev IsNobodys : Entry → Type 0
IsNobodys e = thread_of e ≡ 0

module _ (i : Input) (st : State) where
  claimed_nobodys : (w : ℕ) (o : Option ℕ) → Says IsNobodys (claimed_entry w o)
  claimed_nobodys w None = tt
  claimed_nobodys w (Some q) = refl

  answer_nobodys : (w q : ℕ) (o : Option Snapshot) → Says IsNobodys (answer_entry i st w q o)
  answer_nobodys w q None = tt
  answer_nobodys w q (Some s) = refl

  working_nobodys : (w q : ℕ) (p : Progress) → Says IsNobodys (working_entry i st w q p)
  working_nobodys w q (Word part place) = refl
  working_nobodys w q (Look part name) = refl
  working_nobodys w q (Stuck errno) = refl
  working_nobodys w q (Ready args) = answer_nobodys w q (snapshot_of_progress q (st.messages q).head (Ready args))

  turn_nobodys : (w : ℕ) (o : Option ℕ) → Says IsNobodys (turn_entry i st w o)
  turn_nobodys w None = claimed_nobodys w (least_waiting st)
  turn_nobodys w (Some q) = working_nobodys w q (progress_in st q)

  worker_nobodys : (w : ℕ) → Says IsNobodys (worker_entry i st w)
  worker_nobodys w = says-when IsNobodys (is_worker i w) _ (λ e. turn_nobodys w (worker_at st w))

  reply_nobodys : (q : ℕ) (s : Snapshot) (o : Option ℕ) → Says IsNobodys (reply_entry i st q s o)
  reply_nobodys q s None = tt
  reply_nobodys q s (Some reply) = refl

  question_nobodys : (q : ℕ) (s : Snapshot) (mode : Mode) → Says IsNobodys (question_entry i st q s mode)
  question_nobodys q s Enforce = tt
  question_nobodys q s Learn = refl
  question_nobodys q s AskText = reply_nobodys q s (next_reply i st s.policy s.rule)

  asked_nobodys : (q : ℕ) (o : Option Snapshot) → Says IsNobodys (asked_entry i st q o)
  asked_nobodys q None = tt
  asked_nobodys q (Some s) = question_nobodys q s i.options.mode

  operator_nobodys : (o : Option ℕ) → Says IsNobodys (operator_entry i st o)
  operator_nobodys None = tt
  operator_nobodys (Some q) = asked_nobodys q (snapshot_in st q)

-- ---- which choice makes an entry

-- a choice that adds an entry of a thread is that thread's
pub thread_adds : (i : Input) (st : State) (c : Choice) (e : Entry) → entry_of i st c ≡ Some e → (t : ℕ) → 1 ≤ t → thread_of e ≡ t → thread_entry i st t ≡ Some e
thread_adds i st (choice.Thread u) e adds t some same =
    let own : thread_of e ≡ u = subst (Says (λ each. thread_of each ≡ u)) adds (thread_own i st u) in
    subst (λ v. thread_entry i st v ≡ Some e) (sym own ∙ same) adds
thread_adds i st (choice.Worker w) e adds t some same =
    let nobodys : thread_of e ≡ 0 = subst (Says IsNobodys) adds (worker_nobodys i st w) in
    absurd (omega (arith, some, same, nobodys))
thread_adds i st choice.Operator e adds t some same =
    let nobodys : thread_of e ≡ 0 = subst (Says IsNobodys) adds (operator_nobodys i st (least_question i st)) in
    absurd (omega (arith, some, same, nobodys))

-- a thread that adds no entry didn't make this entry
pub others_add : (i : Input) (st : State) (c : Choice) (e : Entry) → entry_of i st c ≡ Some e → (t : ℕ) → 1 ≤ t → thread_entry i st t ≡ None → thread_of e ≢ t
others_add i st c e adds t some none same = none-some e (sym none ∙ thread_adds i st c e adds t some same)
