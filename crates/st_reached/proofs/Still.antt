-- A thread adds no entry exactly when it is still.
use Rattle.std.proofs.Common.{◌≡◌, ℕ, Bool, true, false, cond, ◌&&◌, ◌||◌, ◌==◌, List, [], ◌∷◌, Option, Some, None, refl, sym, ap, subst, ◌∙◌}
use Rattle.std.proofs.lemmas.Bool.{and_parts, eq-eqb, eqb-true, or_left, or_right}
use Rattle.std.proofs.lemmas.Option.{none-some}
use Rattle.st_base.specs.declared.errno.Errno.{Errno}
use Rattle.st_base.specs.declared.errno.Errno.TheVariants.{EPERM}
use Rattle.st_calls.specs.Call.{rule_of}
use Rattle.st_calls.specs.declared.call.SysCall.{SysCall}
use Rattle.st_calls.specs.declared.judged.Snapshot.{Snapshot}
use Rattle.st_calls.specs.declared.judged.Verdict.{Verdict}
use Rattle.st_calls.specs.declared.judged.Verdict.TheVariants.{Permit, Refuse, Unmatched}
use Rattle.st_effects.specs.Progress.{Progress, Word, Look, Stuck, Ready}
use Rattle.st_trace.specs.declared.entry.Cause.TheVariants.{NoFilter}
use Rattle.st_trace.specs.declared.entry.Entry.{Entry}
use Rattle.st_trace.specs.declared.entry.Entry.TheVariants.{Denied, Ended}
use Rattle.st_trace.specs.declared.entry.Way.{Way}
use Rattle.st_trace.specs.declared.entry.Way.TheVariants.{Fast, Barred, Held, Untraced}
use Rattle.st_trace.specs.declared.start.Instr.{Instr}
use Rattle.st_trace.specs.declared.start.Instr.TheVariants.{Store, Call, Fork, Reload}
use Rattle.st_law.specs.declared.input.Input.{Input}
use Rattle.st_law.specs.Machine.{answered_entry, barred_entry, decided_entry, held_entry, next_instruction_entry, pending_entry, running_entry, thread_entry, unheld_entry}
use Rattle.st_law.specs.State.{State, arguments_now, decision_in, is_live, is_open_question, is_question, process_in, snapshot_in}
use Rattle.st_law.specs.Threads.{PendingCall}
use Rattle.st_law.proofs.Invariant.{Fine, IfPending, IsFine}
use Rattle.st_law.proofs.Learning.{question_undecided}
use Rattle.st_law.proofs.Progressing.{Is, arguments_end}
use Rattle.st_law.proofs.Whole.{Whole}
use Rattle.st_reached.specs.Waiting.{WaitsForOperator, IsAwaiting, IsStill, asking, awaiting, ended, unstarted}

-- a question was answered by a worker
pub question_answered : (i : Input) (st : State) (q : ℕ) → is_question i st q ≡ true → (st.messages q).answered ≡ true
question_answered i st q e = (and_parts (is_live st q) (st.messages q).answered (and_parts (is_live st q && (st.messages q).answered) (is_open_question i st (snapshot_in st q)) e).0).1

-- ---- a still thread adds no entry

module _ (i : Input) (st : State) (t : ℕ) where
  abbrev goes_on : Option Entry
  goes_on = cond (st.threads t).dying (Some (Ended t)) (running_entry i st t (st.threads t).pending)

  stopped : ((st.threads t).owner == 0 || (st.threads t).ended) ≡ true → thread_entry i st t ≡ None
  stopped is = ap (λ b. cond b None goes_on) is

  awaiting_none : IsAwaiting st t → thread_entry i st t ≡ None
  awaiting_none x = by ((st.threads t).owner == 0 || (st.threads t).ended) where
    by : (b : Bool) → cond b None goes_on ≡ None
    by true = refl
    by false =
        (λ k. cond (x.undying k) (Some (Ended t)) (running_entry i st t (x.pending k)))
        ∙ ap (pending_entry i st t x.entered.call x.entered.regs) x.way
        ∙ ap (held_entry i st t (st.threads t).number) x.unfaulted
        ∙ ap (λ b. cond b (answered_entry i st t (st.threads t).number (snapshot_in st (st.threads t).number)) None) x.unanswered

  -- a question waits for the operator
  question_none : (q : ℕ) → is_question i st q ≡ true → (o : Option Snapshot) → snapshot_in st q ≡ o → answered_entry i st t q o ≡ None
  question_none q question None copies = refl
  question_none q question (Some s) copies = ap (decided_entry i st t q s) (question_undecided i st q s question copies) ∙ ap (λ b. cond b None (Some (Denied t (Some q) EPERM NoFilter))) question

  asking_none : WaitsForOperator i st t → thread_entry i st t ≡ None
  asking_none x = by ((st.threads t).owner == 0 || (st.threads t).ended) where
    answered : (st.messages (st.threads t).number).answered ≡ true
    answered = question_answered i st (st.threads t).number x.question

    by : (b : Bool) → cond b None goes_on ≡ None
    by true = refl
    by false =
        (λ k. cond (x.undying k) (Some (Ended t)) (running_entry i st t (x.pending k)))
        ∙ ap (pending_entry i st t x.entered.call x.entered.regs) x.way
        ∙ ap (held_entry i st t (st.threads t).number) x.unfaulted
        ∙ ap (λ b. cond b (answered_entry i st t (st.threads t).number (snapshot_in st (st.threads t).number)) None) answered
        ∙ question_none (st.threads t).number x.question (snapshot_in st (st.threads t).number) refl

  pub still_none : IsStill i st t → thread_entry i st t ≡ None
  still_none (asking x) = asking_none x
  still_none (unstarted is) = stopped (or_left ((st.threads t).owner == 0) (st.threads t).ended (eq-eqb (st.threads t).owner 0 is))
  still_none (ended is) = stopped (or_right ((st.threads t).owner == 0) (st.threads t).ended is)
  still_none (awaiting x) = awaiting_none x

-- ---- every other thread adds an entry

-- an option with an entry isn't none
pub something : (A : Type 0) (o : Option Entry) → Is o → o ≡ None → A
something A o x none = absurd (none-some x.0 (sym none ∙ x.1))

-- arguments that are complete, or have a fault
abbrev Ends : Progress → Type 0
Ends (Word part place) = ⊥
Ends (Look part name) = ⊥
Ends (Stuck errno) = Unit {0}
Ends (Ready args) = Unit {0}

module _ (i : Input) (st : State) (whole : Whole i st) (t : ℕ) where
  next_is : (left : List Instr) → Is (next_instruction_entry i st t left)
  next_is [] = (_, refl)
  next_is (Store place word ∷ later) = (_, refl)
  next_is (Call call regs ∷ later) = (_, refl)
  next_is (Fork child ∷ later) = (_, refl)
  next_is (Reload n ∷ later) = (_, refl)

  unheld_is : (call : SysCall) (regs : List ℕ) (pr : Progress) → Ends pr → Is (unheld_entry i st t call regs (process_in st t).ids pr)
  unheld_is call regs (Word part place) x = absurd x
  unheld_is call regs (Look part name) x = absurd x
  unheld_is call regs (Stuck errno) x = (_, refl)
  unheld_is call regs (Ready args) x = (_, refl)

  unheld_now : (call : SysCall) (regs : List ℕ) → Is (unheld_entry i st t call regs (process_in st t).ids (arguments_now i st t call regs))
  unheld_now call regs = unheld_is call regs (arguments_now i st t call regs)
      (arguments_end (record { rule = rule_of call regs i.options.aliasing; call = call; regs = regs; cwd = (process_in st t).cwd }) (record { bytes = st.memory (process_in st t).space; tree = st.tree }))

  -- if a verdict gives no entry, the thread has a question
  decided_asks : (q : ℕ) (s : Snapshot) (v : Verdict) → decided_entry i st t q s v ≡ None → is_question i st q ≡ true
  decided_asks q s (Permit n ids) none = something (is_question i st q ≡ true) (decided_entry i st t q s (Permit n ids)) (_, refl) none
  decided_asks q s (Refuse n errno) none = something (is_question i st q ≡ true) (decided_entry i st t q s (Refuse n errno)) (_, refl) none
  decided_asks q s Unmatched none = by (is_question i st q) refl none where
    by : (b : Bool) → is_question i st q ≡ b → cond b None (Some (Denied t (Some q) EPERM NoFilter)) ≡ None → is_question i st q ≡ true
    by true is none = is
    by false is none = something (is_question i st q ≡ true) (Some (Denied t (Some q) EPERM NoFilter)) (_, refl) none

  -- an answered message has its copies
  answered_asks : (q : ℕ) → (st.messages q).answered ≡ true → answered_entry i st t q (snapshot_in st q) ≡ None → is_question i st q ≡ true
  answered_asks q is none =
      let copies : (s : Snapshot) × (snapshot_in st q ≡ Some s) = whole.turns.ready q is in
      decided_asks q copies.0 (decision_in i st copies.0) (sym (ap (answered_entry i st t q) copies.1) ∙ none)

  -- ---- by the pending call of a thread that isn't dying

  module _ (undying : (st.threads t).dying ≡ false) (entered : PendingCall) (pending : (st.threads t).pending ≡ Some entered) where
    abbrev q : ℕ
    q = (st.threads t).number

    answered_still : (first : ℕ) → entered.way ≡ Held first → (st.messages q).fault ≡ None → (b : Bool) → (st.messages q).answered ≡ b → cond b (answered_entry i st t q (snapshot_in st q)) None ≡ None → IsStill i st t
    answered_still first way unfaulted true is none =
        asking (record { undying = undying; entered = entered; pending = pending; first = first; way = way; unfaulted = unfaulted; question = answered_asks q is none })
    answered_still first way unfaulted false is none =
        awaiting (record { undying = undying; entered = entered; pending = pending; first = first; way = way; unfaulted = unfaulted; unanswered = is })

    held_still : (first : ℕ) → entered.way ≡ Held first → (o : Option Errno) → (st.messages q).fault ≡ o → held_entry i st t q o ≡ None → IsStill i st t
    held_still first way (Some errno) is none = something (IsStill i st t) (held_entry i st t q (Some errno)) (_, refl) none
    held_still first way None is none = answered_still first way is (st.messages q).answered refl none

    way_still : (way : Way) → entered.way ≡ way → IsFine st t entered.call entered.regs way → pending_entry i st t entered.call entered.regs way ≡ None → IsStill i st t
    way_still Fast is fine none = something (IsStill i st t) (pending_entry i st t entered.call entered.regs Fast) (unheld_now entered.call entered.regs) none
    way_still Untraced is fine none = something (IsStill i st t) (pending_entry i st t entered.call entered.regs Untraced) (unheld_now entered.call entered.regs) none
    way_still (Barred n) is fine none = something (IsStill i st t) (pending_entry i st t entered.call entered.regs (Barred n)) (_, ap (barred_entry t n) fine.refused) none
    way_still (Held first) is fine none = held_still first is (st.messages q).fault refl none

  pending_still : (st.threads t).dying ≡ false → (o : Option PendingCall) → (st.threads t).pending ≡ o → running_entry i st t o ≡ None → IsStill i st t
  pending_still undying None is none = something (IsStill i st t) (next_instruction_entry i st t (st.threads t).left) (next_is (st.threads t).left) none
  pending_still undying (Some entered) is none =
      let fine : Fine st t entered = subst (IfPending (Fine st t)) is (whole.calls.fine t) in
      way_still undying entered is entered.way refl (fine.fine undying) none

  dying_still : (b : Bool) → (st.threads t).dying ≡ b → cond b (Some (Ended t)) (running_entry i st t (st.threads t).pending) ≡ None → IsStill i st t
  dying_still true is none = something (IsStill i st t) (Some (Ended t)) (_, refl) none
  dying_still false is none = pending_still is (st.threads t).pending refl none

  ended_still : (b : Bool) → (st.threads t).ended ≡ b → cond b None (goes_on i st t) ≡ None → IsStill i st t
  ended_still true is none = ended is
  ended_still false is none = dying_still (st.threads t).dying refl none

  started_still : (b : Bool) → ((st.threads t).owner == 0) ≡ b → cond (b || (st.threads t).ended) None (goes_on i st t) ≡ None → IsStill i st t
  started_still true is none = unstarted (eqb-true (st.threads t).owner 0 is)
  started_still false is none = ended_still (st.threads t).ended refl none

  pub none_still : thread_entry i st t ≡ None → IsStill i st t
  none_still none = started_still ((st.threads t).owner == 0) refl none
