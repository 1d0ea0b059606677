-- Each step of a thread is lawful.
use Rattle.std.proofs.Common.{◌≡◌, ◌≢◌, ◌⊎◌, ℕ, suc, Bool, true, false, cond, not, ◌||◌, ◌==◌, List, [], ◌∷◌, Option, Some, None, refl, sym, subst, ap, ◌∙◌, inl, inr}
use Rattle.std.proofs.lemmas.Bool.{eq-eqb, or_parts}
use Rattle.st_base.specs.declared.errno.Errno.{Errno}
use Rattle.st_base.specs.declared.errno.Errno.TheVariants.{ELOOP}
use Rattle.st_base.specs.declared.ids.Ids.{Ids}
use Rattle.st_calls.specs.declared.argument.ArgText.{ArgText}
use Rattle.st_calls.specs.declared.call.SysCall.{SysCall}
use Rattle.st_calls.specs.declared.call.SysCall.TheVariants as call
use Rattle.st_calls.specs.declared.judged.Snapshot.{Snapshot}
use Rattle.st_calls.specs.declared.judged.Verdict.{Verdict}
use Rattle.st_calls.specs.declared.judged.Verdict.TheVariants.{Permit, Refuse, Unmatched}
use Rattle.st_calls.specs.declared.rule.FastAnswer.{FastAnswer}
use Rattle.st_calls.specs.declared.rule.FastAnswer.TheVariants as answer
use Rattle.st_names.specs.Name.{Components}
use Rattle.st_effects.specs.Effect.{effect}
use Rattle.st_effects.specs.System.{Outcome}
use Rattle.st_trace.specs.declared.entry.CallResult.TheVariants.{Failed}
use Rattle.st_trace.specs.declared.entry.Cause.TheVariants.{Filter}
use Rattle.st_effects.specs.Progress.{Progress, Word, Look, Stuck, Ready}
use Rattle.st_trace.specs.Instructions.{IsCallOf, no_registers}
use Rattle.st_trace.specs.declared.entry.Entry.TheVariants.{Entered}
use Rattle.st_trace.specs.declared.entry.Way.{Way}
use Rattle.st_trace.specs.declared.entry.Way.TheVariants.{Fast, Barred, Held, Untraced}
use Rattle.st_trace.specs.declared.start.Instr.{Instr}
use Rattle.st_trace.specs.declared.start.Instr.TheVariants.{Store, Call, Fork, Reload}
use Rattle.st_law.specs.declared.input.Input.{Input}
use Rattle.st_law.specs.Lawful.{IsRunning, IsEnded, IsPending, IsUnheld, IsUnheldOutcome, IsUnlinkedOutcome, IsHeld, IsJudged, IsPermitted, IsLawful}
use Rattle.st_law.specs.Machine.{way_of_answer, next_instruction_entry, unlinked_entry, unheld_entry, barred_entry, permitted_entry, decided_entry, answered_entry, held_entry, pending_entry, running_entry, thread_entry}
use Rattle.st_law.specs.Messages.{Head}
use Rattle.st_law.specs.State.{State, process_in, is_live_by, snapshot_of_progress, snapshot_in, progress_in, is_live, decision_in, answer_in, is_question, system_of, request_of, arguments_now, link_now}
use Rattle.st_law.specs.Threads.{PendingCall}
use Rattle.st_law.proofs.Invariant.{IsOwn, IsOpen, IsFine, IfPending, Fine, Invariant}
use Rattle.st_law.proofs.Steps.{Says, says-unless, says-when, says-either}

nonzero : (n : ℕ) → (n == 0) ≡ false → n ≢ 0
nonzero n h e = let t : (n == 0) ≡ true = eq-eqb n 0 e in cc

-- ---- copies agree with their head

abbrev call_in : SysCall → Option Snapshot → SysCall
call_in other None = other
call_in other (Some s) = s.call

abbrev regs_in : List ℕ → Option Snapshot → List ℕ
regs_in other None = other
regs_in other (Some s) = s.regs

abbrev ids_in : Ids → Option Snapshot → Ids
ids_in other None = other
ids_in other (Some s) = s.ids

abbrev policy_in : List ℕ → Option Snapshot → List ℕ
policy_in other None = other
policy_in other (Some s) = s.policy

abbrev version_in : ℕ → Option Snapshot → ℕ
version_in other None = other
version_in other (Some s) = s.version

-- copies have the call, the registers, the ids, the policy and the version of their head
pub record IsCopyOf (head : Head) (s : Snapshot) : Type 0 where
  pub call : s.call ≡ head.call
  pub regs : s.regs ≡ head.regs
  pub ids : s.ids ≡ head.ids
  pub policy : s.policy ≡ head.policy
  pub version : s.version ≡ head.version

copy_of : (q : ℕ) (head : Head) (pr : Progress) (s : Snapshot) → snapshot_of_progress q (Some head) pr ≡ Some s → IsCopyOf head s
copy_of q head (Word part place) s e = cc
copy_of q head (Look part name) s e = cc
copy_of q head (Stuck errno) s e = cc
copy_of q head (Ready args) s e = record { call = sym (ap (call_in head.call) e); regs = sym (ap (regs_in head.regs) e); ids = sym (ap (ids_in head.ids) e); policy = sym (ap (policy_in head.policy) e); version = sym (ap (version_in head.version) e) }

pub copies_of : (st : State) (q : ℕ) (head : Head) → (st.messages q).head ≡ Some head → (s : Snapshot) → snapshot_in st q ≡ Some s → IsCopyOf head s
copies_of st q head posted s e =
    copy_of q head (progress_in st q) s (subst (λ o. snapshot_of_progress q o (progress_in st q) ≡ Some s) posted e)

module _ (i : Input) (st : State) (t : ℕ) (running : IsRunning st t) where
  -- the outcome of a call of the thread under the process's own ids
  abbrev outcome_with : SysCall → List ℕ → List ArgText → Outcome
  outcome_with call regs args = effect (system_of i st) call (request_of i st t regs args (process_in st t).ids)

  -- ---- the next instruction

  ended_by : ((st.threads t).dying ≡ true) ⊎ (((st.threads t).left ≡ []) × ((st.threads t).pending ≡ None)) → IsEnded st t
  ended_by over = record { started = running.started; unended = running.unended; over = over }

  module _ (idle : (st.threads t).pending ≡ None) (call : SysCall) (regs : List ℕ) (instruction : Instr) (later : List Instr) (next : (st.threads t).left ≡ instruction ∷ later) (makes : IsCallOf instruction call regs) where
    -- an entered call goes the way that its policy gives
    traced_by : (process_in st t).traced ≡ true → (given : FastAnswer) → answer_in i st (process_in st t) call regs ≡ given → IsLawful i st (Entered t call regs (way_of_answer (suc st.posted) given))
    traced_by traced answer.Permit e = record { running = running; idle = idle; instruction = instruction; later = later; next = next; makes = makes; way_is = (traced, e) }
    traced_by traced (answer.Refuse errno) e = record { running = running; idle = idle; instruction = instruction; later = later; next = next; makes = makes; way_is = (traced, refl, errno, e) }
    traced_by traced answer.Ask e = record { running = running; idle = idle; instruction = instruction; later = later; next = next; makes = makes; way_is = (traced, refl, e) }

    entered_by : (traced : Bool) → (process_in st t).traced ≡ traced → IsLawful i st (Entered t call regs (cond traced (way_of_answer (suc st.posted) (answer_in i st (process_in st t) call regs)) Untraced))
    entered_by true e = traced_by e (answer_in i st (process_in st t) call regs) refl
    entered_by false e = record { running = running; idle = idle; instruction = instruction; later = later; next = next; makes = makes; way_is = e }

  going_on : (st.threads t).pending ≡ None → (left : List Instr) → (st.threads t).left ≡ left → Says (IsLawful i st) (next_instruction_entry i st t left)
  going_on idle [] e = ended_by (inr (e, idle))
  going_on idle (Store place word ∷ later) e = record { running = running; idle = idle; later = later; next = e }
  going_on idle (Reload n ∷ later) e = record { running = running; idle = idle; later = later; next = e; done_is = refl; changes_are = refl }
  going_on idle (Fork child ∷ later) e = entered_by idle call.Fork no_registers (Fork child) later e (refl, refl) (process_in st t).traced refl
  going_on idle (Call call regs ∷ later) e = entered_by idle call regs (Call call regs) later e (refl, refl) (process_in st t).traced refl

  -- ---- calls that aren't held

  module _ (call : SysCall) (regs : List ℕ) (way : Way) (entered : IsPending st t call regs way) (unheld : IsUnheld way) where
    unlinked_by : (args : List ArgText) → arguments_now i st t call regs ≡ Ready args → (o : Option Components) → link_now i st call regs args ≡ o → IsLawful i st (unlinked_entry i st t call regs (process_in st t).ids args o)
    unlinked_by args e (Some name) met = record {
      running = running;
      way = way;
      entered = entered;
      unheld = unheld;
      identity = refl;
      outcome = subst (λ pr. IsUnheldOutcome i st t call regs (process_in st t).ids pr [] (Failed ELOOP) []) (sym e)
          (subst (λ o. IsUnlinkedOutcome i st t call regs (process_in st t).ids args o [] (Failed ELOOP) []) (sym met)
          (record { args_are = refl; result_is = refl; changes_are = refl }));
    }
    unlinked_by args e None met = record {
      running = running;
      way = way;
      entered = entered;
      unheld = unheld;
      identity = refl;
      outcome = subst (λ pr. IsUnheldOutcome i st t call regs (process_in st t).ids pr args (outcome_with call regs args).result (outcome_with call regs args).changes) (sym e)
          (subst (λ o. IsUnlinkedOutcome i st t call regs (process_in st t).ids args o args (outcome_with call regs args).result (outcome_with call regs args).changes) (sym met)
          (refl, record { result_is = refl; changes_are = refl }));
    }

    unheld_by : (pr : Progress) → arguments_now i st t call regs ≡ pr → Says (IsLawful i st) (unheld_entry i st t call regs (process_in st t).ids pr)
    unheld_by (Word part place) e = tt
    unheld_by (Look part name) e = tt
    unheld_by (Stuck errno) e = record {
      running = running;
      way = way;
      entered = entered;
      unheld = unheld;
      identity = refl;
      outcome = subst (λ pr. IsUnheldOutcome i st t call regs (process_in st t).ids pr [] (Failed errno) []) (sym e)
          (record { args_are = refl; result_is = refl; changes_are = refl });
    }
    unheld_by (Ready args) e = unlinked_by args e (link_now i st call regs args) refl

  -- ---- barred calls

  denied_by : (call : SysCall) (regs : List ℕ) (n : ℕ) → IsPending st t call regs (Barred n) → n ≡ 1 → (given : FastAnswer) → (st.threads t).answer ≡ given → Says (IsLawful i st) (barred_entry t n given)
  denied_by call regs n entered first answer.Permit e = tt
  denied_by call regs n entered first (answer.Refuse errno) e = record {
    running = running;
    call = call;
    regs = regs;
    entered = subst (λ m. IsPending st t call regs (Barred m)) first entered;
    refused = e;
    cause_is = λ k. Filter (first k);
  }
  denied_by call regs n entered first answer.Ask e = tt

  -- ---- held calls

  module _ (q : ℕ) (number : (st.threads t).number ≡ q) (first : ℕ) (live : is_live st q ≡ true) where
    held_with : (call : SysCall) (regs : List ℕ) → IsPending st t call regs (Held first) → IsHeld st t q call regs
    held_with call regs entered = record { first = first; entered = entered; number = number; live = live }

    module _ (s : Snapshot) (entered : IsPending st t s.call s.regs (Held first)) (identity : s.ids ≡ (process_in st t).ids) (version : s.version ≡ st.versions s.policy) (judged : IsJudged st q s) where
      permitted_by : (n : ℕ) (ids : Ids) → decision_in i st s ≡ Permit n ids → IsPermitted i st t q s ids
      permitted_by n ids e = record { judged = judged; filter = n; permitted = e; identity = identity; version = version }

      unmet_by : (n : ℕ) (ids : Ids) → decision_in i st s ≡ Permit n ids → (o : Option Components) → link_now i st s.call s.regs s.parts ≡ o → IsLawful i st (permitted_entry i st t q s ids o)
      unmet_by n ids e (Some name) met = record {
        running = running;
        call = s.call;
        regs = s.regs;
        held = held_with s.call s.regs entered;
        cause_is = (s, ids, permitted_by n ids e, met, refl);
      }
      unmet_by n ids e None met = record {
        running = running;
        held = held_with s.call s.regs entered;
        copies = s;
        permitted = permitted_by n ids e;
        call_is = refl;
        regs_are = refl;
        args_are = refl;
        unlinked = met;
        outcome = record { result_is = refl; changes_are = refl };
      }

      decided_by : (v : Verdict) → decision_in i st s ≡ v → Says (IsLawful i st) (decided_entry i st t q s v)
      decided_by (Permit n ids) e = unmet_by n ids e (link_now i st s.call s.regs s.parts) refl
      decided_by (Refuse n errno) e =
          record { running = running; call = s.call; regs = s.regs; held = held_with s.call s.regs entered; cause_is = (s, judged, e) }
      decided_by Unmatched e = says-unless (IsLawful i st) (is_question i st q) _ (λ settled.
          record { running = running; call = s.call; regs = s.regs; held = held_with s.call s.regs entered; cause_is = (s, judged, e, settled, refl) })

    answered_by : (call : SysCall) (regs : List ℕ) → IsPending st t call regs (Held first) → (head : Head) → (st.messages q).head ≡ Some head → IsOwn st t call regs head → (st.messages q).answered ≡ true → (st.messages q).fault ≡ None → (o : Option Snapshot) → snapshot_in st q ≡ o → Says (IsLawful i st) (answered_entry i st t q o)
    answered_by call regs entered head posted own answered unfaulted None e = tt
    answered_by call regs entered head posted own answered unfaulted (Some s) e =
        let copy : IsCopyOf head s = copies_of st q head posted s e in
        decided_by s (subst (λ c. IsPending st t c s.regs (Held first)) (sym (copy.call ∙ own.call_is)) (subst (λ r. IsPending st t call r (Held first)) (sym (copy.regs ∙ own.regs_are)) entered))
        (copy.ids ∙ own.ids_are) (copy.version ∙ own.version_is ∙ ap st.versions (sym copy.policy)) (record { answered = answered; unfaulted = unfaulted; copies = e }) (decision_in i st s) refl

    held_by : (call : SysCall) (regs : List ℕ) → IsPending st t call regs (Held first) → (head : Head) → (st.messages q).head ≡ Some head → IsOwn st t call regs head → (o : Option Errno) → (st.messages q).fault ≡ o → Says (IsLawful i st) (held_entry i st t q o)
    held_by call regs entered head posted own (Some errno) e =
        record { running = running; call = call; regs = regs; held = held_with call regs entered; cause_is = e }
    held_by call regs entered head posted own None e = says-when (IsLawful i st) (st.messages q).answered _ (λ answered.
        answered_by call regs entered head posted own answered e (snapshot_in st q) refl)

  pub live_of_open : (call : SysCall) (regs : List ℕ) → IsOpen st t call regs → is_live st (st.threads t).number ≡ true
  live_of_open call regs x =
      (λ k. is_live_by (x.posted k) (x.unclosed k) (λ u. (st.threads u).dying)) ∙ (λ k. not (st.threads (x.own.tid_is k)).dying) ∙ (λ k. not (running.undying k))

  finished_by : (call : SysCall) (regs : List ℕ) (way : Way) → IsPending st t call regs way → IsFine st t call regs way → Says (IsLawful i st) (pending_entry i st t call regs way)
  finished_by call regs Fast entered fine = unheld_by call regs Fast entered tt (arguments_now i st t call regs) refl
  finished_by call regs Untraced entered fine = unheld_by call regs Untraced entered tt (arguments_now i st t call regs) refl
  finished_by call regs (Barred n) entered fine = denied_by call regs n entered fine.first (st.threads t).answer refl
  finished_by call regs (Held first) entered fine =
      held_by (st.threads t).number refl first (live_of_open call regs fine) call regs entered fine.head fine.posted fine.own (st.messages (st.threads t).number).fault refl

  proceeding : Invariant i st → (o : Option PendingCall) → (st.threads t).pending ≡ o → Says (IsLawful i st) (running_entry i st t o)
  proceeding inv None e = going_on e (st.threads t).left refl
  proceeding inv (Some entered) e =
      let fine : Fine st t entered = subst (IfPending (Fine st t)) e (inv.fine t) in
      finished_by entered.call entered.regs entered.way (entered.child, e) (fine.fine running.undying)

-- the step of a thread is lawful
pub thread_step : (i : Input) (st : State) (t : ℕ) → Invariant i st → Says (IsLawful i st) (thread_entry i st t)
thread_step i st t inv = says-unless (IsLawful i st) ((st.threads t).owner == 0 || (st.threads t).ended) _ (λ alive.
    let live : (((st.threads t).owner == 0) ≡ false) × ((st.threads t).ended ≡ false) = or_parts ((st.threads t).owner == 0) (st.threads t).ended alive in
    says-either (IsLawful i st) (st.threads t).dying _ _
    (λ dying. record { started = nonzero (st.threads t).owner live.0; unended = live.1; over = inl dying })
    (λ undying. proceeding i st t (record { started = nonzero (st.threads t).owner live.0; unended = live.1; undying = undying }) inv (st.threads t).pending refl))
