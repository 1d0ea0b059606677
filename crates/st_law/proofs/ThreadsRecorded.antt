-- A lawful entry of a thread is the one that the thread's step adds.
use Rattle.std.proofs.Common.{◌≡◌, ◌⊎◌, ℕ, suc, Bool, true, false, cond, ◌||◌, List, [], ◌∷◌, Option, Some, None, refl, sym, ap, subst, ◌∙◌, inl, inr}
use Rattle.std.proofs.lemmas.Bool.{ne_eqb, true≢false}
use Rattle.st_base.specs.declared.errno.Errno.{Errno}
use Rattle.st_base.specs.declared.errno.Errno.TheVariants.{ELOOP}
use Rattle.st_base.specs.declared.ids.Ids.{Ids}
use Rattle.st_calls.specs.declared.argument.ArgText.{ArgText}
use Rattle.st_calls.specs.declared.call.SysCall.{SysCall}
use Rattle.st_calls.specs.declared.judged.Snapshot.{Snapshot}
use Rattle.st_calls.specs.declared.rule.FastAnswer.{FastAnswer}
use Rattle.st_names.specs.Name.{Components}
use Rattle.st_effects.specs.Effect.{effect}
use Rattle.st_effects.specs.Progress.{Progress, Word, Look, Stuck, Ready}
use Rattle.st_trace.specs.Instructions.{IsCallOf}
use Rattle.st_trace.specs.declared.entry.CallResult.{CallResult}
use Rattle.st_trace.specs.declared.entry.Cause.{Cause}
use Rattle.st_trace.specs.declared.entry.Cause.TheVariants.{Filter, NoFilter, Fault, Link}
use Rattle.st_trace.specs.declared.entry.Change.{Change}
use Rattle.st_trace.specs.declared.entry.Entry.TheVariants.{Stored, Entered, Used, Denied, Ended, Reloaded}
use Rattle.st_trace.specs.declared.entry.Way.{Way}
use Rattle.st_trace.specs.declared.entry.Way.TheVariants.{Fast, Barred, Held, Untraced}
use Rattle.st_trace.specs.declared.start.Instr.{Instr}
use Rattle.st_trace.specs.declared.start.Instr.TheVariants.{Store, Call, Fork, Reload}
use Rattle.st_law.specs.declared.input.Input.{Input}
use Rattle.st_law.specs.Lawful.{IsRunning, IsStored, IsWay, IsEntered, IsReloaded, IsEnded, IsUnheld, IsFailure, IsEffect, IsUnlinkedOutcome, IsUnheldOutcome, IsPending, IsUsedUnheld, IsDeniedBarred, IsHeld, IsJudged, IsUsedHeld, IsUsed, IsCause, IsDenied}
use Rattle.st_law.specs.Machine.{way_of_answer, entered_entry, reloaded_entry, next_instruction_entry, used_entry, failed_entry, unlinked_entry, unheld_entry, barred_entry, permitted_entry, decided_entry, answered_entry, held_entry, pending_entry, running_entry, thread_entry}
use Rattle.st_law.specs.State.{State, process_in, decision_in, answer_in, system_of, request_of, arguments_now, link_now}
use Rattle.st_law.specs.Threads.{PendingCall}
use Rattle.st_law.proofs.Invariant.{IsOpen, IfPending, Fine, Invariant}
use Rattle.st_law.proofs.ThreadSteps.{IsCopyOf, copies_of}

-- the way of a call is the one that the kernel's own answer gives
way_recorded : (traced : Bool) (next : ℕ) (way : Way) (given : FastAnswer) → IsWay traced next way given → cond traced (way_of_answer next given) Untraced ≡ way
way_recorded traced next Untraced given x = λ k. cond (x k) (way_of_answer next given) Untraced
way_recorded traced next Fast given x = λ k. cond (x.0 k) (way_of_answer next (x.1 k)) Untraced
way_recorded traced next (Barred n) given x = (λ k. cond (x.0 k) (way_of_answer next (x.3 k)) Untraced) ∙ ap Barred (sym x.1)
way_recorded traced next (Held q) given x = (λ k. cond (x.0 k) (way_of_answer next (x.2 k)) Untraced) ∙ ap Held (sym x.1)

module _ (i : Input) (st : State) (t : ℕ) where
  -- a running thread goes on, by its pending call
  goes_on : IsRunning st t → (o : Option PendingCall) → (st.threads t).pending ≡ o → thread_entry i st t ≡ running_entry i st t o
  goes_on running o e =
      λ k. cond (ne_eqb (st.threads t).owner 0 running.started k || running.unended k) None (cond (running.undying k) (Some (Ended t)) (running_entry i st t (e k)))

  -- ---- the next instruction

  pub stored_recorded : (place word : ℕ) → IsStored st t place word → thread_entry i st t ≡ Some (Stored t place word)
  stored_recorded place word x = goes_on x.running None x.idle ∙ ap (next_instruction_entry i st t) x.next

  next_recorded : (instruction : Instr) (later : List Instr) (call : SysCall) (regs : List ℕ) → IsCallOf instruction call regs → next_instruction_entry i st t (instruction ∷ later) ≡ entered_entry i st t call regs
  next_recorded (Store place word) later call regs makes = absurd makes
  next_recorded (Call own own_regs) later call regs makes = λ k. entered_entry i st t (sym makes.0 k) (sym makes.1 k)
  next_recorded (Reload n) later call regs makes = absurd makes
  next_recorded (Fork child) later call regs makes = λ k. entered_entry i st t (sym makes.0 k) (sym makes.1 k)

  pub entered_recorded : (call : SysCall) (regs : List ℕ) (way : Way) → IsEntered i st t call regs way → thread_entry i st t ≡ Some (Entered t call regs way)
  entered_recorded call regs way x =
      goes_on x.running None x.idle ∙ ap (next_instruction_entry i st t) x.next ∙ next_recorded x.instruction x.later call regs x.makes
      ∙ ap (λ each. Some (Entered t call regs each)) (way_recorded (process_in st t).traced (suc st.posted) way (answer_in i st (process_in st t) call regs) x.way_is)

  pub reloaded_recorded : (n : ℕ) (done : Bool) (changes : List Change) → IsReloaded i st t n done changes → thread_entry i st t ≡ Some (Reloaded t n done changes)
  reloaded_recorded n done changes x =
      goes_on x.running None x.idle ∙ ap (next_instruction_entry i st t) x.next ∙ ap (λ b. Some (reloaded_entry i st t n b)) (sym x.done_is)
      ∙ ap (λ cs. Some (Reloaded t n done cs)) (sym x.changes_are)

  pub ended_recorded : IsEnded st t → thread_entry i st t ≡ Some (Ended t)
  ended_recorded x = (λ k. cond (ne_eqb (st.threads t).owner 0 x.started k || x.unended k) None (cond (st.threads t).dying (Some (Ended t)) (running_entry i st t (st.threads t).pending))) ∙ by (st.threads t).dying refl x.over where
    by : (b : Bool) → (st.threads t).dying ≡ b → ((st.threads t).dying ≡ true) ⊎ (((st.threads t).left ≡ []) × ((st.threads t).pending ≡ None)) → cond b (Some (Ended t)) (running_entry i st t (st.threads t).pending) ≡ Some (Ended t)
    by true e over = refl
    by false e (inl dying) = absurd (true≢false (sym dying ∙ e))
    by false e (inr over) = ap (running_entry i st t) over.1 ∙ ap (next_instruction_entry i st t) over.0

  -- ---- entered calls

  pending_recorded : (call : SysCall) (regs : List ℕ) (way : Way) → IsRunning st t → IsPending st t call regs way → thread_entry i st t ≡ pending_entry i st t call regs way
  pending_recorded call regs way running entered = goes_on running (Some (record { call = call; regs = regs; way = way; child = entered.0 })) entered.1

  -- a call that takes effect has the result and the changes of its effect
  effect_recorded : (seq : Option ℕ) (call : SysCall) (regs : List ℕ) (args : List ArgText) (ids : Ids) (result : CallResult) (changes : List Change) → IsEffect i st t call regs ids args result changes
      → used_entry t seq call regs args ids (effect (system_of i st) call (request_of i st t regs args ids)) ≡ Used t seq call regs args ids result changes
  effect_recorded seq call regs args ids result changes x = λ k. Used t seq call regs args ids (sym x.result_is k) (sym x.changes_are k)

  -- ---- calls that aren't held

  module _ (call : SysCall) (regs : List ℕ) (ids : Ids) (args : List ArgText) (result : CallResult) (changes : List Change) where
    failed_recorded : (errno : Errno) → IsFailure errno args result changes → failed_entry t call regs ids errno ≡ Used t None call regs args ids result changes
    failed_recorded errno x = λ k. Used t None call regs (sym x.args_are k) ids (sym x.result_is k) (sym x.changes_are k)

    unlinked_recorded : (found : List ArgText) (o : Option Components) → IsUnlinkedOutcome i st t call regs ids found o args result changes → unlinked_entry i st t call regs ids found o ≡ Used t None call regs args ids result changes
    unlinked_recorded found (Some name) x = failed_recorded ELOOP x
    unlinked_recorded found None x = (λ k. used_entry t None call regs (sym x.0 k) ids (effect (system_of i st) call (request_of i st t regs (sym x.0 k) ids))) ∙ effect_recorded None call regs args ids result changes x.1

    unheld_recorded : (pr : Progress) → IsUnheldOutcome i st t call regs ids pr args result changes → unheld_entry i st t call regs ids pr ≡ Some (Used t None call regs args ids result changes)
    unheld_recorded (Word part place) x = absurd x
    unheld_recorded (Look part name) x = absurd x
    unheld_recorded (Stuck errno) x = ap Some (failed_recorded errno x)
    unheld_recorded (Ready found) x = ap Some (unlinked_recorded found (link_now i st call regs found) x)

    -- the call is made at once, under the process's own ids
    at_once : (way : Way) → IsUnheld way → pending_entry i st t call regs way ≡ unheld_entry i st t call regs (process_in st t).ids (arguments_now i st t call regs)
    at_once Fast x = refl
    at_once Untraced x = refl
    at_once (Barred n) x = absurd x
    at_once (Held q) x = absurd x

    used_unheld_recorded : IsUsedUnheld i st t call regs args ids result changes → thread_entry i st t ≡ Some (Used t None call regs args ids result changes)
    used_unheld_recorded x =
        pending_recorded call regs x.way x.running x.entered ∙ at_once x.way x.unheld ∙ ap (λ own. unheld_entry i st t call regs own (arguments_now i st t call regs)) (sym x.identity)
        ∙ unheld_recorded (arguments_now i st t call regs) x.outcome

  barred_recorded : (errno : Errno) (cause : Cause) → IsDeniedBarred i st t errno cause → thread_entry i st t ≡ Some (Denied t None errno cause)
  barred_recorded errno cause x = pending_recorded x.call x.regs (Barred 1) x.running x.entered ∙ ap (barred_entry t 1) x.refused ∙ ap (λ given. Some (Denied t None errno given)) (sym x.cause_is)

  -- ---- held calls

  held_recorded : (q : ℕ) (call : SysCall) (regs : List ℕ) → IsRunning st t → IsHeld st t q call regs → thread_entry i st t ≡ held_entry i st t q (st.messages q).fault
  held_recorded q call regs running held = pending_recorded call regs (Held held.first) running held.entered ∙ ap (λ n. held_entry i st t n (st.messages n).fault) held.number

  judged_recorded : (q : ℕ) (s : Snapshot) → IsJudged st q s → held_entry i st t q (st.messages q).fault ≡ decided_entry i st t q s (decision_in i st s)
  judged_recorded q s judged = ap (held_entry i st t q) judged.unfaulted ∙ (λ k. cond (judged.answered k) (answered_entry i st t q (judged.copies k)) None)

  used_held_recorded : (q : ℕ) (call : SysCall) (regs : List ℕ) (args : List ArgText) (ids : Ids) (result : CallResult) (changes : List Change) → IsUsedHeld i st t q call regs args ids result changes → thread_entry i st t ≡ Some (Used t (Some q) call regs args ids result changes)
  used_held_recorded q call regs args ids result changes x =
      held_recorded q call regs x.running x.held ∙ judged_recorded q x.copies x.permitted.judged ∙ ap (decided_entry i st t q x.copies) x.permitted.permitted
      ∙ ap (λ o. Some (permitted_entry i st t q x.copies ids o)) ((λ k. link_now i st (x.call_is k) (x.regs_are k) (sym x.args_are k)) ∙ x.unlinked)
      ∙ (λ k. Some (used_entry t (Some q) (x.call_is k) (x.regs_are k) (sym x.args_are k) ids (effect (system_of i st) (x.call_is k) (request_of i st t (x.regs_are k) (sym x.args_are k) ids))))
      ∙ ap Some (effect_recorded (Some q) call regs args ids result changes x.outcome)

  module _ (inv : Invariant i st) (q : ℕ) (call : SysCall) (regs : List ℕ) (running : IsRunning st t) (held : IsHeld st t q call regs) where
    -- the copies of a thread's held number have the same first link in the way as its pending call with their arguments
    same_link : (s : Snapshot) → IsJudged st q s → link_now i st s.call s.regs s.parts ≡ link_now i st call regs s.parts
    same_link s judged =
        let fine : Fine st t (record { call = call; regs = regs; way = Held held.first; child = held.entered.0 }) = subst (IfPending (Fine st t)) held.entered.1 (inv.fine t) in
        let own : IsOpen st t call regs = fine.fine running.undying in
        let copy : IsCopyOf own.head s = copies_of st q own.head (ap (λ n. (st.messages n).head) (sym held.number) ∙ own.posted) s judged.copies in
        λ k. link_now i st ((copy.call ∙ own.own.call_is) k) ((copy.regs ∙ own.own.regs_are) k) s.parts

    cause_recorded : (errno : Errno) (cause : Cause) → IsCause i st t q call regs errno cause → held_entry i st t q (st.messages q).fault ≡ Some (Denied t (Some q) errno cause)
    cause_recorded errno Fault x = ap (held_entry i st t q) x
    cause_recorded errno (Filter n) x = judged_recorded q x.0 x.1 ∙ ap (decided_entry i st t q x.0) x.2
    cause_recorded errno NoFilter x = judged_recorded q x.0 x.1 ∙ ap (decided_entry i st t q x.0) x.2 ∙ (λ k. cond (x.3 k) None (Some (Denied t (Some q) (sym x.4 k) NoFilter)))
    cause_recorded errno (Link name) x =
        judged_recorded q x.0 x.2.judged ∙ ap (decided_entry i st t q x.0) x.2.permitted
        ∙ ap (λ o. Some (permitted_entry i st t q x.0 x.1 o)) (same_link x.0 x.2.judged ∙ x.3) ∙ ap (λ given. Some (Denied t (Some q) given (Link name))) (sym x.4)

  -- ---- calls that are made or denied

  pub used_recorded : (seq : Option ℕ) (call : SysCall) (regs : List ℕ) (args : List ArgText) (ids : Ids) (result : CallResult) (changes : List Change) → IsUsed i st t seq call regs args ids result changes → thread_entry i st t ≡ Some (Used t seq call regs args ids result changes)
  used_recorded None call regs args ids result changes x = used_unheld_recorded call regs ids args result changes x
  used_recorded (Some q) call regs args ids result changes x = used_held_recorded q call regs args ids result changes x

  pub denied_recorded : Invariant i st → (seq : Option ℕ) (errno : Errno) (cause : Cause) → IsDenied i st t seq errno cause → thread_entry i st t ≡ Some (Denied t seq errno cause)
  denied_recorded inv None errno cause x = barred_recorded errno cause x
  denied_recorded inv (Some q) errno cause x = held_recorded q x.call x.regs x.running x.held ∙ cause_recorded inv q x.call x.regs x.running x.held errno cause x.cause_is
