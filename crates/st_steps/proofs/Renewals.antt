-- Held calls that are renewed, in a state of the law's machine: the messages, the threads and the numbers afterwards.
use native.Mathlib.Omega.{arith}
use Rattle.std.proofs.Common.{◌≡◌, ◌≢◌, ◌+◌, ◌∙◌, ℕ, suc, Bool, true, false, cond, List, [], ◌∷◌, ◌++◌, Option, Some, None, refl, ap, sym, subst}
use Rattle.std.proofs.lemmas.Option.{none-some, same_Some}
use Rattle.std.specs.List.{fold}
use Rattle.std.specs.Option.{option_map}
use Rattle.std.specs.Prelude.{slice_get}
use Rattle.st_base.specs.Numbered.{item_at_number}
use Rattle.st_effects.specs.Changes.{seq_after}
use Rattle.st_law.specs.Messages.{Head, head_after_change, posted_after_change}
use Rattle.st_law.specs.State.{State, ThreadState, is_live}
use Rattle.st_model.specs.Processes.{Processes, StartedThread, pid_of, process_at, thread_at}
use Rattle.st_reached.specs.Reached.{life_after_changes}
use Rattle.st_reached.proofs.Owning.{own_policy, own_process}
use Rattle.st_system.specs.System.{IsThreadState}
use Rattle.st_trace.specs.declared.entry.Change.{Change}
use Rattle.st_workers.specs.Numbers.{AreReady, CarriesNumbers}
use Rattle.st_workers.specs.Refinement.{head_renewed, RepresentsMachineMessages}
use Rattle.st_workers.specs.UnderWay.{UnderWay}
use Rattle.st_threads.specs.Ending.{AreLiveDrawingsHeld}
use Rattle.st_threads.specs.Renewing.{AreLiveAndDistinct, CanRenew, HaveRenewed, call_of, calls_from, cwds_of, numbers_after_renewals, pid_if, renewal_of, renewals_from, rows_renewed, is_one_of, with_call}
use Rattle.st_threads.specs.Thread.{ThreadRow, drawing_held}
use Rattle.st_threads.specs.declared.renewing.RenewedCall.{RenewedCall}
use Rattle.st_threads.specs.declared.which.WhichCalls.{WhichCalls}
use Rattle.st_threads.proofs.RenewedLaw.{AreCallsTagged, AreTagged, HaveHeads, IsCallTagged, IsRenewedAs, SameBut, calls_tagged, kept_all, live_apart, message_is, messages_after, rows_at, rows_from, rows_then, tags_from}
use Rattle.st_decide.specs.Machine.{Refines, Running}
use Rattle.st_decide.proofs.HeldCalls.{are_held}
use Rattle.st_decide.proofs.Reached.{reached_of}
use Rattle.st_steps.proofs.After.{AreRows}
use Rattle.st_steps.proofs.OwnCalls.{more_live}

-- ---- which calls are renewed

-- a thread that holds a call has started
pub holder_started : (m : Running) (st : State) → Refines m st → (u : ℕ) (row : ThreadRow) (q : ℕ) → item_at_number m.threads u ≡ Some row → drawing_held row ≡ Some q → (st.threads u).owner ≢ 0
holder_started m st is u row q at has =
    let x = (are_held m st is).lives u row q at has in
    subst (λ (n : ℕ). (st.threads n).owner ≢ 0) x.tid_is ((reached_of m.input st is.reached).owned.own q x.head x.lives x.posted).started

-- a process that is chosen for a thread is the thread's
pub chosen : (processes : Processes) (which : WhichCalls) (t : ℕ) (o : Option ℕ) (pid : ℕ) → pid_if processes which t o ≡ Some pid → (o ≡ Some pid) × (is_one_of processes which t pid ≡ true)
chosen processes which t None pid e = absurd (none-some pid e)
chosen processes which t (Some own) pid e = by (is_one_of processes which t own) refl e where
  by : (b : Bool) → is_one_of processes which t own ≡ b → cond b (Some own) None ≡ Some pid → (Some own ≡ Some pid) × (is_one_of processes which t pid ≡ true)
  by true is e = (e, subst (λ (p : ℕ). is_one_of processes which t p ≡ true) (same_Some own pid e) is)
  by false is e = absurd (none-some pid e)

-- the process of a thread that has started
pub started_pid : (processes : Processes) (u : ℕ) (thread : ThreadState) → IsThreadState (thread_at processes u) thread → thread.owner ≢ 0 → pid_of processes u ≡ Some thread.owner
started_pid processes u thread is started = by (thread_at processes u) is where
  by : (o : Option StartedThread) → IsThreadState o thread → option_map (λ (x : StartedThread). x.pid) o ≡ Some thread.owner
  by None x = absurd (started x.0)
  by (Some other) x = ap Some (sym x.0)

-- and the other way round
pub pid_started : (processes : Processes) (u : ℕ) (thread : ThreadState) → IsThreadState (thread_at processes u) thread → (pid : ℕ) → pid_of processes u ≡ Some pid → thread.owner ≡ pid
pid_started processes u thread is pid e = by (thread_at processes u) is e where
  by : (o : Option StartedThread) → IsThreadState o thread → option_map (λ (x : StartedThread). x.pid) o ≡ Some pid → thread.owner ≡ pid
  by None x e = absurd (none-some pid e)
  by (Some other) x e = x.0 ∙ same_Some other.pid pid e

none_call : (pid : Option ℕ) → call_of pid None ≡ None
none_call None = refl
none_call (Some pid) = refl

same_call : (a b drawing : Option ℕ) → ((q : ℕ) → drawing ≡ Some q → a ≡ b) → call_of a drawing ≡ call_of b drawing
same_call a b None same = none_call a ∙ sym (none_call b)
same_call a b (Some q) same = ap (λ (o : Option ℕ). call_of o (Some q)) (same q refl)

-- the calls are the same if the threads that hold calls have the same processes
pub same_calls : (a b : ℕ → Option ℕ) (rows : List ThreadRow) (u : ℕ) → ((k v : ℕ) (row : ThreadRow) (q : ℕ) → v ≡ k + u → slice_get rows k ≡ Some row → drawing_held row ≡ Some q → a v ≡ b v) → calls_from a u rows ≡ calls_from b u rows
same_calls a b [] u same = refl
same_calls a b (row ∷ rows) u same = λ k.
    with_call (same_call (a u) (b u) (drawing_held row) (λ q held. same 0 u row q (omega arith) refl held) k)
    (same_calls a b rows (suc u) (λ n v other q e at held. same (suc n) v other q (omega (arith, e)) at held) k)

-- the copies of directories are the same if each process has the same directory
pub same_cwds : (a b : Processes) → ((p : ℕ) → (process_at a p).cwd ≡ (process_at b p).cwd) → (calls : List RenewedCall) → cwds_of a calls ≡ cwds_of b calls
same_cwds a b same [] = refl
same_cwds a b same (call ∷ calls) = λ k. same_cwds a b same calls k ++ same call.pid k ∷ []

-- ---- how they are renewed

module _ (m : Running) (st : State) (is : Refines m st) (rows : List ThreadRow) (threads : ℕ → ThreadState) (rows_are : AreRows rows threads) (alive : ℕ → Bool) (still : (q : ℕ) → alive q ≡ true → is_live st q ≡ true) (held : AreLiveDrawingsHeld st alive rows)
    (processes : Processes) (pids : ℕ → Option ℕ) (owned : (t pid : ℕ) → pids t ≡ Some pid → (st.threads t).owner ≡ pid) (version : ℕ) where
  abbrev calls : List RenewedCall
  calls = calls_from pids 1 rows

  abbrev changes : List Change
  changes = renewals_from (suc st.posted) calls

  abbrev heads : ℕ → Option Head
  heads q = (st.messages q).head

  abbrev tid_of : Option Head → ℕ
  tid_of None = 0
  tid_of (Some head) = head.tid

  abbrev owner : ℕ → ℕ
  owner q = tid_of (heads q)

  tags : AreTagged owner alive (suc st.posted) 1 rows
  tags = tags_from owner alive (suc st.posted) rows (λ u other q at has.
      let x = held.lives u other q at has in
      let low = (is.workers.agrees.given q (still q x.lives)).1 in
      record { live = x.lives; tid = ap tid_of x.posted ∙ x.tid_is; below = omega (arith, low) })

  -- the calls are live, and no two have the same drawing
  pub live_then : AreLiveAndDistinct alive calls
  live_then = live_apart pids owner alive (suc st.posted) rows 1 tags

  -- the calls can be renewed
  pub can_renew : CanRenew m.workers calls
  can_renew = record { input = m.input; state = st; alive = is_live st; kept = is.workers; live = more_live alive (is_live st) still calls live_then }

  next_is : m.workers.calls.next ≡ suc st.posted
  next_is = is.workers.agrees.next

  -- each row has the drawing that the changes give
  pub rows_after : (after : ℕ → ThreadState) → ((u : ℕ) → u ≢ 0 → SameBut (λ q. seq_after q changes) (threads u) (after u)) → (new : List ThreadRow) → new ≡ rows_renewed pids m.workers.calls.next 1 rows → AreRows new after
  rows_after after same new new_is = subst (λ (some : List ThreadRow). AreRows some after) (sym new_is)
      (rows_at after (rows_renewed pids m.workers.calls.next 1 rows)
      (rows_then pids owner alive (suc st.posted) (λ q. seq_after q changes) threads after same rows 1 m.workers.calls.next (λ none. omega (arith, none)) (let e = next_is in omega (arith, e)) tags
      (λ q over k. seq_after q (renewals_from (sym next_is k) calls)) (rows_from threads rows rows_are)))

  -- ---- the heads of the messages

  -- the head of a call is of the process that is chosen, and under its policy
  own : (call : RenewedCall) → IsCallTagged pids owner alive (suc st.posted) call → (head : Head) → heads call.drawing ≡ Some head → (head.pid ≡ call.pid) × (head.policy ≡ (st.processes call.pid).policy)
  own call x head posted =
      let reached = reached_of m.input st is.reached in
      let live : is_live st call.drawing ≡ true = still call.drawing x.tag.live in
      let tid : head.tid ≡ x.tid = ap tid_of (sym posted) ∙ x.tag.tid in
      let pid : (st.threads head.tid).owner ≡ call.pid = ap (λ (t : ℕ). (st.threads t).owner) tid ∙ owned x.tid call.pid x.pid in (
        own_process st reached.owned m.input reached.whole.calls call.drawing head live posted ∙ pid,
        own_policy st reached.owned m.input reached.whole.calls call.drawing head live posted ∙ ap (λ (p : ℕ). (st.processes p).policy) pid,
      )

  -- a renewal changes each such head by this function
  module _ (renewed : Head → Head) (renews : (call : RenewedCall) (t : ℕ) → pids t ≡ Some call.pid → (head : Head) → head.pid ≡ call.pid → head.policy ≡ (st.processes call.pid).policy → head_renewed (renewal_of processes version call) head ≡ renewed head) where
    one_head : (call : RenewedCall) → IsCallTagged pids owner alive (suc st.posted) call → IsRenewedAs heads renewed processes version call
    one_head call x = by (heads call.drawing) refl where
      by : (o : Option Head) → heads call.drawing ≡ o → option_map (head_renewed (renewal_of processes version call)) o ≡ option_map renewed o
      by None e = refl
      by (Some head) e = let its = own call x head e in ap Some (renews call x.tid x.pid head its.0 its.1)

    have_heads : (some : List RenewedCall) → AreCallsTagged pids owner alive (suc st.posted) some → HaveHeads heads renewed processes version st.posted st.messages some
    have_heads [] x = tt
    have_heads (call ∷ some) x = (refl, (let below = x.0.tag.below in omega (arith, below)), one_head call x.0, have_heads some x.1)

    -- each message has the head that the changes give it
    pub heads_after : (q : ℕ) → messages_after processes version calls st.posted st.messages q ≡ record (st.messages q) { head = fold (head_after_change heads renewed q) (heads q) changes }
    heads_after q = message_is heads renewed processes version st.posted calls st.posted st.messages (omega arith) (have_heads calls (calls_tagged pids owner alive (suc st.posted) rows 1 tags)) q

  -- ---- after they are renewed

  module _ (new : List ThreadRow) (between : UnderWay) (have : HaveRenewed processes pids version rows m.workers new between) where
    -- the messages and workers represent the state with the renewed messages, whichever process has made the changes
    pub kept_renewed : (p : ℕ) → RepresentsMachineMessages m.input (messages_after processes version calls st.posted st.messages) st.turns (life_after_changes st p (is_live st) changes) (fold posted_after_change st.posted changes) between
    kept_renewed p = kept_all m.input st.turns processes version st p calls st.messages (is_live st) st.posted m.workers between is.workers have.all

    -- the renewals draw numbers as the law says
    pub numbers_drawn : (ready : ℕ → Bool) → AreReady ready m.workers → CarriesNumbers (numbers_after_renewals ready changes) m.workers.calls between.calls
    numbers_drawn ready are = subst (λ (n : ℕ). CarriesNumbers (numbers_after_renewals ready (renewals_from n calls)) m.workers.calls between.calls) next_is (have.numbers ready are)
