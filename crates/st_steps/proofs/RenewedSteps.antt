-- The step that makes a call that sets ids.
use native.Mathlib.Omega.{arith}
use Rattle.std.proofs.Common.{◌≡◌, ◌≢◌, ◌≤◌, ◌<◌, ◌+◌, ◌-◌, ◌^◌, ◌∙◌, ℕ, zero, suc, ◌&&◌, ◌==◌, not, Bool, true, false, cond, set, List, ◌∷◌, length, Option, Some, None, refl, ap, sym, subst}
use Rattle.std.proofs.lemmas.Bool.{and_parts, eq-eqb, eqb-true, ne_eqb, true≢false}
use Rattle.std.proofs.lemmas.List.{length-set}
use Rattle.std.proofs.lemmas.Option.{none-some}
use Rattle.std.specs.List.{fold}
use Rattle.std.specs.Prelude.{slice_index_or, IfSome}
use Rattle.st_base.specs.Numbered.{item_at_number}
use Rattle.st_base.specs.declared.ids.Ids.{Ids}
use Rattle.st_calls.specs.Call.{sets_ids}
use Rattle.st_effects.specs.Changes.{dying_after_change, owner_after_change, process_after, process_after_change, seq_after}
use Rattle.st_effects.specs.Effect.{effect}
use Rattle.st_effects.specs.Processes.{is_other_of, renewals}
use Rattle.st_effects.specs.System as effects
use Rattle.st_law.specs.declared.input.Input.{Input}
use Rattle.st_law.specs.Lawful.{IsUsed}
use Rattle.st_law.specs.Machine.{entry_of, state_after, thread_after}
use Rattle.st_law.specs.Messages.{Head, head_after_change, posted_after_change, renewed_head}
use Rattle.st_law.specs.Schedules as schedules
use Rattle.st_law.specs.State.{Message, State, ThreadState, held_from, is_live, request_of, system_of, thread_count}
use Rattle.st_messages.specs.Messages as calls
use Rattle.st_model.specs.Identity.{ids_after_set, set_refused}
use Rattle.st_model.specs.Process.{Process}
use Rattle.st_model.specs.Processes.{Processes, pid_of, process_at}
use Rattle.st_model.specs.Tree.{is_number}
use Rattle.st_reached.specs.Reached.{life_after_changes, most_numbers}
use Rattle.st_reached.proofs.LifeByEntry.{life_is}
use Rattle.st_reached.proofs.NumbersDrawn.{few_drawn}
use Rattle.st_reached.proofs.Reached.{lawful_entry}
use Rattle.st_request.specs.declared.outcome.Outcome.{Outcome}
use Rattle.st_system.specs.Steps.{IsCallMade, IsMade, with_renewals}
use Rattle.st_system.specs.System.{IsSystem, Parts}
use Rattle.st_trace.specs.declared.entry.Change.{Change}
use Rattle.st_trace.specs.declared.entry.Change.TheVariants.{SetIds}
use Rattle.st_trace.specs.declared.entry.Choice.TheVariants as choice
use Rattle.st_trace.specs.declared.entry.Entry.{Entry}
use Rattle.st_trace.specs.declared.entry.Entry.TheVariants.{Used}
use Rattle.st_workers.specs.Numbers.{CarriesEntry, CarriesNumbers, KeepsNumbers}
use Rattle.st_workers.specs.Refinement.{head_renewed, RepresentsMachineMessages, RepresentsMessages}
use Rattle.st_workers.specs.UnderWay.{UnderWay}
use Rattle.st_workers.proofs.Closing.{closing_is_not_kept}
use Rattle.st_workers.proofs.Ended.{lives_as}
use Rattle.st_threads.specs.Ending.{EndsCall, life_without_number}
use Rattle.st_decide.specs.Machine.{Refines, IsDrawnStep, Running}
use Rattle.st_decide.specs.Making.{request_with}
use Rattle.st_decide.specs.NextSteps.{CanStep}
use Rattle.st_threads.specs.Thread.{ThreadRow, IsRow}
use Rattle.st_decide.specs.declared.step.Step.TheVariants as steps
use Rattle.st_decide.specs.declared.step.ReadyCall.{ReadyCall}
use Rattle.st_steps.proofs.After.{AreRows, following, rows_changed, with_parts}
use Rattle.st_steps.proofs.MadeSteps.{are_closed, drawing_lives, has_child, now, request_is, used}
use Rattle.st_steps.proofs.OwnCalls.{ends_after, lives_on, none_of_live}
use Rattle.st_decide.proofs.NextSteps.{owner_is, row_of}
use Rattle.st_decide.proofs.Reached.{reached_of}
use Rattle.st_threads.specs.Ending.{AreLiveDrawingsHeld}
use Rattle.st_threads.specs.Renewing.{CanRenew, HaveRenewed, AreOthers, calls_from, cwds_of, numbers_after_renewals, pid_if, pids_of, renewal_of, renewals_from}
use Rattle.st_threads.specs.declared.renewing.RenewedCall.{RenewedCall}
use Rattle.st_threads.specs.declared.which.WhichCalls.{WhichCalls}
use Rattle.st_threads.specs.declared.which.WhichCalls.TheVariants.{OthersOf}
use Rattle.st_threads.proofs.RenewedLaw.{ArePicked, SameBut, count_renewed, law_renewals, messages_after, picked_from, renewals_leave, rows_from, set_calls}
use Rattle.st_steps.proofs.Renewals.{can_renew, chosen, heads_after, holder_started, kept_renewed, live_then, numbers_drawn, pid_started, rows_after, same_calls, same_cwds, started_pid}
use Rattle.st_steps.proofs.Room.{fewer_renew}
use Rattle.st_steps.proofs.SettingIds.{changes_set}
use Rattle.st_threads.proofs.Rows.{none_closed}

-- ---- the step, by its changes

module _ (m : Running) (st : State) (is : Refines m st) (t : ℕ) (ready : ReadyCall) (can : CanStep m t (steps.Make ready)) (row : ThreadRow) (row_is : item_at_number m.threads t ≡ Some row) where
  abbrev input : Input
  input = m.input

  abbrev closed : List ThreadRow
  closed = set m.threads (t - 1) (record row { pending = None })

  abbrev alive : ℕ → Bool
  alive = life_without_number (is_live st) ready.drawing

  -- the threads after the caller's call was made
  abbrev closed_threads : ℕ → ThreadState
  closed_threads u = record (st.threads u) { pending = cond (t == u) None (st.threads u).pending }

  closed_rows : AreRows closed closed_threads
  closed_rows =
      let its : IsRow row (st.threads t) = row_of m st is t row row_is in
      rows_changed m.threads st.threads closed_threads t row (record row { pending = None }) row_is
      (λ u ne. record { left = refl; pending = ap (λ (b : Bool). cond b None (st.threads u).pending) (ne_eqb t u (λ e. ne (sym e))); answer = refl; number = refl; dying = refl; ended = refl })
      (record { left = its.left; pending = ap (λ (b : Bool). cond b None (st.threads t).pending) (eq-eqb t t refl); answer = λ entered n e w. absurd (none-some entered e); number = λ q e. absurd (none-some q (sym (none_closed row) ∙ e)); dying = its.dying; ended = its.ended }) is.threads

  own_pid : (st.threads t).owner ≡ ready.pid
  own_pid = owner_is m st is t ready.pid can.can.caller.process

  module _ (outcome : Outcome) (parts : Parts) (done_is : IsCallMade ready.call (request_with m t ready) outcome m.system parts) (changes : List Change) (effect_is : (effect (system_of m.input st) ready.call (request_of m.input st t ready.regs ready.args ready.ids)).changes ≡ changes) where
    abbrev entry : Entry
    entry = Used t ready.drawing ready.call ready.regs ready.args ready.ids outcome.result changes

    request : request_with m t ready ≡ request_of input st t ready.regs ready.args ready.ids
    request = request_is m st is t ready can row row_is

    is_made : IsMade input st ready.drawing ready.call (request_with m t ready) outcome parts
    is_made = done_is input st is.system request
        (has_child m st is t ready can row row_is ready.drawing ready.call ready.regs (now m st is t ready can row row_is) (used m st is t ready can row row_is)) ready.drawing

    full : with_renewals input st ready.call (request_with m t ready) outcome.result outcome.changes ≡ changes
    full = is_made.changes ∙ ap (λ (r : effects.Request). (effect (system_of input st) ready.call r).changes) request ∙ effect_is

    pub entry_is : entry_of input st (choice.Thread t) ≡ Some entry
    entry_is =
        let result = ap (λ (r : effects.Request). (effect (system_of input st) ready.call r).result) (sym request) ∙ sym is_made.result in
        can.next st is ∙ (λ k. Some (Used t ready.drawing ready.call ready.regs ready.args ready.ids (result k) (effect_is k)))

    law : IsUsed input st t ready.drawing ready.call ready.regs ready.args ready.ids outcome.result changes
    law = lawful_entry input st (reached_of input st is.reached) (choice.Thread t) entry entry_is

    is_system : IsSystem input (state_after input st entry) parts
    is_system = subst (λ (cs : List Change). IsSystem input (state_after input st (Used t ready.drawing ready.call ready.regs ready.args ready.ids outcome.result cs)) parts) full is_made.system

    lives : is_live (state_after input st entry) ≡ life_after_changes st (st.threads t).owner alive changes
    lives = λ k other. life_is input st (reached_of input st is.reached) t ready.drawing ready.call ready.regs ready.args ready.ids outcome.result changes law other k

  -- ---- the call succeeds

  abbrev which : WhichCalls
  which = OthersOf (record { pid = ready.pid; tid = t })

  -- the process of each thread whose held call is renewed, before the call is made
  abbrev first_pids : ℕ → Option ℕ
  first_pids = pids_of m.system.processes which

  abbrev ns : List RenewedCall
  ns = calls_from first_pids 1 m.threads

  -- the caller's own call isn't renewed
  not_own : (processes : Processes) (o : Option ℕ) → pid_if processes which t o ≡ None
  not_own processes None = refl
  not_own processes (Some pid) = ap (λ (b : Bool). cond (pid == ready.pid && not b) (Some pid) None) (eq-eqb t t refl) ∙ never (pid == ready.pid) where
    never : (b : Bool) → cond (b && false) (Some pid) None ≡ None
    never true = refl
    never false = refl

  module _ (outcome : Outcome) (parts : Parts) (done_is : IsCallMade ready.call (request_with m t ready) outcome m.system parts) (given : Ids)
      (effect_is : (effect (system_of m.input st) ready.call (request_of m.input st t ready.regs ready.args ready.ids)).changes ≡ SetIds given ∷ renewals (st.threads t).owner t (suc st.posted) (held_from st 1 (thread_count m.input))) where
    abbrev known : List Change
    known = SetIds given ∷ renewals_from (suc st.posted) ns

    -- the calls that the law renews are those of the other threads of the process
    picked : ArePicked first_pids (is_other_of (st.threads t).owner t) (λ u. (st.threads u).owner) 1 m.threads
    picked = picked_from first_pids (is_other_of (st.threads t).owner t) (λ u. (st.threads u).owner) m.threads (λ u other q at held.
        ap (pid_if m.system.processes which u) (started_pid m.system.processes u (st.threads u) (is.system.threads u) (holder_started m st is u other q at held))
        ∙ (λ k. cond ((st.threads u).owner == sym own_pid k && not (u == t)) (Some (st.threads u).owner) None))

    known_is : (effect (system_of input st) ready.call (request_of input st t ready.regs ready.args ready.ids)).changes ≡ known
    known_is = effect_is ∙ (λ k. SetIds given ∷ renewals (st.threads t).owner t (suc st.posted) (held_from st 1 (sym is.count k)))
        ∙ ap (λ (cs : List Change). SetIds given ∷ cs) (law_renewals first_pids (is_other_of (st.threads t).owner t) st m.threads 1 (suc st.posted) picked (rows_from st.threads m.threads is.threads))

    abbrev entry_set : Entry
    entry_set = Used t ready.drawing ready.call ready.regs ready.args ready.ids outcome.result known

    system_then : IsSystem input (state_after input st entry_set) parts
    system_then = is_system outcome parts done_is known known_is

    abbrev then : State
    then = state_after input st entry_set

    owner_then : (u : ℕ) → (then.threads u).owner ≡ (st.threads u).owner
    owner_then u = renewals_leave (owner_after_change u) (λ o old fresh. refl) (st.threads u).owner (suc st.posted) ns

    -- the process of each thread whose held call is renewed, once the call is made
    abbrev pids : ℕ → Option ℕ
    pids = pids_of parts.processes which

    abbrev renewed_calls : List RenewedCall
    renewed_calls = calls_from pids 1 closed

    same_pid : (u : ℕ) → (st.threads u).owner ≢ 0 → pids u ≡ first_pids u
    same_pid u started =
        ap (pid_if parts.processes which u) (started_pid parts.processes u (then.threads u) (system_then.threads u) (λ none. started (sym (owner_then u) ∙ none)) ∙ ap Some (owner_then u))
        ∙ ap (pid_if m.system.processes which u) (sym (started_pid m.system.processes u (st.threads u) (is.system.threads u) started))

    -- the calls that are renewed are those that were planned
    pub calls_stay : renewed_calls ≡ ns
    calls_stay = place t refl ∙ same_calls pids first_pids m.threads 1 (λ k v other q e at held.
        let here : suc k ≡ v = omega (arith, e) in
        same_pid v (subst (λ (n : ℕ). (st.threads n).owner ≢ 0) here (holder_started m st is (suc k) other q at held))) where
          place : (n : ℕ) → t ≡ n → renewed_calls ≡ calls_from pids 1 m.threads
          place zero e = absurd (none-some row (ap (item_at_number m.threads) (sym e) ∙ row_is))
          place (suc k) e = set_calls pids t (not_own parts.processes (pid_of parts.processes t)) m.threads 1 (t - 1) (record row { pending = None }) (omega (arith, e))

    -- the directory of each process is unchanged
    pub cwd_stays : (p : ℕ) → (process_at parts.processes p).cwd ≡ (process_at m.system.processes p).cwd
    cwd_stays p =
        ap (λ (process : Process). process.cwd) (sym (system_then.processes p) ∙ renewals_leave (process_after_change st.processes (st.threads t).owner p) (λ before old fresh. refl) (process_after_change st.processes (st.threads t).owner p (st.processes p) (SetIds given)) (suc st.posted) ns)
        ∙ by ((st.threads t).owner == p) ∙ ap (λ (process : Process). process.cwd) (is.system.processes p) where
          by : (b : Bool) → (cond b (record (st.processes p) { ids = given }) (st.processes p)).cwd ≡ (st.processes p).cwd
          by true = refl
          by false = refl

    -- ---- the renewals

    -- what is live without the caller's own call is live with it
    still : (q : ℕ) → alive q ≡ true → is_live st q ≡ true
    still q = by (is_number q ready.drawing) where
      by : (b : Bool) → cond b false (is_live st q) ≡ true → is_live st q ≡ true
      by true e = absurd (true≢false (sym e))
      by false e = e

    held : AreLiveDrawingsHeld st alive closed
    held = are_closed m st is t ready can row row_is

    owned : (u pid : ℕ) → pids u ≡ Some pid → (st.threads u).owner ≡ pid
    owned u pid e = sym (owner_then u) ∙ pid_started parts.processes u (then.threads u) (system_then.threads u) pid (chosen parts.processes which u (pid_of parts.processes u) pid e).0

    -- the calls can be renewed
    pub can_renew_set : CanRenew m.workers renewed_calls
    can_renew_set = can_renew m st is closed closed_threads closed_rows alive still held parts.processes pids owned 0

    -- the caller's own drawing was given before
    pub own_low : IfSome ready.drawing (λ q. q < suc st.posted)
    own_low = by ready.drawing (drawing_lives m st is t ready can row row_is) where
      by : (drawing : Option ℕ) → IfSome drawing (λ q. is_live st q ≡ true) → IfSome drawing (λ q. q < suc st.posted)
      by None x = tt
      by (Some q) x = let low = (is.workers.agrees.given q x).1 in omega (arith, low)

    -- ---- after the calls are renewed, with the version of the policy of the caller's process

    module _ (version : ℕ) (version_is : version ≡ st.versions (st.processes ready.pid).policy) (new : List ThreadRow) (between : UnderWay) (have : HaveRenewed parts.processes pids version closed m.workers new between) where
      abbrev renewed : Head → Head
      renewed = renewed_head (λ p. process_after st.processes (st.threads t).owner p known) st.versions

      renews : (call : RenewedCall) (u : ℕ) → pids u ≡ Some call.pid → (head : Head) → head.pid ≡ call.pid → head.policy ≡ (st.processes call.pid).policy → head_renewed (renewal_of parts.processes version call) head ≡ renewed head
      renews call u e head pid policy =
          let own : call.pid ≡ ready.pid = eqb-true call.pid ready.pid (and_parts (call.pid == ready.pid) (not (u == t)) (chosen parts.processes which u (pid_of parts.processes u) call.pid e).1).0 in
          let process : process_at parts.processes call.pid ≡ process_after st.processes (st.threads t).owner head.pid known = sym (system_then.processes call.pid) ∙ ap (λ (p : ℕ). process_after st.processes (st.threads t).owner p known) (sym pid) in
          let in_force : version ≡ st.versions head.policy = version_is ∙ ap (λ (p : ℕ). st.versions (st.processes p).policy) (sym own) ∙ ap st.versions (sym policy) in
          λ k. record head { ids = (process k).ids; cwd = (process k).cwd; version = in_force k }

      abbrev messages : ℕ → Message
      messages = messages_after parts.processes version ns st.posted st.messages

      -- the state after the renewals, in which the caller's call is still held
      abbrev renewed_state : State
      renewed_state = record st { messages = messages; posted = then.posted }

      abbrev renewed_life : ℕ → Bool
      renewed_life = life_after_changes st (st.threads t).owner (is_live st) known

      kept_set : RepresentsMessages input renewed_state renewed_life between
      kept_set = subst (λ (cs : List RenewedCall). RepresentsMachineMessages input (messages_after parts.processes version cs st.posted st.messages) st.turns (life_after_changes st (st.threads t).owner (is_live st) (renewals_from (suc st.posted) cs)) (fold posted_after_change st.posted (renewals_from (suc st.posted) cs)) between) calls_stay
          (kept_renewed m st is closed closed_threads closed_rows alive still held parts.processes pids owned version new between have (st.threads t).owner)

      -- the caller's own call can end
      pub own_there : IfSome ready.drawing (λ q. calls.is_live_drawing between.calls q ≡ true)
      own_there = by ready.drawing refl (drawing_lives m st is t ready can row row_is) where
        by : (drawing : Option ℕ) → ready.drawing ≡ drawing → IfSome drawing (λ q. is_live st q ≡ true) → IfSome drawing (λ q. calls.is_live_drawing between.calls q ≡ true)
        by None own x = tt
        by (Some q) own x =
            let dead : alive q ≡ false = ap (λ (o : Option ℕ). life_without_number (is_live st) o q) own ∙ ap (λ (b : Bool). cond b false (is_live st q)) (eq-eqb q q refl) in
            let others : AreOthers q ns = subst (AreOthers q) calls_stay (none_of_live alive q dead renewed_calls (live_then m st is closed closed_threads closed_rows alive still held parts.processes pids owned version)) in
            let low = (is.workers.agrees.given q x).1 in
            lives_as input renewed_state renewed_life between q kept_set ∙ lives_on st (st.threads t).owner q ns (suc st.posted) (is_live st) (omega (arith, low)) others ∙ x

      module _ (left : UnderWay) (closes : EndsCall ready.drawing between left) where
        kept_then : RepresentsMachineMessages input messages st.turns (life_after_changes st (st.threads t).owner alive known) then.posted left
        kept_then = subst (λ (life : ℕ → Bool). RepresentsMachineMessages input messages st.turns life then.posted left)
            (ends_after st (st.threads t).owner ready.drawing ns (suc st.posted) (is_live st) own_low) (closes input renewed_state renewed_life kept_set)

        messages_then : (q : ℕ) → then.messages q ≡ record (messages q) { closed = (then.messages q).closed }
        messages_then q = ap (λ (message : Message). record message { closed = (then.messages q).closed })
            (sym (subst (λ (cs : List RenewedCall). messages_after parts.processes version cs st.posted st.messages q ≡ record (st.messages q) { head = fold (head_after_change (λ p. (st.messages p).head) renewed q) (st.messages q).head (renewals_from (suc st.posted) cs) }) calls_stay
            (heads_after m st is closed closed_threads closed_rows alive still held parts.processes pids owned version renewed renews q)))

        is_kept : RepresentsMessages input then (is_live then) left
        is_kept = closing_is_not_kept input messages then.messages st.turns (is_live then) then.posted left
            (subst (λ (life : ℕ → Bool). RepresentsMachineMessages input messages st.turns life then.posted left) (sym (lives outcome parts done_is known known_is)) kept_then) messages_then

        same : (u : ℕ) → u ≢ 0 → SameBut (λ q. seq_after q (renewals_from (suc st.posted) renewed_calls)) (closed_threads u) (thread_after input st entry_set u)
        same u there = record {
          left = refl;
          pending = refl;
          answer = refl;
          number_is = ap (λ (cs : List RenewedCall). seq_after (st.threads u).number (renewals_from (suc st.posted) cs)) (sym calls_stay);
          dying = renewals_leave (dying_after_change u (st.threads u).owner t (st.threads t).owner) (λ before old fresh. refl) (st.threads u).dying (suc st.posted) ns;
          ended = refl;
        }

        rows_are : AreRows new (thread_after input st entry_set)
        rows_are = rows_after m st is closed closed_threads closed_rows alive still held parts.processes pids owned version (thread_after input st entry_set) same new have.rows_are

        pub set_here : Refines (with_parts m parts left new) (state_after m.input st entry_set)
        set_here = following m st is (choice.Thread t) entry_set (entry_is outcome parts done_is known known_is) refl refl (λ b. refl) refl parts left new system_then is_kept rows_are
            (ap length have.rows_are ∙ count_renewed pids closed 1 m.workers.calls.next ∙ length-set m.threads (t - 1) _)

      -- the renewals draw numbers as the law says, while the caller's own is in use
      pub numbers_here : (left : UnderWay) → KeepsNumbers between.calls left.calls → CarriesEntry entry_set m.workers left
      numbers_here left fewer = λ ready_with are numbers has.
          let drawn : CarriesNumbers (numbers_after_renewals ready_with (renewals_from (suc st.posted) ns)) m.workers.calls between.calls =
          subst (λ (cs : List RenewedCall). CarriesNumbers (numbers_after_renewals ready_with (renewals_from (suc st.posted) cs)) m.workers.calls between.calls) calls_stay
          (numbers_drawn m st is closed closed_threads closed_rows alive still held parts.processes pids owned version new between have ready_with are) in
          fewer (numbers_after_renewals ready_with (renewals_from (suc st.posted) ns) numbers) (drawn numbers has)

    pub entry_here : entry_of input st (choice.Thread t) ≡ Some entry_set
    entry_here = entry_is outcome parts done_is known known_is

    -- the copies of directories are those that were planned
    pub copies_stay : cwds_of m.system.processes ns ≡ cwds_of parts.processes renewed_calls
    copies_stay = ap (cwds_of m.system.processes) (sym calls_stay) ∙ same_cwds m.system.processes parts.processes (λ p. sym (cwd_stays p)) renewed_calls

-- ---- in each state that the machine represents

-- enough numbers are left for all threads
pub room_for_all : (m : Running) (st : State) → Refines m st → m.workers.calls.next + length m.threads < 2 ^ 64
room_for_all m st is =
    let drawn : st.posted ≤ most_numbers m.input = subst (λ (s : State). s.posted ≤ most_numbers m.input) (sym is.reached.state_is) (few_drawn m.input is.reached.startable is.reached.choices) in
    let fewer : schedules.renewing_count m.input ≤ schedules.instruction_count m.input = fewer_renew m.input in
    let few : schedules.instruction_count m.input ≤ 4096 = is.bounded.few_instructions in
    let threads : thread_count m.input ≤ 64 = is.reached.startable.few_threads in
    let next : m.workers.calls.next ≡ suc st.posted = is.workers.agrees.next in
    let count = is.count in
    omega (arith, drawn, fewer, few, threads, next, count)

module _ (m : Running) (t : ℕ) (ready : ReadyCall) (can : CanStep m t (steps.Make ready)) (row : ThreadRow) (row_is : item_at_number m.threads t ≡ Some row) (sets : sets_ids ready.call ≡ true)
    (outcome : Outcome) (parts : Parts) (done_is : IsCallMade ready.call (request_with m t ready) outcome m.system parts) where
  abbrev shut : List ThreadRow
  shut = set m.threads (t - 1) (record row { pending = None })

  abbrev its_pids : Processes → ℕ → Option ℕ
  its_pids processes = pids_of processes (OthersOf (record { pid = ready.pid; tid = t }))

  module _ (given : Ids) (well : set_refused ready.call ready.ids (slice_index_or ready.regs 0 0) ≡ None) (given_is : ids_after_set ready.call ready.ids (slice_index_or ready.regs 0 0) ≡ given) where
    effect_given : (st : State) → (effect (system_of m.input st) ready.call (request_of m.input st t ready.regs ready.args ready.ids)).changes ≡ SetIds given ∷ renewals (st.threads t).owner t (suc st.posted) (held_from st 1 (thread_count m.input))
    effect_given st = changes_set ready.call sets (system_of m.input st) (request_of m.input st t ready.regs ready.args ready.ids) well ∙ ap (λ (ids : Ids). SetIds ids ∷ renewals (st.threads t).owner t (suc st.posted) (held_from st 1 (thread_count m.input))) given_is

    -- the other held calls of its process can be renewed, with the copies of directories that were made
    pub can_set : (st : State) → Refines m st → CanRenew m.workers (calls_from (its_pids parts.processes) 1 shut)
    can_set st is = can_renew_set m st is t ready can row row_is outcome parts done_is given (effect_given st)

    pub copies_set : (st : State) → Refines m st → cwds_of m.system.processes (calls_from (its_pids m.system.processes) 1 m.threads) ≡ cwds_of parts.processes (calls_from (its_pids parts.processes) 1 shut)
    copies_set st is = copies_stay m st is t ready can row row_is outcome parts done_is given (effect_given st)

    pub room_set : (st : State) → Refines m st → m.workers.calls.next + length shut < 2 ^ 64
    room_set st is =
        let room = room_for_all m st is in
        let same = length-set m.threads (t - 1) (record row { pending = None }) in
        omega (arith, room, same)

    -- the calls that are renewed are those that the law's machine renews
    pub calls_set : (st : State) → Refines m st → calls_from (its_pids parts.processes) 1 shut ≡ calls_from (its_pids m.system.processes) 1 m.threads
    calls_set st is = calls_stay m st is t ready can row row_is outcome parts done_is given (effect_given st)

    -- the caller's own drawing was given before
    pub low_set : (st : State) → Refines m st → IfSome ready.drawing (λ q. q < m.workers.calls.next)
    low_set st is = subst (λ (n : ℕ). IfSome ready.drawing (λ q. q < n)) (sym is.workers.agrees.next) (own_low m st is t ready can row row_is outcome parts done_is given (effect_given st))

    module _ (version : ℕ) (version_is : (st : State) → Refines m st → version ≡ st.versions (st.processes ready.pid).policy) where
      -- the caller's own call can end after the renewals
      pub own_set : (between : UnderWay) (rows : List ThreadRow) → HaveRenewed parts.processes (its_pids parts.processes) version shut m.workers rows between → (st : State) → Refines m st → IfSome ready.drawing (λ q. calls.is_live_drawing between.calls q ≡ true)
      own_set between rows have st is = own_there m st is t ready can row row_is outcome parts done_is given (effect_given st) version (version_is st is) rows between have

      -- a call that sets ids is made, and the other held calls of its process are renewed
      pub setting : (between left : UnderWay) (rows : List ThreadRow) → HaveRenewed parts.processes (its_pids parts.processes) version shut m.workers rows between → EndsCall ready.drawing between left → KeepsNumbers between.calls left.calls
          → IsDrawnStep m (choice.Thread t) (Used t ready.drawing ready.call ready.regs ready.args ready.ids outcome.result (SetIds given ∷ renewals_from m.workers.calls.next (calls_from (its_pids m.system.processes) 1 m.threads))) (with_parts m parts left rows)
      setting between left rows have closes fewer = λ st is.
          let given_here = effect_given st in
          let entry_by : ℕ → Entry = λ n. Used t ready.drawing ready.call ready.regs ready.args ready.ids outcome.result (SetIds given ∷ renewals_from n (calls_from (its_pids m.system.processes) 1 m.threads)) in
          subst (λ (n : ℕ). (entry_of m.input st (choice.Thread t) ≡ Some (entry_by n)) × Refines (with_parts m parts left rows) (state_after m.input st (entry_by n)) × CarriesEntry (entry_by n) m.workers left) (sym is.workers.agrees.next) (
            entry_here m st is t ready can row row_is outcome parts done_is given given_here,
            set_here m st is t ready can row row_is outcome parts done_is given given_here version (version_is st is) rows between have left closes,
            numbers_here m st is t ready can row row_is outcome parts done_is given given_here version (version_is st is) rows between have left fewer,
          )
