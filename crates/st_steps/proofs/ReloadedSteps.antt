-- The steps of a reload: the script's policy with its number is put in force, or the reload is refused.
use native.Mathlib.Omega.{arith}
use Rattle.std.proofs.Common.{◌≡◌, ◌≢◌, ◌≤◌, ◌<◌, ◌+◌, ◌-◌, ◌^◌, ◌∙◌, ◌++◌, get_or, ℕ, zero, suc, ◌==◌, Bool, true, false, cond, drop, set, List, [], ◌∷◌, length, Option, Some, None, inl, inr, refl, ap, sym, subst}
use Rattle.std.proofs.lemmas.Bool.{cases_eq, eq-eqb, ne_eqb}
use Rattle.std.proofs.lemmas.Cmp.{nat_list_eq_equiv}
use Rattle.std.proofs.lemmas.List.{length-set}
use Rattle.std.proofs.lemmas.Option.{none-some, same_Some}
use Rattle.std.specs.List.{All, fold}
use Rattle.std.specs.Prelude.{is_some, slice_get}
use Rattle.std.specs.Str.{bytes_eq}
use Rattle.st_base.specs.Numbered.{item_at_number}
use Rattle.st_effects.specs.Changes.{dying_after_change, process_after, seq_after}
use Rattle.st_effects.specs.Processes.{renewals_by}
use Rattle.st_filter.specs.Policies.{PoliciesValue, is_block_of, is_of_binary}
use Rattle.st_filter.specs.declared.set.BinaryPolicy.{BinaryPolicy}
use Rattle.st_law.specs.declared.input.Input.{Input}
use Rattle.st_law.specs.Inputs.{IsBlock, IsInstruction}
use Rattle.st_law.specs.Machine.{entry_of, state_after, thread_after}
use Rattle.st_law.specs.Messages.{Head, head_after_change, posted_after_change, renewed_head}
use Rattle.st_law.specs.State.{Message, State, ThreadState, held_from, is_head_under, is_held_under, is_live, reload_changes, thread_count}
use Rattle.st_law.specs.Versions.{version_after}
use Rattle.st_learn.specs.Answers.{Answers}
use Rattle.st_learn.specs.Operator.{Added, IsPutInForce}
use Rattle.st_model.specs.Process.{Process}
use Rattle.st_model.specs.Processes.{pid_of, process_at}
use Rattle.st_reached.specs.Reached.{life_after_changes}
use Rattle.st_reached.proofs.LifeByEntry.{reloaded_life}
use Rattle.st_reached.proofs.Owning.{own_policy}
use Rattle.st_reached.proofs.Reached.{lawful_entry}
use Rattle.st_system.specs.System.{IsSystem}
use Rattle.st_system.proofs.Reloading.{reloaded}
use Rattle.st_trace.specs.declared.entry.Change.{Change}
use Rattle.st_trace.specs.declared.entry.Choice.TheVariants as choice
use Rattle.st_trace.specs.declared.entry.Entry.{Entry}
use Rattle.st_trace.specs.declared.entry.Entry.TheVariants.{Reloaded}
use Rattle.st_trace.specs.declared.start.Instr.TheVariants.{Reload}
use Rattle.st_workers.specs.Numbers.{CarriesEntry, HasNumbers}
use Rattle.st_workers.specs.Refinement.{head_renewed, RepresentsMachineMessages, RepresentsMessages}
use Rattle.st_workers.specs.UnderWay.{UnderWay}
use Rattle.st_workers.proofs.Closing.{closing_is_not_kept}
use Rattle.st_workers.proofs.Turns.{item_put, number_within, read_is}
use Rattle.st_threads.specs.Ending.{AreLiveDrawingsHeld, HasDrawing, IsDrawingOf}
use Rattle.st_threads.specs.Renewing.{AreNumberedFrom, CanRenew, HaveRenewed, call_of, calls_from, is_one_of, numbers_after_renewals, pid_if, pids_of, renewal_of, renewals_from, with_call}
use Rattle.st_threads.specs.Thread.{ThreadRow, IsRow, drawing_held}
use Rattle.st_threads.specs.declared.renewing.RenewedCall.{RenewedCall}
use Rattle.st_threads.specs.declared.which.WhichCalls.{WhichCalls}
use Rattle.st_threads.proofs.RenewedLaw.{ArePicked, SameBut, count_renewed, law_renewals, messages_after, picked_from, renewals_leave, rows_from}
use Rattle.st_decide.specs.Machine.{IsDrawnStep, IsNextStep, Refines, RefinesSomeState, Running}
use Rattle.st_decide.specs.declared.step.Step.TheVariants as steps
use Rattle.st_decide.proofs.HeldCalls.{are_held}
use Rattle.st_decide.proofs.NextSteps.{not_absent, owner_is, row_of}
use Rattle.st_decide.proofs.Reached.{reached_of}
use Rattle.st_steps.proofs.After.{AreRows, all_following, following, rows_changed, with_all, with_parts}
use Rattle.st_steps.proofs.Renewals.{can_renew, chosen, heads_after, holder_started, kept_renewed, numbers_drawn, rows_after, started_pid}
use Rattle.st_steps.proofs.Moving.{row_reloading}
use Rattle.st_steps.proofs.RenewedSteps.{room_for_all}
use Rattle.st_steps.proofs.Served.{same_system}

-- ---- a thread goes on to its next instruction

-- its row changes, but not the drawing that it holds
module _ (st : State) (alive : ℕ → Bool) (rows : List ThreadRow) (are : AreLiveDrawingsHeld st alive rows) (t : ℕ) (row other : ThreadRow) (row_is : item_at_number rows t ≡ Some row) (same : drawing_held other ≡ drawing_held row) where
  at : (u : ℕ) → item_at_number (set rows (t - 1) other) u ≡ cond (u == t) (Some other) (item_at_number rows u)
  at u = let within = number_within rows t row row_is in item_put rows t other within.0 within.1 u

  own : (q : ℕ) (head : Head) → alive q ≡ true → (st.messages q).head ≡ Some head → HasDrawing (item_at_number (set rows (t - 1) other) head.tid) q
  own q head live posted =
      let was : HasDrawing (item_at_number rows head.tid) q = are.own q head live posted in
      elim (cases_eq head.tid t) [
        | inl e ↦ subst (λ (o : Option ThreadRow). HasDrawing o q) (sym (at head.tid ∙ ap (λ (b : Bool). cond b (Some other) (item_at_number rows head.tid)) (eq-eqb head.tid t e)))
            (same ∙ subst (λ (o : Option ThreadRow). HasDrawing o q) (ap (item_at_number rows) e ∙ row_is) was)
        | inr ne ↦ subst (λ (o : Option ThreadRow). HasDrawing o q) (sym (at head.tid ∙ ap (λ (b : Bool). cond b (Some other) (item_at_number rows head.tid)) (ne_eqb head.tid t ne))) was
      ]

  lives : (u : ℕ) (r : ThreadRow) (q : ℕ) → item_at_number (set rows (t - 1) other) u ≡ Some r → drawing_held r ≡ Some q → IsDrawingOf st alive u q
  lives u r q there has = elim (cases_eq u t) [
    | inl e ↦
        let is : other ≡ r = same_Some other r (sym (at u ∙ ap (λ (b : Bool). cond b (Some other) (item_at_number rows u)) (eq-eqb u t e)) ∙ there) in
        are.lives u row q (ap (item_at_number rows) e ∙ row_is) (sym same ∙ ap drawing_held is ∙ has)
    | inr ne ↦ are.lives u r q (sym (at u ∙ ap (λ (b : Bool). cond b (Some other) (item_at_number rows u)) (ne_eqb u t ne)) ∙ there) has
  ]

  -- the live drawings are still those of held calls
  pub still_held : AreLiveDrawingsHeld st alive (set rows (t - 1) other)
  still_held = record { own = own; lives = lives }

-- the calls that are renewed are the same
pub calls_kept : (pids : ℕ → Option ℕ) (rows : List ThreadRow) (u k : ℕ) (row other : ThreadRow) → slice_get rows k ≡ Some row → drawing_held other ≡ drawing_held row → calls_from pids u (set rows k other) ≡ calls_from pids u rows
calls_kept pids [] u zero row other there same = absurd (none-some row there)
calls_kept pids [] u (suc k) row other there same = absurd (none-some row there)
calls_kept pids (r ∷ rows) u zero row other there same = ap (λ (o : Option ℕ). with_call (call_of (pids u) o) (calls_from pids (suc u) rows)) (same ∙ ap drawing_held (sym (same_Some r row there)))
calls_kept pids (r ∷ rows) u (suc k) row other there same = ap (with_call (call_of (pids u) (drawing_held r))) (calls_kept pids rows (suc u) k row other there same)

-- a thread after its next instruction
abbrev pub gone : ThreadRow → ThreadRow
gone row = record row { left = drop 1 row.left }

-- the threads after the next instruction of one of them
abbrev pub gone_threads : State → ℕ → ℕ → ThreadState
gone_threads st t u = record (st.threads u) { left = cond (t == u) (drop 1 (st.threads u).left) (st.threads u).left }

module _ (m : Running) (st : State) (is : Refines m st) (t : ℕ) (row : ThreadRow) (row_is : item_at_number m.threads t ≡ Some row) where
  pub gone_rows : AreRows (set m.threads (t - 1) (gone row)) (gone_threads st t)
  gone_rows =
      let its : IsRow row (st.threads t) = row_of m st is t row row_is in
      rows_changed m.threads st.threads (gone_threads st t) t row (gone row) row_is
      (λ u ne. record { left = ap (λ (b : Bool). cond b (drop 1 (st.threads u).left) (st.threads u).left) (ne_eqb t u (λ e. ne (sym e))); pending = refl; answer = refl; number = refl; dying = refl; ended = refl })
      (record { left = ap (λ (b : Bool). cond b (drop 1 (st.threads t).left) (st.threads t).left) (eq-eqb t t refl) ∙ ap (drop 1) its.left; pending = its.pending; answer = its.answer; number = its.number; dying = its.dying; ended = its.ended }) is.threads

-- ---- a reload that is refused

module _ (m : Running) (t n : ℕ) (next : IsNextStep m t (steps.RefuseReload n)) where
  pub refused_step : (row : ThreadRow) → item_at_number m.threads t ≡ Some row → IsDrawnStep m (choice.Thread t) (Reloaded t n false []) (with_parts m m.system m.workers (set m.threads (t - 1) (gone row)))
  refused_step row row_is st is = (
    next st is,
    following m st is (choice.Thread t) (Reloaded t n false []) (next st is) refl refl (λ b. refl) refl m.system m.workers (set m.threads (t - 1) (gone row))
        (same_system m.input st (state_after m.input st (Reloaded t n false [])) m.system refl refl refl refl refl refl (λ u. refl) (λ u. refl) is.system) is.workers (gone_rows m st is t row row_is) (length-set m.threads (t - 1) _),
    (λ ready are numbers has. (numbers.in_use, has)),
  )

-- ---- a reload that is done

module _ (m : Running) (t n : ℕ) (next : IsNextStep m t (steps.Reload n)) (row : ThreadRow) (row_is : item_at_number m.threads t ≡ Some row) (block : BinaryPolicy) (block_is : item_at_number m.input.policies.blocks n ≡ Some block)
    (which : WhichCalls) (names : (u p : ℕ) → is_one_of m.system.processes which u p ≡ bytes_eq (process_at m.system.processes p).policy block.binary) where
  -- the process of each thread whose held call is renewed
  abbrev pids : ℕ → Option ℕ
  pids = pids_of m.system.processes which

  -- the threads once the reloading thread has gone on
  abbrev gone_on : List ThreadRow
  gone_on = set m.threads (t - 1) (gone row)

  abbrev calls : List RenewedCall
  calls = calls_from pids 1 m.threads

  -- the calls that are renewed are those of the threads as they were
  pub calls_are : calls_from pids 1 gone_on ≡ calls
  calls_are = at t refl where
    at : (u : ℕ) → t ≡ u → calls_from pids 1 gone_on ≡ calls
    at zero e = absurd (none-some row (ap (item_at_number m.threads) (sym e) ∙ row_is))
    at (suc k) e =
        let low : t - 1 ≡ k = omega (arith, e) in
        ap (λ (place : ℕ). calls_from pids 1 (set m.threads place (gone row))) low ∙ calls_kept pids m.threads 1 k row (gone row) (ap (item_at_number m.threads) (sym e) ∙ row_is) refl

  module _ (st : State) (is : Refines m st) where
    abbrev input : Input
    input = m.input

    -- a head is under the policy of the binary exactly if the process of its thread is
    under_policy : (q : ℕ) (head : Head) → is_live st q ≡ true → (st.messages q).head ≡ Some head → (o : Option Head) → o ≡ Some head → is_head_under input n o ≡ bytes_eq (process_at m.system.processes (st.threads head.tid).owner).policy block.binary
    under_policy q head live posted None e = absurd (none-some head e)
    under_policy q head live posted (Some other) e =
        let reached = reached_of input st is.reached in
        let policy : other.policy ≡ (process_at m.system.processes (st.threads head.tid).owner).policy =
        ap (λ (h : Head). h.policy) (same_Some other head e) ∙ own_policy st reached.owned input reached.whole.calls q head live posted ∙ ap (λ (process : Process). process.policy) (is.system.processes (st.threads head.tid).owner) in
        ap (λ (o : Option BinaryPolicy). is_of_binary o other.policy) block_is ∙ nat_list_eq_equiv.symm block.binary other.policy ∙ ap (λ (text : List ℕ). bytes_eq text block.binary) policy

    picked : ArePicked pids (is_held_under input st n) (λ u. (st.threads u).owner) 1 m.threads
    picked = picked_from pids (is_held_under input st n) (λ u. (st.threads u).owner) m.threads (λ u other q at held.
        let x = (are_held m st is).lives u other q at held in
        let says : is_one_of m.system.processes which u (st.threads u).owner ≡ is_head_under input n (st.messages q).head =
        names u (st.threads u).owner ∙ ap (λ (v : ℕ). bytes_eq (process_at m.system.processes (st.threads v).owner).policy block.binary) (sym x.tid_is) ∙ sym (under_policy q x.head x.lives x.posted (st.messages q).head x.posted) in
        ap (pid_if m.system.processes which u) (started_pid m.system.processes u (st.threads u) (is.system.threads u) (holder_started m st is u other q at held))
        ∙ ap (λ (b : Bool). cond b (Some (st.threads u).owner) None) says)

    abbrev changes : List Change
    changes = renewals_from (suc st.posted) calls

    -- the changes are those of the law's machine
    changes_are : reload_changes input st n true ≡ changes
    changes_are = (λ k. renewals_by (is_held_under input st n) (suc st.posted) (held_from st 1 (sym is.count k)))
        ∙ law_renewals pids (is_held_under input st n) st m.threads 1 (suc st.posted) picked (rows_from st.threads m.threads is.threads)

    abbrev entry : Entry
    entry = Reloaded t n true changes

    pub entry_is : entry_of input st (choice.Thread t) ≡ Some entry
    entry_is = next st is ∙ ap (λ (cs : List Change). Some (Reloaded t n true cs)) changes_are

    abbrev then : State
    then = state_after input st entry

    system_then : IsSystem input then m.system
    system_then = subst (λ (cs : List Change). IsSystem input (state_after input st (Reloaded t n true cs)) m.system) changes_are (reloaded input st m.system is.system t n true)

    held : AreLiveDrawingsHeld st (is_live st) gone_on
    held = still_held st (is_live st) m.threads (are_held m st is) t row (gone row) row_is refl

    owned : (u pid : ℕ) → pids u ≡ Some pid → (st.threads u).owner ≡ pid
    owned u pid e = owner_is m st is u pid (chosen m.system.processes which u (pid_of m.system.processes u) pid e).0

    -- the calls can be renewed
    pub can_reload : CanRenew m.workers (calls_from pids 1 gone_on)
    can_reload = can_renew m st is gone_on (gone_threads st t) (gone_rows m st is t row row_is) (is_live st) (λ q live. live) held m.system.processes pids owned n

    abbrev renewed : Head → Head
    renewed = renewed_head (λ p. process_after st.processes (st.threads t).owner p changes) (λ binary. version_after input entry binary (st.versions binary))

    renews : (call : RenewedCall) (u : ℕ) → pids u ≡ Some call.pid → (head : Head) → head.pid ≡ call.pid → head.policy ≡ (st.processes call.pid).policy → head_renewed (renewal_of m.system.processes n call) head ≡ renewed head
    renews call u e head pid policy =
        let process : process_at m.system.processes call.pid ≡ process_after st.processes (st.threads t).owner head.pid changes = sym (system_then.processes call.pid) ∙ ap (λ (p : ℕ). process_after st.processes (st.threads t).owner p changes) (sym pid) in
        let names_it : bytes_eq (process_at m.system.processes call.pid).policy block.binary ≡ true = sym (names u call.pid) ∙ (chosen m.system.processes which u (pid_of m.system.processes u) call.pid e).1 in
        let of_block : is_block_of input.policies n head.policy ≡ true =
        ap (λ (o : Option BinaryPolicy). is_of_binary o head.policy) block_is ∙ nat_list_eq_equiv.symm block.binary head.policy
        ∙ ap (λ (text : List ℕ). bytes_eq text block.binary) (policy ∙ ap (λ (process : Process). process.policy) (is.system.processes call.pid)) ∙ names_it in
        λ k. record head { ids = (process k).ids; cwd = (process k).cwd; version = cond (sym of_block k) n (st.versions head.policy) }

    -- ---- after the calls are renewed

    module _ (new : List ThreadRow) (left : UnderWay) (have : HaveRenewed m.system.processes pids n gone_on m.workers new left) where
      abbrev messages : ℕ → Message
      messages = messages_after m.system.processes n calls st.posted st.messages

      kept_then : RepresentsMachineMessages input messages st.turns (life_after_changes st (st.threads t).owner (is_live st) changes) then.posted left
      kept_then = subst (λ (cs : List RenewedCall). RepresentsMachineMessages input (messages_after m.system.processes n cs st.posted st.messages) st.turns (life_after_changes st (st.threads t).owner (is_live st) (renewals_from (suc st.posted) cs)) (fold posted_after_change st.posted (renewals_from (suc st.posted) cs)) left) calls_are
          (kept_renewed m st is gone_on (gone_threads st t) (gone_rows m st is t row row_is) (is_live st) (λ q live. live) held m.system.processes pids owned n new left have (st.threads t).owner)

      messages_then : (q : ℕ) → then.messages q ≡ record (messages q) { closed = (then.messages q).closed }
      messages_then q = ap (λ (message : Message). record message { closed = (then.messages q).closed })
          (sym (subst (λ (cs : List RenewedCall). messages_after m.system.processes n cs st.posted st.messages q ≡ record (st.messages q) { head = fold (head_after_change (λ p. (st.messages p).head) renewed q) (st.messages q).head (renewals_from (suc st.posted) cs) }) calls_are
          (heads_after m st is gone_on (gone_threads st t) (gone_rows m st is t row row_is) (is_live st) (λ q live. live) held m.system.processes pids owned n renewed renews q)))

      lives_then : is_live then ≡ life_after_changes st (st.threads t).owner (is_live st) changes
      lives_then = λ k q. reloaded_life input st (reached_of input st is.reached) t n true changes (lawful_entry input st (reached_of input st is.reached) (choice.Thread t) entry entry_is) q k

      is_kept : RepresentsMessages input then (is_live then) left
      is_kept = closing_is_not_kept input messages then.messages st.turns (is_live then) then.posted left
          (subst (λ (life : ℕ → Bool). RepresentsMachineMessages input messages st.turns life then.posted left) (sym lives_then) kept_then) messages_then

      same : (u : ℕ) → u ≢ 0 → SameBut (λ q. seq_after q (renewals_from (suc st.posted) (calls_from pids 1 gone_on))) (gone_threads st t u) (thread_after input st entry u)
      same u there = record {
        left = refl;
        pending = refl;
        answer = refl;
        number_is = ap (λ (cs : List RenewedCall). seq_after (st.threads u).number (renewals_from (suc st.posted) cs)) (sym calls_are);
        dying = renewals_leave (dying_after_change u (st.threads u).owner t (st.threads t).owner) (λ before old fresh. refl) (st.threads u).dying (suc st.posted) calls;
        ended = refl;
      }

      rows_are : AreRows new (thread_after input st entry)
      rows_are = rows_after m st is gone_on (gone_threads st t) (gone_rows m st is t row row_is) (is_live st) (λ q live. live) held m.system.processes pids owned n (thread_after input st entry) same new have.rows_are

      module _ (answers : Answers) (operator : Added) (puts : IsPutInForce n m.operator m.answers operator answers) where
        pub reloaded_here : Refines (with_all m m.system left new answers operator) (state_after m.input st entry)
        reloaded_here =
            let put = puts input st t changes is.operator is.answers in
            all_following m st is (choice.Thread t) entry entry_is answers operator put.1 put.0 m.system left new system_then is_kept rows_are
            (ap length have.rows_are ∙ count_renewed pids gone_on 1 m.workers.calls.next ∙ length-set m.threads (t - 1) _)

      -- the renewals draw numbers as the law says
      pub numbers_here : CarriesEntry entry m.workers left
      numbers_here = λ ready are numbers has.
          let drawn = numbers_drawn m st is gone_on (gone_threads st t) (gone_rows m st is t row row_is) (is_live st) (λ q live. live) held m.system.processes pids owned n new left have ready are numbers has in (
            (numbers_after_renewals ready changes numbers).in_use,
            subst (λ (cs : List RenewedCall). HasNumbers (numbers_after_renewals ready (renewals_from (suc st.posted) cs) numbers) left.calls) calls_are drawn,
          )

  -- the policy is put in force, and the held calls under it are renewed
  pub reloaded_step : (new : List ThreadRow) (left : UnderWay) (answers : Answers) (operator : Added) → HaveRenewed m.system.processes pids n gone_on m.workers new left → IsPutInForce n m.operator m.answers operator answers
      → IsDrawnStep m (choice.Thread t) (Reloaded t n true (renewals_from m.workers.calls.next calls)) (with_all m m.system left new answers operator)
  reloaded_step new left answers operator have puts = λ st is.
      let entry_by : ℕ → Entry = λ next. Reloaded t n true (renewals_from next calls) in
      subst (λ (next : ℕ). (entry_of m.input st (choice.Thread t) ≡ Some (entry_by next)) × Refines (with_all m m.system left new answers operator) (state_after m.input st (entry_by next)) × CarriesEntry (entry_by next) m.workers left) (sym is.workers.agrees.next) (
        entry_is st is,
        reloaded_here st is new left have answers operator puts,
        numbers_here st is new left have,
      )

-- the policy of a reload is one of the script's
block_there : (m : Running) → RefinesSomeState m → (t n : ℕ) → IsNextStep m t (steps.Reload n) → IsBlock m.input n
block_there m run t n next =
    let st = run.state in
    let reached = reached_of m.input st run.is.reached in
    let law = lawful_entry m.input st reached (choice.Thread t) (Reloaded t n true (reload_changes m.input st n true)) (next st run.is) in
    (subst (All (IsInstruction m.input)) law.next (reached.whole.calls.bodies t) 0 (Reload n) (omega arith)).0

-- so it isn't absent
pub never_absent : (m : Running) → RefinesSomeState m → (t n : ℕ) → IsNextStep m t (steps.Reload n) → item_at_number m.input.policies.blocks n ≡ None → ⊥
never_absent m run t n next none =
    let there = block_there m run t n next in
    not_absent m.input.policies.blocks n none there.0 there.1

-- it is one of the policies by which calls are answered
pub known_block : (policies read : PoliciesValue) (n : ℕ) (block : BinaryPolicy) → policies ≡ read → item_at_number read.blocks n ≡ Some block → is_some (item_at_number policies.blocks n) ≡ true
known_block policies read n block same there = ap (λ (some : PoliciesValue). is_some (item_at_number some.blocks n)) same ∙ ap is_some there

-- ---- what a reload asks of the renewals, and the step after them

module _ (m : Running) (run : RefinesSomeState m) (t n : ℕ) (next : IsNextStep m t (steps.Reload n)) (block : BinaryPolicy) (block_is : item_at_number m.input.policies.blocks n ≡ Some block)
    (which : WhichCalls) (names : (u p : ℕ) → is_one_of m.system.processes which u p ≡ bytes_eq (process_at m.system.processes p).policy block.binary)
    (read now : ThreadRow) (read_as : read ≡ get_or m.threads (t - 1) read) (goes : now ≡ record read { left = drop 1 read.left }) where
  its_row : (row : ThreadRow) × (item_at_number m.threads t ≡ Some row)
  its_row = row_reloading m run t n next

  -- the threads once the reloading thread has gone on
  abbrev gone_now : List ThreadRow
  gone_now = set m.threads (t - 1) now

  gone_is : gone_now ≡ set m.threads (t - 1) (gone its_row.0)
  gone_is = ap (set m.threads (t - 1)) (goes ∙ ap (λ (row : ThreadRow). record row { left = drop 1 row.left }) (read_is m.threads t its_row.0 read its_row.1 read_as))

  same_count : length gone_now ≡ length m.threads
  same_count = length-set m.threads (t - 1) now

  abbrev its_pids : ℕ → Option ℕ
  its_pids = pids_of m.system.processes which

  pub few_gone : length gone_now < 2 ^ 31
  few_gone =
      let few : thread_count m.input ≤ 64 = run.is.reached.startable.few_threads in
      let threads = run.is.count in
      let same = same_count in
      omega (arith, few, threads, same)

  pub room_gone : m.workers.calls.next + length gone_now < 2 ^ 64
  room_gone =
      let room = room_for_all m run.state run.is in
      let same = same_count in
      omega (arith, room, same)

  pub can_gone : CanRenew m.workers (calls_from its_pids 1 gone_now)
  can_gone = subst (λ (rows : List ThreadRow). CanRenew m.workers (calls_from its_pids 1 rows)) (sym gone_is) (can_reload m t n next its_row.0 its_row.1 block block_is which names run.state run.is)

  pub calls_gone : calls_from its_pids 1 gone_now ≡ calls_from its_pids 1 m.threads
  calls_gone = ap (calls_from its_pids 1) gone_is ∙ calls_are m t n next its_row.0 its_row.1 block block_is which names

  pub step_gone : (new : List ThreadRow) (left : UnderWay) (answers : Answers) (operator : Added) (version : ℕ) → version ≡ n → HaveRenewed m.system.processes its_pids version gone_now m.workers new left → IsPutInForce n m.operator m.answers operator answers
      → IsDrawnStep m (choice.Thread t) (Reloaded t n true (renewals_from m.workers.calls.next (calls_from its_pids 1 m.threads))) (with_all m m.system left new answers operator)
  step_gone new left answers operator version same have puts =
      reloaded_step m t n next its_row.0 its_row.1 block block_is which names new left answers operator
      (subst (λ (rows : List ThreadRow). HaveRenewed m.system.processes its_pids n rows m.workers new left) gone_is
      (subst (λ (v : ℕ). HaveRenewed m.system.processes its_pids v gone_now m.workers new left) same have)) puts

  -- the changes have the numbers that the law gives them
  pub numbered_gone : (result front given : List Change) → result ≡ front ++ given → front ≡ [] → AreNumberedFrom m.workers (renewals_from m.workers.calls.next (calls_from its_pids 1 gone_now)) given
      → AreNumberedFrom m.workers (renewals_from m.workers.calls.next (calls_from its_pids 1 m.threads)) result
  numbered_gone result front given is none numbered =
      subst (AreNumberedFrom m.workers (renewals_from m.workers.calls.next (calls_from its_pids 1 m.threads))) (sym (is ∙ ap (λ (some : List Change). some ++ given) none))
      (subst (λ (calls : List RenewedCall). AreNumberedFrom m.workers (renewals_from m.workers.calls.next calls) given) calls_gone numbered)
