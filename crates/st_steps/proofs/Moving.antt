-- The steps of threads, composed of how each part changes by an entry.
use Rattle.std.proofs.Common.{◌≡◌, ◌≢◌, ◌≤◌, ◌<◌, ◌-◌, ◌∙◌, ◌++◌, zero, suc, ℕ, arith, reverse, ◌==◌, ◌||◌, Bool, true, false, cond, drop, set, List, [], ◌∷◌, length, Option, Some, None, refl, ap, sym, subst}
use Rattle.std.proofs.lemmas.Bool.{eq-eqb, ne_eqb}
use Rattle.std.proofs.lemmas.List.{length-set}
use Rattle.std.proofs.lemmas.Option.{none-some}
use Rattle.std.specs.List.{All}
use Rattle.std.specs.Prelude.{IfSome, IsSome, slice_get}
use Rattle.st_base.specs.Numbered.{item_at_number}
use Rattle.st_base.specs.declared.errno.Errno.{Errno}
use Rattle.st_messages.specs.Messages.{is_live_drawing}
use Rattle.st_model.specs.Processes.{pid_of}
use Rattle.st_trace.specs.declared.entry.CallResult.TheVariants.{Failed}
use Rattle.st_trace.specs.declared.entry.Cause.{Cause}
use Rattle.st_trace.specs.declared.entry.Choice.TheVariants as choice
use Rattle.st_trace.specs.declared.entry.Entry.{Entry}
use Rattle.st_trace.specs.declared.entry.Entry.TheVariants.{Denied, Ended, Stored, Used}
use Rattle.st_model.specs.declared.limits.TheConstants.{SPACE_WORDS}
use Rattle.st_trace.specs.declared.start.Instr.{Instr}
use Rattle.st_trace.specs.declared.start.Instr.TheVariants.{Store}
use Rattle.st_trace.specs.declared.start.ThreadRow as start
use Rattle.st_law.specs.declared.input.Input.{Input}
use Rattle.st_law.specs.History.{looking_back}
use Rattle.st_law.specs.Lawful.{IsStored}
use Rattle.st_law.specs.Machine.{entry_of, history, running_entry, state_after, thread_after, thread_entry}
use Rattle.st_law.specs.State.{State, is_live}
use Rattle.st_law.specs.Threads.{body_of, body_of_row, left_at}
use Rattle.st_law.proofs.Begun.{goes_through}
use Rattle.st_law.proofs.Laws.{all_at, lawful_history}
use Rattle.st_law.proofs.Ties.{state-is}
use Rattle.st_reached.proofs.Life.{eqb-sym}
use Rattle.st_reached.proofs.LifeByEntry.{denied_life}
use Rattle.st_reached.proofs.Reached.{lawful_entry}
use Rattle.st_reached.specs.Scripts.{IsInMemory, StoresInMemory}
use Rattle.st_system.specs.System.{IsSystem, Parts}
use Rattle.st_workers.specs.Numbers.{KeepsNumbers}
use Rattle.st_workers.specs.Refinement.{RepresentsMessages}
use Rattle.st_workers.specs.UnderWay.{UnderWay}
use Rattle.st_workers.proofs.Closing.{closing_is_not_kept}
use Rattle.st_workers.proofs.Ended.{lives_as}
use Rattle.st_workers.proofs.Turns.{number_within}
use Rattle.st_threads.specs.Ending.{EndsCall, life_without_number}
use Rattle.st_decide.specs.Machine.{Refines, IsNextStep, RefinesSomeState, IsDrawnStep, Running}
use Rattle.st_decide.specs.Step.{step_entry}
use Rattle.st_threads.specs.Thread.{ThreadRow, IsRow}
use Rattle.st_decide.specs.declared.step.Step.{Step}
use Rattle.st_decide.specs.declared.step.Step.TheVariants as steps
use Rattle.st_decide.specs.declared.step.StoredWord.{StoredWord}
use Rattle.st_decide.specs.declared.step.FailedCall.{FailedCall}
use Rattle.st_decide.specs.declared.step.NewCall.{NewCall}
use Rattle.st_decide.specs.declared.step.ReadyCall.{ReadyCall}
use Rattle.st_steps.proofs.After.{AreRows, HasComeAsFar, following, rows_changed, with_parts}
use Rattle.st_decide.proofs.NextSteps.{row_of}
use Rattle.st_decide.proofs.Started.{pid_there, row_there}
use Rattle.st_decide.proofs.Reached.{reached_of}
use Rattle.st_threads.proofs.Rows.{none_closed}
use Rattle.st_steps.proofs.Served.{same_system}

-- ---- a thread ends

module _ (m : Running) (t : ℕ) (next : IsNextStep m t steps.End) where
  pub ends : (st : State) → Refines m st → ((st.threads t).owner ≢ 0) × ((st.threads t).ended ≡ false)
  ends st is = let law = lawful_entry m.input st (reached_of m.input st is.reached) (choice.Thread t) (Ended t) (next st is) in (law.started, law.unended)

  pub ended_step : (system : Parts) (row : ThreadRow) → item_at_number m.threads t ≡ Some row → ((i : Input) (st : State) → IsSystem i st m.system → IsSystem i (state_after i st (Ended t)) system)
      → IsDrawnStep m (choice.Thread t) (Ended t) (with_parts m system m.workers (set m.threads (t - 1) (record row { ended = true })))
  ended_step system row row_is moves st is =
      let its : IsRow row (st.threads t) = row_of m st is t row row_is in
      let rows = rows_changed m.threads st.threads (thread_after m.input st (Ended t)) t row (record row { ended = true }) row_is
      (λ u ne. record { left = refl; pending = refl; answer = refl; number = refl; dying = refl; ended = ap (λ (b : Bool). b || (st.threads u).ended) (ne_eqb t u (λ e. ne (sym e))) })
      (record { left = its.left; pending = its.pending; answer = its.answer; number = its.number; dying = its.dying; ended = ap (λ (b : Bool). b || (st.threads t).ended) (eq-eqb t t refl) }) is.threads in
      (next st is, following m st is (choice.Thread t) (Ended t) (next st is) refl refl (λ b. refl) refl system m.workers (set m.threads (t - 1) (record row { ended = true })) (moves m.input st is.system) is.workers rows (length-set m.threads (t - 1) _), (λ ready are numbers has. (numbers.in_use, has)))

-- ---- a thread stores a word

at_length : {X : Type 0} (xs : List X) (x : X) (ys : List X) → slice_get (xs ++ x ∷ ys) (length xs) ≡ Some x
at_length [] x ys = refl
at_length (y ∷ xs) x ys = at_length xs x ys

-- the stores of a body are inside memory
body_inside : (i : Input) → StoresInMemory i.start → (t : ℕ) → All IsInMemory (body_of i t)
body_inside i stores t = by t where
  none : All IsInMemory []
  none k d below = absurd (omega (arith, below))

  by_row : (k : ℕ) (o : Option start.ThreadRow) → slice_get i.start.threads k ≡ o → All IsInMemory (body_of_row o)
  by_row k None e = none
  by_row k (Some row) e = all_at (λ (each : start.ThreadRow). All IsInMemory each.body) i.start.threads k row stores e

  by : (n : ℕ) → All IsInMemory (body_of i n)
  by zero = none
  by (suc k) = by_row k (slice_get i.start.threads k) refl

module _ (m : Running) (t : ℕ) (stored : StoredWord) (next : IsNextStep m t (steps.Store stored)) where
  stores_law : (st : State) → Refines m st → IsStored st t stored.place stored.word
  stores_law st is = lawful_entry m.input st (reached_of m.input st is.reached) (choice.Thread t) (Stored t stored.place stored.word) (next st is)

  -- the index is inside memory
  pub stored_inside : (st : State) → Refines m st → stored.place < SPACE_WORDS
  stored_inside st is =
      let h = history m.input (reverse is.reached.choices) in
      let same : st ≡ looking_back m.input h = is.reached.state_is ∙ state-is m.input h in
      let goes = goes_through m.input h t (lawful_history m.input is.reached.startable (reverse is.reached.choices)) in
      let law = stores_law st is in
      let left : left_at m.input h t ≡ Store stored.place stored.word ∷ law.later = sym (ap (λ (s : State). (s.threads t).left) same) ∙ law.next in
      let whole : goes.0 ++ Store stored.place stored.word ∷ law.later ≡ body_of m.input t = ap (λ (l : List Instr). goes.0 ++ l) (sym left) ∙ goes.2 in
      all_at IsInMemory (goes.0 ++ Store stored.place stored.word ∷ law.later) (length goes.0) (Store stored.place stored.word) (subst (All IsInMemory) (sym whole) (body_inside m.input is.bounded.stores t)) (at_length goes.0 (Store stored.place stored.word) law.later)

  pub stored_started : (st : State) (is : Refines m st) → IsSome (pid_of m.system.processes t)
  stored_started st is = pid_there m st is t (stores_law st is).running.started

  pub stored_step : (system : Parts) (row : ThreadRow) → item_at_number m.threads t ≡ Some row → ((i : Input) (st : State) → IsSystem i st m.system → IsSystem i (state_after i st (Stored t stored.place stored.word)) system)
      → IsDrawnStep m (choice.Thread t) (Stored t stored.place stored.word) (with_parts m system m.workers (set m.threads (t - 1) (record row { left = drop 1 row.left })))
  stored_step system row row_is moves st is =
      let its : IsRow row (st.threads t) = row_of m st is t row row_is in
      let rows = rows_changed m.threads st.threads (thread_after m.input st (Stored t stored.place stored.word)) t row (record row { left = drop 1 row.left }) row_is
      (λ u ne. record { left = ap (λ (b : Bool). cond b (drop 1 (st.threads u).left) (st.threads u).left) (ne_eqb t u (λ e. ne (sym e))); pending = refl; answer = refl; number = refl; dying = refl; ended = refl })
      (record { left = ap (λ (b : Bool). cond b (drop 1 (st.threads t).left) (st.threads t).left) (eq-eqb t t refl) ∙ ap (drop 1) its.left; pending = its.pending; answer = its.answer; number = its.number; dying = its.dying; ended = its.ended }) is.threads in
      (next st is, following m st is (choice.Thread t) (Stored t stored.place stored.word) (next st is) refl refl (λ b. refl) refl system m.workers (set m.threads (t - 1) (record row { left = drop 1 row.left })) (moves m.input st is.system) is.workers rows (length-set m.threads (t - 1) _), (λ ready are numbers has. (numbers.in_use, has)))

-- ---- a call is over

-- the rows after a thread's call was made or denied
closed_rows : (m : Running) (st : State) → Refines m st → (t : ℕ) (row : ThreadRow) → item_at_number m.threads t ≡ Some row → (e : Entry) → ((u : ℕ) → u ≢ t → HasComeAsFar (st.threads u) (thread_after m.input st e u))
    → IsRow (record row { pending = None }) (thread_after m.input st e t) → AreRows (set m.threads (t - 1) (record row { pending = None })) (thread_after m.input st e)
closed_rows m st is t row row_is e others own = rows_changed m.threads st.threads (thread_after m.input st e) t row (record row { pending = None }) row_is others own is.threads

-- the entry of a call that fails before it is made
abbrev pub entry_failed : ℕ → FailedCall → Entry
entry_failed t failed = Used t None failed.call failed.regs [] failed.ids (Failed failed.errno) []

module _ (m : Running) (t : ℕ) (call : FailedCall) (next : IsNextStep m t (steps.Fail call)) where
  abbrev failed : Entry
  failed = entry_failed t call

  pub failed_step : (row : ThreadRow) → item_at_number m.threads t ≡ Some row → IsDrawnStep m (choice.Thread t) failed (with_parts m m.system m.workers (set m.threads (t - 1) (record row { pending = None })))
  failed_step row row_is st is =
      let its : IsRow row (st.threads t) = row_of m st is t row row_is in
      let rows = closed_rows m st is t row row_is failed
      (λ u ne. record { left = refl; pending = ap (λ (b : Bool). cond b None (st.threads u).pending) (ne_eqb t u (λ e. ne (sym e))); answer = refl; number = refl; dying = refl; ended = refl })
      (record { left = its.left; pending = ap (λ (b : Bool). cond b None (st.threads t).pending) (eq-eqb t t refl); answer = λ entered n e w. absurd (none-some entered e); number = λ q e. absurd (none-some q (sym (none_closed row) ∙ e)); dying = its.dying; ended = its.ended }) in (
        next st is,
        following m st is (choice.Thread t) failed (next st is) refl refl (λ b. refl) refl m.system m.workers (set m.threads (t - 1) (record row { pending = None }))
            (same_system m.input st (state_after m.input st failed) m.system refl refl refl refl refl refl (λ u. refl) (λ u. refl) is.system) is.workers rows (length-set m.threads (t - 1) _),
        (λ ready are numbers has. (numbers.in_use, has)),
      )

-- ---- a call is denied

denied_rows : (m : Running) (st : State) → Refines m st → (t : ℕ) (drawing : Option ℕ) (errno : Errno) (why : Cause) (row : ThreadRow) → item_at_number m.threads t ≡ Some row → AreRows (set m.threads (t - 1) (record row { pending = None })) (thread_after m.input st (Denied t drawing errno why))
denied_rows m st is t drawing errno why row row_is =
    let its : IsRow row (st.threads t) = row_of m st is t row row_is in
    closed_rows m st is t row row_is (Denied t drawing errno why)
    (λ u ne. record { left = refl; pending = ap (λ (b : Bool). cond b None (st.threads u).pending) (ne_eqb t u (λ e. ne (sym e))); answer = refl; number = refl; dying = refl; ended = refl })
    (record { left = its.left; pending = ap (λ (b : Bool). cond b None (st.threads t).pending) (eq-eqb t t refl); answer = λ entered n e w. absurd (none-some entered e); number = λ q e. absurd (none-some q (sym (none_closed row) ∙ e)); dying = its.dying; ended = its.ended })

module _ (m : Running) (t : ℕ) (errno : Errno) (why : Cause) where
  -- a thread's call is denied next, under this number if it is held
  abbrev IsDeniedNext : Option ℕ → Type 0
  IsDeniedNext drawing = (st : State) → Refines m st → entry_of m.input st (choice.Thread t) ≡ Some (Denied t drawing errno why)

  -- the number of a held call that is denied is live
  pub denied_lives : (drawing : Option ℕ) → IsDeniedNext drawing → (st : State) → Refines m st → IfSome drawing (λ q. is_live_drawing m.workers.calls q ≡ true)
  denied_lives None next st is = tt
  denied_lives (Some q) next st is = lives_as m.input st (is_live st) m.workers q is.workers ∙ (lawful_entry m.input st (reached_of m.input st is.reached) (choice.Thread t) (Denied t (Some q) errno why) (next st is)).held.live

  -- a barred call has no message, and the number of a held call ends
  pub denied_step : (drawing : Option ℕ) → IsDeniedNext drawing → (workers : UnderWay) (row : ThreadRow) → item_at_number m.threads t ≡ Some row → EndsCall drawing m.workers workers → KeepsNumbers m.workers.calls workers.calls
      → IsDrawnStep m (choice.Thread t) (Denied t drawing errno why) (with_parts m m.system workers (set m.threads (t - 1) (record row { pending = None })))
  denied_step None next workers row row_is ends fewer st is = (
    next st is,
    following m st is (choice.Thread t) (Denied t None errno why) (next st is) refl refl (λ b. refl) refl m.system workers (set m.threads (t - 1) (record row { pending = None }))
        (same_system m.input st (state_after m.input st (Denied t None errno why)) m.system refl refl refl refl refl refl (λ u. refl) (λ u. refl) is.system) (ends m.input st (is_live st) is.workers)
        (denied_rows m st is t None errno why row row_is) (length-set m.threads (t - 1) _),
    (λ ready are. fewer),
  )
  denied_step (Some q) next workers row row_is ends fewer st is =
      let e = Denied t (Some q) errno why in
      let later : ℕ → Bool = is_live (state_after m.input st e) in
      let lives : later ≡ life_without_number (is_live st) (Some q) = λ k other. (denied_life m.input st t q errno why other ∙ ap (λ (b : Bool). cond b false (is_live st other)) (eqb-sym other q)) k in
      let kept : RepresentsMessages m.input st later workers = subst (λ (life : ℕ → Bool). RepresentsMessages m.input st life workers) (sym lives) (ends m.input st (is_live st) is.workers) in (
        next st is,
        following m st is (choice.Thread t) e (next st is) refl refl (λ b. refl) refl m.system workers (set m.threads (t - 1) (record row { pending = None }))
            (same_system m.input st (state_after m.input st e) m.system refl refl refl refl refl refl (λ u. refl) (λ u. refl) is.system)
            (closing_is_not_kept m.input st.messages (state_after m.input st e).messages st.turns later st.posted workers kept (λ p. refl)) (denied_rows m st is t (Some q) errno why row row_is) (length-set m.threads (t - 1) _),
        (λ ready are. fewer),
      )

-- ---- the row of a thread exists

started_of : (i : Input) (st : State) (u : ℕ) (e : Entry) → thread_entry i st u ≡ Some e → (st.threads u).owner ≢ 0
started_of i st u e entry none = none-some e (sym (stopped (eq-eqb (st.threads u).owner 0 none)) ∙ entry) where
  stopped : ((st.threads u).owner == 0) ≡ true → thread_entry i st u ≡ None
  stopped nobody = ap (λ (b : Bool). cond (b || (st.threads u).ended) None (cond (st.threads u).dying (Some (Ended u)) (running_entry i st u (st.threads u).pending))) nobody

-- a thread whose step adds an entry has a row
pub row_here : (m : Running) → RefinesSomeState m → (t : ℕ) (step : Step) (e : Entry) → IsNextStep m t step → ((i : Input) (st : State) → step_entry i st t step ≡ Some e) → (row : ThreadRow) × (item_at_number m.threads t ≡ Some row)
row_here m run t step e next is = row_there m run.state run.is t (started_of m.input run.state t e (next run.state run.is ∙ is m.input run.state))

-- such a thread has a place, by a view of the machine
pub place_in : (m seen : Running) → m ≡ seen → RefinesSomeState m → (t : ℕ) (step : Step) → ((i : Input) (st : State) → (e : Entry) × (step_entry i st t step ≡ Some e)) → IsNextStep seen t step → (1 ≤ t) × (t - 1 < length m.threads)
place_in m seen same run t step adds next =
    let e = adds m.input run.state in
    let here : IsNextStep m t step = subst (λ (k : Running). IsNextStep k t step) (sym same) next in
    let row = row_there m run.state run.is t (started_of m.input run.state t e.0 (here run.state run.is ∙ e.1)) in
    let within = number_within m.threads t row.0 row.1 in
    let from = within.0 in
    let to = within.1 in
    (from, omega (arith, from, to))

-- a thread that enters a call has a row
pub row_entering : (m : Running) → RefinesSomeState m → (t : ℕ) (call : NewCall) → IsNextStep m t (steps.Enter call) → (row : ThreadRow) × (item_at_number m.threads t ≡ Some row)
row_entering m run t call next = row_there m run.state run.is t (started_of m.input run.state t _ (next run.state run.is))

-- a thread that makes a call has a row
pub row_making : (m : Running) → RefinesSomeState m → (t : ℕ) (ready : ReadyCall) → IsNextStep m t (steps.Make ready) → (row : ThreadRow) × (item_at_number m.threads t ≡ Some row)
row_making m run t ready next = row_there m run.state run.is t (started_of m.input run.state t _ (next run.state run.is))

-- a thread that reloads a policy has a row
pub row_reloading : (m : Running) → RefinesSomeState m → (t n : ℕ) → IsNextStep m t (steps.Reload n) → (row : ThreadRow) × (item_at_number m.threads t ≡ Some row)
row_reloading m run t n next = row_there m run.state run.is t (started_of m.input run.state t _ (next run.state run.is))
