-- The step that makes a call that sets no ids.
use Rattle.std.proofs.Common.{◌≡◌, ◌≢◌, ◌-◌, ◌∙◌, ℕ, arith, ◌||◌, ◌==◌, Bool, true, false, cond, set, List, [], ◌∷◌, ◌++◌, Option, Some, None, inl, inr, refl, ap, sym, subst}
use Rattle.std.proofs.lemmas.Bool.{cases_eq, eq-eqb, ne_eqb}
use Rattle.std.proofs.lemmas.List.{length-set}
use Rattle.std.proofs.lemmas.Option.{none-some, same_Some}
use Rattle.std.specs.Option.{option_map}
use Rattle.std.specs.List.{fold}
use Rattle.std.specs.Prelude.{IfSome}
use Rattle.st_base.specs.Numbered.{item_at_number}
use Rattle.st_calls.specs.Call.{sets_ids}
use Rattle.st_calls.specs.declared.call.SysCall.{SysCall}
use Rattle.st_calls.specs.declared.call.SysCall.TheVariants.{Fork}
use Rattle.st_effects.specs.Changes.{dying_after, process_after}
use Rattle.st_effects.specs.Effect.{effect}
use Rattle.st_effects.specs.System as effects
use Rattle.st_law.specs.declared.input.Input.{Input}
use Rattle.st_law.specs.Inputs as inputs
use Rattle.st_law.specs.Lawful.{IsUnheld, IsPending, IsUsed}
use Rattle.st_law.specs.Machine.{entry_of, state_after, thread_after}
use Rattle.st_law.specs.Messages.{Head, renewed_head}
use Rattle.st_law.specs.State.{State, child_of_pending, is_live, is_live_by, request_of, system_of}
use Rattle.st_law.specs.Threads.{PendingCall}
use Rattle.st_law.proofs.Invariant as invariant
use Rattle.st_law.proofs.Invariant.{IfPending}
use Rattle.st_law.proofs.QuietChanges.{fold_same, head_mute, mute_of, posted_mute, seq_mute, AreMute, IsMute}
use Rattle.st_law.proofs.Shapes.{Each, Shape, quiet, forked, execed, renewed}
use Rattle.st_law.proofs.UsedShapes.{used_shape}
use Rattle.st_messages.specs.Messages as calls
use Rattle.st_model.specs.Processes.{owner_of}
use Rattle.st_model.specs.Tree.{is_number}
use Rattle.st_reached.specs.Reached.{life_after_changes}
use Rattle.st_reached.proofs.LifeByEntry.{life_is}
use Rattle.st_reached.proofs.Reached.{Reached, lawful_entry}
use Rattle.st_request.specs.declared.outcome.Outcome.{Outcome}
use Rattle.st_system.specs.Steps.{HasChild, IsCallMade, IsMade, renewals_of, with_renewals}
use Rattle.st_system.specs.System.{IsSystem, Parts}
use Rattle.st_trace.specs.declared.entry.Change.{Change}
use Rattle.st_trace.specs.declared.entry.Change.TheVariants.{Forked, Renewed}
use Rattle.st_trace.specs.declared.entry.Choice.TheVariants as choice
use Rattle.st_trace.specs.declared.entry.Entry.{Entry}
use Rattle.st_trace.specs.declared.entry.Entry.TheVariants.{Used}
use Rattle.st_trace.specs.declared.entry.Way.{Way}
use Rattle.st_trace.specs.declared.entry.Way.TheVariants.{Fast, Barred, Held, Untraced}
use Rattle.st_law.specs.Numbers.{Numbers, largest_number, numbers_after_change}
use Rattle.st_workers.specs.Numbers.{CarriesEntry, HasNumbers, KeepsNumbers}
use Rattle.st_workers.proofs.Fewer.{fewer_twice}
use Rattle.st_workers.specs.Refinement.{RepresentsMachineMessages, RepresentsMessages}
use Rattle.st_workers.specs.UnderWay.{UnderWay}
use Rattle.st_workers.proofs.Closing.{closing_is_not_kept}
use Rattle.st_workers.proofs.Ended.{lives_as}
use Rattle.st_workers.proofs.Turns.{item_put, number_within}
use Rattle.st_threads.specs.Ending.{AreLiveDrawingsHeld, EndsCall, HasDrawing, HaveCalls, HaveEnded, is_ended_by, is_head_among, life_but, life_without_number, row_dying_if}
use Rattle.st_decide.specs.Machine.{Refines, IsDrawnStep, Running}
use Rattle.st_decide.specs.Making.{child_of_row, request_with}
use Rattle.st_decide.specs.NextSteps.{CanStep}
use Rattle.st_threads.specs.Thread.{ThreadRow, IsRow, IsRowOf, drawing_by_way, drawing_held, drawing_pending}
use Rattle.st_decide.specs.declared.step.Step.TheVariants as steps
use Rattle.st_decide.specs.declared.step.ReadyCall.{ReadyCall}
use Rattle.st_steps.proofs.After.{following, with_parts}
use Rattle.st_threads.proofs.HeldEnds.{closed_held, not_dead}
use Rattle.st_decide.proofs.HeldCalls.{are_held}
use Rattle.st_steps.proofs.Made.{IsCalm, calm_when_execed, calm_when_quiet, dying_when_calm, life_when_calm, mute_when_calm, owner_by, owner_when_calm}
use Rattle.st_decide.proofs.NextSteps.{owner_is, row_of}
use Rattle.st_steps.specs.Making.{RenewsNone}
use Rattle.st_steps.proofs.SettingIds.{changes_none, none_before}
use Rattle.st_decide.proofs.Reached.{reached_of}
use Rattle.st_threads.proofs.Rows.{drawing_of_held, none_closed, none_dying}

none_unheld : (n : ℕ) (way : Way) → IsUnheld way → None ≡ drawing_by_way n way
none_unheld n Fast x = refl
none_unheld n Untraced x = refl
none_unheld n (Barred k) x = absurd x
none_unheld n (Held first) x = absurd x

child_by : (i : Input) (call : SysCall) (request : effects.Request) → (call ≡ Fork → inputs.IsThread i request.child) → HasChild i call request
child_by i Fork request x = x refl
child_by i _ request x = tt

-- changes that renew nothing draw no number
pub numbers_mute : (ready : ℕ → Bool) (numbers : Numbers) (changes : List Change) → AreMute changes → fold (numbers_after_change largest_number ready) numbers changes ≡ numbers
numbers_mute ready numbers changes mute = fold_same (numbers_after_change largest_number ready) IsMute one numbers changes mute where
  one : (before : Numbers) (c : Change) → IsMute c → numbers_after_change largest_number ready before c ≡ before
  one before (Renewed old new) x = let up : 1 ≡ 0 = x.posted 0 in absurd (omega (arith, up))
  one before _ x = refl

-- ---- the call that is made

module _ (m : Running) (st : State) (is : Refines m st) (t : ℕ) (ready : ReadyCall) (can : CanStep m t (steps.Make ready)) (row : ThreadRow) (row_is : item_at_number m.threads t ≡ Some row) where
  abbrev i : Input
  i = m.input

  reached : Reached i st
  reached = reached_of i st is.reached

  its : IsRow row (st.threads t)
  its = row_of m st is t row row_is

  child_is : child_of_row (item_at_number m.threads t) ≡ child_of_pending (st.threads t).pending
  child_is = ap child_of_row row_is ∙ ap child_of_pending (sym its.pending)

  -- the request is that of the law's machine
  pub request_is : request_with m t ready ≡ request_of i st t ready.regs ready.args ready.ids
  request_is = λ k. record { tid = t; pid = sym (owner_is m st is t ready.pid can.can.caller.process) k; ids = ready.ids; regs = ready.regs; args = ready.args; child = child_is k; inherit = i.options.inherit }

  -- the number that the call is made under is that of its thread's held call
  pub drawing_of : (drawing : Option ℕ) (call : SysCall) (regs : List ℕ) (outcome : effects.Outcome) → IsUsed i st t drawing call regs ready.args ready.ids outcome.result outcome.changes → drawing ≡ drawing_held row
  drawing_of None call regs outcome x = none_unheld row.number x.way x.unheld
      ∙ sym (λ k. cond ((sym its.dying ∙ x.running.undying) k) None (drawing_pending row.number ((sym its.pending ∙ x.entered.1) k)))
  drawing_of (Some q) call regs outcome x =
      let mine : drawing_held row ≡ Some row.number = drawing_of_held row (sym its.dying ∙ x.running.undying) (record { call = call; regs = regs; way = Held x.held.first; child = x.held.entered.0 }) (sym its.pending ∙ x.held.entered.1) x.held.first refl in
      ap Some (sym x.held.number ∙ its.number row.number mine) ∙ sym mine

  -- a fork starts a thread of the script
  child_there : (call : SysCall) (regs : List ℕ) (way : Way) → IsPending st t call regs way → call ≡ Fork → inputs.IsThread i (child_of_row (item_at_number m.threads t))
  child_there call regs way x forks =
      let entered : PendingCall = record { call = call; regs = regs; way = way; child = x.0 } in
      let has : invariant.HasChild i entered = subst (IfPending (invariant.HasChild i)) x.1 (reached.whole.calls.children t) in
      subst (inputs.IsThread i) (sym (child_is ∙ ap child_of_pending x.1)) (has.child forks)

  pub has_child : (drawing : Option ℕ) (call : SysCall) (regs : List ℕ) (outcome : effects.Outcome) → IsUsed i st t drawing call regs ready.args ready.ids outcome.result outcome.changes → HasChild i call (request_with m t ready)
  has_child None call regs outcome x = child_by i call (request_with m t ready) (child_there call regs x.way x.entered)
  has_child (Some q) call regs outcome x = child_by i call (request_with m t ready) (child_there call regs (Held x.held.first) x.held.entered)

module _ (m : Running) (st : State) (is : Refines m st) (t : ℕ) (ready : ReadyCall) (can : CanStep m t (steps.Make ready)) (row : ThreadRow) (row_is : item_at_number m.threads t ≡ Some row) where
  abbrev pub now : effects.Outcome
  now = effect (system_of m.input st) ready.call (request_of m.input st t ready.regs ready.args ready.ids)

  pub used : IsUsed m.input st t ready.drawing ready.call ready.regs ready.args ready.ids now.result now.changes
  used = lawful_entry m.input st (reached_of m.input st is.reached) (choice.Thread t) (Used t ready.drawing ready.call ready.regs ready.args ready.ids now.result now.changes) (can.next st is)

  pub drawing_is : ready.drawing ≡ drawing_held row
  drawing_is = drawing_of m st is t ready can row row_is ready.drawing ready.call ready.regs now used

  -- the rows after the thread's own call has ended
  abbrev closed : List ThreadRow
  closed = set m.threads (t - 1) (record row { pending = None })

  pub are_closed : AreLiveDrawingsHeld st (life_without_number (is_live st) ready.drawing) closed
  are_closed = subst (λ (drawing : Option ℕ). AreLiveDrawingsHeld st (life_without_number (is_live st) drawing) closed) (sym drawing_is) (closed_held st (is_live st) m.threads (are_held m st is) t row row_is)

  pub drawing_lives : IfSome ready.drawing (λ q. is_live st q ≡ true)
  drawing_lives = by ready.drawing drawing_is where
    by : (drawing : Option ℕ) → drawing ≡ drawing_held row → IfSome drawing (λ q. is_live st q ≡ true)
    by None e = tt
    by (Some q) e = ((are_held m st is).lives t row q row_is (sym e)).lives

  -- the number of the call is live among the messages, too
  pub drawing_there : IfSome ready.drawing (λ q. calls.is_live_drawing m.workers.calls q ≡ true)
  drawing_there = by ready.drawing drawing_lives where
    by : (drawing : Option ℕ) → IfSome drawing (λ q. is_live st q ≡ true) → IfSome drawing (λ q. calls.is_live_drawing m.workers.calls q ≡ true)
    by None x = tt
    by (Some q) x = lives_as m.input st (is_live st) m.workers q is.workers ∙ x

  pub calls_closed : (between : UnderWay) → EndsCall ready.drawing m.workers between → HaveCalls closed between
  calls_closed between ends = record { input = m.input; state = st; alive = life_without_number (is_live st) ready.drawing; kept = ends m.input st (is_live st) is.workers; held = are_closed }

  module _ (renews_none : RenewsNone ready) (outcome : Outcome) (parts : Parts) (done : IsCallMade ready.call (request_with m t ready) outcome m.system parts) where
    abbrev input : Input
    input = m.input

    abbrev changes : List Change
    changes = outcome.changes

    abbrev entry : Entry
    entry = Used t ready.drawing ready.call ready.regs ready.args ready.ids outcome.result outcome.changes

    is_made : IsMade input st ready.drawing ready.call (request_with m t ready) outcome parts
    is_made = done input st is.system (request_is m st is t ready can row row_is) (has_child m st is t ready can row row_is ready.drawing ready.call ready.regs now used) ready.drawing

    abbrev all : List Change
    all = with_renewals input st ready.call (request_with m t ready) outcome.result outcome.changes

    -- a call that is to set ids changes nothing, since it is refused
    all_none : sets_ids ready.call ≡ true → all ≡ []
    all_none sets = is_made.changes ∙ changes_none ready.call sets (system_of input st) (request_with m t ready) (renews_none sets)

    none_changed : sets_ids ready.call ≡ true → outcome.changes ≡ []
    none_changed sets = none_before (sets_ids ready.call) outcome.changes (renewals_of input st (request_with m t ready) outcome.result) (all_none sets)

    unrenewed : all ≡ outcome.changes
    unrenewed = by (sets_ids ready.call) refl where
      by : (b : Bool) → sets_ids ready.call ≡ b → all ≡ outcome.changes
      by true sets = all_none sets ∙ sym (none_changed sets)
      by false none = ap (λ (b : Bool). cond b (outcome.changes ++ renewals_of input st (request_with m t ready) outcome.result) outcome.changes) none

    entry_is : entry_of input st (choice.Thread t) ≡ Some entry
    entry_is =
        let request = request_is m st is t ready can row row_is in
        let result = ap (λ (r : effects.Request). (effect (system_of input st) ready.call r).result) (sym request) ∙ sym is_made.result in
        let changed = ap (λ (r : effects.Request). (effect (system_of input st) ready.call r).changes) (sym request) ∙ sym is_made.changes ∙ unrenewed in
        can.next st is ∙ (λ k. Some (Used t ready.drawing ready.call ready.regs ready.args ready.ids (result k) (changed k)))

    law : IsUsed input st t ready.drawing ready.call ready.regs ready.args ready.ids outcome.result changes
    law = lawful_entry input st (reached_of input st is.reached) (choice.Thread t) entry entry_is

    is_system : IsSystem input (state_after input st entry) parts
    is_system = subst (λ (cs : List Change). IsSystem input (state_after input st (Used t ready.drawing ready.call ready.regs ready.args ready.ids outcome.result cs)) parts) unrenewed is_made.system

    -- ---- what the changes end

    abbrev ended : ℕ → Bool
    ended = is_ended_by parts.processes t ready.pid changes

    abbrev alive : ℕ → Bool
    alive = life_without_number (is_live st) ready.drawing

    record Ends : Type 0 where
      pub mute : AreMute changes
      pub dying : (u : ℕ) → u ≢ 0 → (before : Bool) → dying_after u (st.threads u).owner t (st.threads t).owner before changes ≡ (before || ended u)
      pub life : (other : ℕ) → life_after_changes st (st.threads t).owner alive changes other ≡ life_but ended st alive other

    headless : (other : ℕ) (o : Option Head) → (st.messages other).head ≡ o → is_live_by o (st.messages other).closed (λ u. (st.threads u).dying) ≡ true → (head : Head) × ((st.messages other).head ≡ Some head)
    headless other None posted live = cc
    headless other (Some head) posted live = (head, posted)

    -- a number that a row still holds isn't the caller's
    not_mine : (other : ℕ) (head : Head) → HasDrawing (item_at_number closed head.tid) other → head.tid ≢ t
    not_mine other head has same =
        let within = number_within m.threads t row row_is in
        let here : item_at_number closed head.tid ≡ Some (record row { pending = None }) = ap (item_at_number closed) same ∙ item_put m.threads t (record row { pending = None }) within.0 within.1 t
        ∙ ap (λ (b : Bool). cond b (Some (record row { pending = None })) (item_at_number m.threads t)) (eq-eqb t t refl) in
        none-some other (sym (none_closed row) ∙ subst (λ (o : Option ThreadRow). HasDrawing o other) here has)

    -- a number that is still live is another thread's
    mine : (other : ℕ) → alive other ≡ true → (head : Head) × ((st.messages other).head ≡ Some head) × (head.tid ≢ 0) × (head.tid ≢ t)
    mine other e =
        let found = headless other (st.messages other).head refl (not_dead (is_number other ready.drawing) (is_live st other) e).1 in
        let has : HasDrawing (item_at_number closed found.0.tid) other = are_closed.own other found.0 e found.1 in
        (found.0, found.1, (λ none. subst (λ (n : ℕ). HasDrawing (item_at_number closed n) other) none has), not_mine other found.0 has)

    own_pid : ready.pid ≡ (st.threads t).owner
    own_pid = sym (owner_is m st is t ready.pid can.can.caller.process)

    when_calm : Each IsCalm changes → Ends
    when_calm calm =
        let owners : (u : ℕ) → owner_of parts.processes u ≡ (st.threads u).owner = λ u. owner_by parts.processes u ((state_after input st entry).threads u) (is_system.threads u) ∙ owner_when_calm u (st.threads u).owner changes calm in
        record {
          mute = mute_when_calm changes calm;
          dying = λ u there before. ap (λ (p : ℕ). dying_after u (st.threads u).owner t p before changes) (sym own_pid) ∙ dying_when_calm parts.processes t ready.pid u (st.threads u).owner (owners u) there changes calm before;
          life = λ other. ap (λ (p : ℕ). life_after_changes st p alive changes other) (sym own_pid) ∙ life_when_calm parts.processes t ready.pid st changes calm alive other (mine other) (λ head posted. owners head.tid);
        }

    none_forked : (o : Option Head) (b : Bool) → b ≡ cond (is_head_among (λ u. false || false) o) false b
    none_forked None b = refl
    none_forked (Some head) b = refl

    same_or : (b : Bool) → b ≡ (b || (false || false))
    same_or true = refl
    same_or false = refl

    when_forked : (new space child : ℕ) → changes ≡ Forked new space child ∷ [] → Ends
    when_forked new space child e = record {
      mute = subst AreMute (sym e) (mute_of (Forked new space child) tt, tt);
      dying = λ u there before. ap (λ (cs : List Change). dying_after u (st.threads u).owner t (st.threads t).owner before cs) e ∙ same_or before ∙ ap (λ (cs : List Change). before || is_ended_by parts.processes t ready.pid cs u) (sym e);
      life = λ other. ap (λ (cs : List Change). life_after_changes st (st.threads t).owner alive cs other) e ∙ none_forked (st.messages other).head (alive other) ∙ ap (λ (cs : List Change). life_but (is_ended_by parts.processes t ready.pid cs) st alive other) (sym e);
    }

    no_changes : (change : Change) (more : List Change) → [] ≡ change ∷ more → ⊥
    no_changes change more e = cc

    by_shape : Shape (system_of input st) (request_of input st t ready.regs ready.args ready.ids) ready.call changes → Ends
    by_shape (quiet x) = when_calm (calm_when_quiet changes x)
    by_shape (forked call e) = when_forked _ _ _ e
    by_shape (execed binary e) = when_calm (subst (Each IsCalm) (sym e) (calm_when_execed binary (system_of input st).next_space (request_of input st t ready.regs ready.args ready.ids).inherit))
    by_shape (renewed ids sets e) = absurd (no_changes _ _ (sym (none_changed sets) ∙ e))

    ends : Ends
    ends = by_shape (used_shape input st t ready.call ready.regs ready.args ready.ids outcome.result changes ready.drawing law)

    -- ---- the rows

    module _ (u : ℕ) (there : u ≢ 0) (r : ThreadRow) (left : (st.threads u).left ≡ r.left) (pending : cond (t == u) None (st.threads u).pending ≡ r.pending) (answer : (entered : PendingCall) (n : ℕ) → r.pending ≡ Some entered → entered.way ≡ Barred n → (st.threads u).answer ≡ r.answer) (number : (q : ℕ) → drawing_held r ≡ Some q → (st.threads u).number ≡ q)
        (dying : (st.threads u).dying ≡ r.dying) (over : (st.threads u).ended ≡ r.ended) where
      always : (b : Bool) → (b || true) ≡ true
      always true = refl
      always false = refl

      never : (b : Bool) → (b || false) ≡ b
      never true = refl
      never false = refl

      row_later : (d : Bool) → ended u ≡ d → IsRow (row_dying_if d r) (thread_after input st entry u)
      row_later true e = record {
        left = left;
        pending = pending;
        answer = answer;
        number = λ q has. absurd (none-some q (sym (none_dying (record r { dying = true }) refl) ∙ has));
        dying = ends.dying u there (st.threads u).dying ∙ ap (λ (b : Bool). (st.threads u).dying || b) e ∙ always (st.threads u).dying;
        ended = over;
      }
      row_later false e = record {
        left = left;
        pending = pending;
        answer = answer;
        number = λ q has. seq_mute (st.threads u).number changes ends.mute ∙ number q has;
        dying = ends.dying u there (st.threads u).dying ∙ ap (λ (b : Bool). (st.threads u).dying || b) e ∙ never (st.threads u).dying ∙ dying;
        ended = over;
      }

    not_none : (rows : List ThreadRow) (u : ℕ) (r : ThreadRow) → item_at_number rows u ≡ Some r → u ≢ 0
    not_none rows u r e none = let from = (number_within rows u r e).0 in omega (arith, from, none)

    row_then : (u : ℕ) (o : Option ThreadRow) → item_at_number closed u ≡ o → IsRowOf (option_map (λ (r : ThreadRow). row_dying_if (ended u) r) o) (thread_after input st entry u)
    row_then u None e = tt
    row_then u (Some r) e =
        let within = number_within m.threads t row row_is in
        let at = item_put m.threads t (record row { pending = None }) within.0 within.1 u in
        let its : IsRow row (st.threads t) = row_of m st is t row row_is in
        elim (cases_eq u t) [
          | inl same ↦
              let r_is : record row { pending = None } ≡ r = same_Some (record row { pending = None }) r (sym (at ∙ ap (λ (b : Bool). cond b (Some (record row { pending = None })) (item_at_number m.threads u)) (eq-eqb u t same)) ∙ e) in
              subst (λ (r : ThreadRow). IsRow (row_dying_if (ended u) r) (thread_after input st entry u)) r_is
              (row_later u (not_none closed u r e) (record row { pending = None }) (ap (λ (n : ℕ). (st.threads n).left) same ∙ its.left) (ap (λ (b : Bool). cond b None (st.threads u).pending) (eq-eqb t u (sym same)))
              (λ entered n e w. absurd (none-some entered e)) (λ q has. absurd (none-some q (sym (none_closed row) ∙ has))) (ap (λ (n : ℕ). (st.threads n).dying) same ∙ its.dying) (ap (λ (n : ℕ). (st.threads n).ended) same ∙ its.ended) (ended u) refl)
          | inr ne ↦
              let was : item_at_number m.threads u ≡ Some r = sym (at ∙ ap (λ (b : Bool). cond b (Some (record row { pending = None })) (item_at_number m.threads u)) (ne_eqb u t ne)) ∙ e in
              let r_its : IsRow r (st.threads u) = row_of m st is u r was in
              row_later u (not_none closed u r e) r r_its.left (ap (λ (b : Bool). cond b None (st.threads u).pending) (ne_eqb t u (λ x. ne (sym x))) ∙ r_its.pending) r_its.answer r_its.number r_its.dying r_its.ended (ended u) refl
        ]

    -- ---- the machine that runs

    pub made_step : (between left : UnderWay) (new : List ThreadRow) → EndsCall ready.drawing m.workers between → HaveEnded ended closed between new left → Refines (with_parts m parts left new) (state_after input st entry)
    made_step between left new closes over =
        let later : ℕ → Bool = is_live (state_after input st entry) in
        let lives : later ≡ life_but ended st alive = λ k other. (life_is input st (reached_of input st is.reached) t ready.drawing ready.call ready.regs ready.args ready.ids outcome.result changes law other ∙ ends.life other) k in
        let kept : RepresentsMessages input st later left = subst (λ (life : ℕ → Bool). RepresentsMessages input st life left) (sym lives) (over.kept input st alive (closes input st (is_live st) is.workers) are_closed) in
        let messages : (q : ℕ) → (state_after input st entry).messages q ≡ record (st.messages q) { closed = ((state_after input st entry).messages q).closed } =
        λ q k. record ((state_after input st entry).messages q) { head = head_mute (λ p. (st.messages p).head) (renewed_head (λ p. process_after st.processes (st.threads t).owner p changes) st.versions) q changes ends.mute k } in
        let posted : (state_after input st entry).posted ≡ st.posted = posted_mute st.posted changes ends.mute in
        following m st is (choice.Thread t) entry entry_is refl refl (λ b. refl) refl parts left new is_system
        (subst (λ (n : ℕ). RepresentsMachineMessages input (state_after input st entry).messages st.turns later n left) (sym posted) (closing_is_not_kept input st.messages (state_after input st entry).messages st.turns later st.posted left kept messages))
        (λ u. subst (λ (o : Option ThreadRow). IsRowOf o (thread_after input st entry u)) (sym (over.rows u)) (row_then u (item_at_number closed u) refl))
        (over.count ∙ length-set m.threads (t - 1) _)

    -- the call draws no number
    pub made_numbers : (between left : UnderWay) (new : List ThreadRow) → KeepsNumbers m.workers.calls between.calls → HaveEnded ended closed between new left → CarriesEntry entry m.workers left
    made_numbers between left new fewer over = λ ready are numbers has.
        subst (λ (after : Numbers). (in_use : ℕ → Bool) × HasNumbers (record after { in_use = in_use }) left.calls) (sym (numbers_mute ready numbers changes ends.mute))
        (fewer_twice m.workers.calls between.calls left.calls fewer over.numbers numbers has)

    -- and it renews nothing
    pub made_mute : AreMute changes
    made_mute = ends.mute

    pub made_entry : entry_of input st (choice.Thread t) ≡ Some entry
    made_entry = entry_is

-- a call that renews no held calls is made, in each state that the machine represents
pub making : (m : Running) (t : ℕ) (ready : ReadyCall) → CanStep m t (steps.Make ready) → (row : ThreadRow) → item_at_number m.threads t ≡ Some row → RenewsNone ready
    → (outcome : Outcome) (parts : Parts) → IsCallMade ready.call (request_with m t ready) outcome m.system parts → (between left : UnderWay) (new : List ThreadRow) → EndsCall ready.drawing m.workers between → KeepsNumbers m.workers.calls between.calls
    → HaveEnded (is_ended_by parts.processes t ready.pid outcome.changes) (set m.threads (t - 1) (record row { pending = None })) between new left
    → IsDrawnStep m (choice.Thread t) (Used t ready.drawing ready.call ready.regs ready.args ready.ids outcome.result outcome.changes) (with_parts m parts left new)
making m t ready can row row_is renews_none outcome parts done between left new closes fewer over = λ st is. (
  made_entry m st is t ready can row row_is renews_none outcome parts done,
  made_step m st is t ready can row row_is renews_none outcome parts done between left new closes over,
  made_numbers m st is t ready can row row_is renews_none outcome parts done between left new fewer over,
)
