-- A call that is made: the step of the machine, by what its end and the renewals of the other calls of its process leave.
use Rattle.std.proofs.Common.{◌≡◌, ◌-◌, ◌++◌, ◌∙◌, ℕ, true, List, [], ◌∷◌, set, Some, None, refl, ap, sym, subst}
use Rattle.std.specs.Prelude.{IfSome, slice_index_or}
use Rattle.st_base.specs.Numbered.{item_at_number}
use Rattle.st_base.specs.declared.ids.Ids.{Ids}
use Rattle.st_calls.specs.Call.{sets_ids}
use Rattle.st_messages.specs.Messages.{is_live_drawing}
use Rattle.st_model.specs.Identity.{ids_after_set, set_refused}
use Rattle.st_names.specs.Name.{Components}
use Rattle.st_request.specs.declared.outcome.Outcome.{Outcome}
use Rattle.st_system.specs.Steps.{IsCallMade}
use Rattle.st_system.specs.System.{Parts}
use Rattle.st_trace.specs.declared.entry.Change.{Change}
use Rattle.st_trace.specs.declared.entry.Change.TheVariants.{SetIds}
use Rattle.st_trace.specs.declared.entry.Choice.TheVariants.{Thread}
use Rattle.st_trace.specs.declared.entry.Entry.TheVariants.{Used}
use Rattle.st_threads.specs.Ending.{is_ended_by, HaveCalls, HaveEnded, EndsCall}
use Rattle.st_threads.specs.Renewing.{calls_from, cwds_of, renewals_from, AreNumberedFrom, HaveRenewed}
use Rattle.st_threads.specs.declared.renewing.RenewedCall.{RenewedCall}
use Rattle.st_threads.specs.Thread.{ThreadRow}
use Rattle.st_workers.specs.Numbers.{IsNumbered}
use Rattle.st_workers.specs.UnderWay.{UnderWay}
use Rattle.st_law.specs.State.{State}
use Rattle.st_decide.specs.Machine.{Refines, RefinesSomeState, Running}
use Rattle.st_decide.specs.Making.{request_with}
use Rattle.st_decide.specs.NextSteps.{CanStep}
use Rattle.st_decide.specs.declared.step.ReadyCall.{ReadyCall}
use Rattle.st_decide.specs.declared.step.Step.TheVariants as steps
use Rattle.st_decide.proofs.FewCalls.{few_calls}
use Rattle.st_steps.specs.Making.{others, CanRenewOthers, EndsMade, IsClosed, MakesCall, RenewsNone, RenewsOthers}
use Rattle.st_steps.specs.declared.own_call.OwnCall.{OwnCall}
use Rattle.st_steps.proofs.After.{with_parts}
use Rattle.st_steps.proofs.EntryNumbers.{renewed_has, used_has}
use Rattle.st_steps.proofs.MadeSteps.{calls_closed, drawing_there, made_mute, making}
use Rattle.st_steps.proofs.Moving.{row_making}
use Rattle.st_steps.proofs.RenewedSteps.{calls_set, can_set, copies_set, low_set, own_set, room_set, setting}
use Rattle.st_steps.proofs.Served.{running_step}

-- a call that a thread makes, as its own call
abbrev pub own_call : ℕ → ReadyCall → OwnCall
own_call t ready = record { caller = record { pid = ready.pid; tid = t }; drawing = ready.drawing }

module _ (m : Running) (run : RefinesSomeState m) (t : ℕ) (ready : ReadyCall) (can : CanStep m t (steps.Make ready)) where
  -- the thread exists, and its call's number is live
  pub call_there : (row : ThreadRow) × (item_at_number m.threads t ≡ Some row)
  call_there = row_making m run t ready can.next

  pub call_lives : IfSome ready.drawing (λ q. is_live_drawing m.workers.calls q ≡ true)
  call_lives = drawing_there m run.state run.is t ready can call_there.0 call_there.1

  -- the other held calls stay when it ends
  pub others_held : (closed : List ThreadRow) (between : UnderWay) → IsClosed m.threads t closed → EndsCall ready.drawing m.workers between → HaveCalls closed between
  others_held closed between is ends = subst (λ (rows : List ThreadRow). HaveCalls rows between) (sym is.2) (calls_closed m run.state run.is t ready can is.0 is.1 between ends)

  module _ (outcome : Outcome) (parts : Parts) (done : IsCallMade ready.call (request_with m t ready) outcome m.system parts) (rows : List ThreadRow) (left : UnderWay) where
    -- a call that renews no held calls
    pub made_so : RenewsNone ready → EndsMade parts.processes (own_call t ready) outcome.changes m.threads m.workers rows left → MakesCall m t ready outcome (with_parts m parts left rows)
    made_so none ends =
        let closed = ends.2 in
        let over = subst (λ (shut : List ThreadRow). HaveEnded (is_ended_by parts.processes t ready.pid outcome.changes) shut ends.1 rows left) closed.2 ends.5 in (
          outcome.changes,
          making m t ready can closed.0 closed.1 none outcome parts done ends.1 left rows ends.3 ends.4 over,
          (λ seq is. used_has m.workers ready.drawing seq call_lives is t ready.call ready.regs ready.args ready.ids outcome.result outcome.changes
              (made_mute m run.state run.is t ready can closed.0 closed.1 none outcome parts done)),
        )

    -- a call that sets ids
    module _ (sets : sets_ids ready.call ≡ true) (given : Ids) (well : set_refused ready.call ready.ids (slice_index_or ready.regs 0 0) ≡ None) (given_is : ids_after_set ready.call ready.ids (slice_index_or ready.regs 0 0) ≡ given) where
      pub set_so : (version : ℕ) → ((st : State) → Refines m st → version ≡ st.versions (st.processes ready.pid).policy) → (changes : List Change) → RenewsOthers parts.processes (own_call t ready) version m.threads m.workers rows left
          → ((closed : List ThreadRow) → IsClosed m.threads t closed → (numbered : List Change) × (changes ≡ (SetIds given ∷ []) ++ numbered) × AreNumberedFrom m.workers (renewals_from m.workers.calls.next (calls_from (others parts.processes (own_call t ready)) 1 closed)) numbered)
          → MakesCall m t ready (record { result = outcome.result; changes = changes }) (with_parts m parts left rows)
      set_so version version_is changes renews numbered =
          let closed = renews.2 in
          let all : List RenewedCall = calls_from (others m.system.processes (own_call t ready)) 1 m.threads in
          let have = subst (λ (shut : List ThreadRow). HaveRenewed parts.processes (others parts.processes (own_call t ready)) version shut m.workers rows renews.1) closed.2 renews.3 in
          let new = numbered renews.0 closed in
          let drawn : AreNumberedFrom m.workers (renewals_from m.workers.calls.next all) new.0 = subst (λ (calls : List RenewedCall). AreNumberedFrom m.workers (renewals_from m.workers.calls.next calls) new.0)
          (ap (calls_from (others parts.processes (own_call t ready)) 1) closed.2 ∙ calls_set m t ready can closed.0 closed.1 sets outcome parts done given well given_is run.state run.is) new.2 in (
            SetIds given ∷ renewals_from m.workers.calls.next all,
            setting m t ready can closed.0 closed.1 sets outcome parts done given well given_is version version_is renews.1 left rows have renews.4 renews.5,
            (λ seq is. subst (λ (cs : List Change). IsNumbered (Used t ready.drawing ready.call ready.regs ready.args ready.ids outcome.result (SetIds given ∷ renewals_from m.workers.calls.next all)) (Used t seq ready.call ready.regs ready.args ready.ids outcome.result cs) m.workers) (sym new.1)
                (renewed_has m.workers ready.drawing seq call_lives is t ready.call ready.regs ready.args ready.ids outcome.result given all m.workers.calls.next new.0
                (low_set m t ready can closed.0 closed.1 sets outcome parts done given well given_is run.state run.is) drawn)),
          )

  -- the other held calls can be renewed after it is made, with the copies of directories that were made
  pub others_can : (outcome : Outcome) (parts : Parts) → IsCallMade ready.call (request_with m t ready) outcome m.system parts → sets_ids ready.call ≡ true
      → (given : Ids) → set_refused ready.call ready.ids (slice_index_or ready.regs 0 0) ≡ None → ids_after_set ready.call ready.ids (slice_index_or ready.regs 0 0) ≡ given
      → (version : ℕ) → ((st : State) → Refines m st → version ≡ st.versions (st.processes ready.pid).policy)
      → (cwds : List Components) → cwds ≡ cwds_of m.system.processes (calls_from (others m.system.processes (own_call t ready)) 1 m.threads)
      → (closed : List ThreadRow) × IsClosed m.threads t closed × CanRenewOthers parts.processes (own_call t ready) version closed m.workers cwds
  others_can outcome parts done sets given well given_is version version_is cwds copied =
      let row = call_there.0 in
      let row_is = call_there.1 in
      let st = run.state in
      let is = run.is in (
        set m.threads (t - 1) (record row { pending = None }),
        (row, row_is, refl),
        record {
          calls = can_set m t ready can row row_is sets outcome parts done given well given_is st is;
          room = room_set m t ready can row row_is sets outcome parts done given well given_is st is;
          few = few_calls m st is;
          copies = copied ∙ copies_set m t ready can row row_is sets outcome parts done given well given_is st is;
          lives = λ new between have. own_set m t ready can row row_is sets outcome parts done given well given_is version version_is between new have st is;
        },
      )

-- the machine goes on by a call that is made
pub running_made : (m new : Running) (t : ℕ) (ready : ReadyCall) (outcome : Outcome) → RefinesSomeState m → MakesCall m t ready outcome new → RefinesSomeState new
running_made m new t ready outcome run made = running_step m new (Thread t) _ run made.1
