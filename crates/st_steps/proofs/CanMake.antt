-- A call that is made next fulfils its precondition.
use native.Mathlib.Omega.{arith}
use Rattle.std.proofs.Common.{◌≡◌, ◌≤◌, ◌∙◌, suc, ℕ, ◌+◌, true, Option, Some, None, refl, ap, sym, subst}
use Rattle.st_base.specs.Numbered.{item_at_number}
use Rattle.st_calls.specs.Call.{follows, sets_ids}
use Rattle.st_calls.specs.declared.call.SysCall.{SysCall}
use Rattle.st_calls.specs.declared.call.SysCall.TheVariants.{Fork, Execve, SetUid, SetEuid, SetGid, SetEgid}
use Rattle.st_effects.specs.System as effects
use Rattle.st_effects.specs.System.{arg_name_at}
use Rattle.st_exec_fs.specs.Open.{IsNoLink}
use Rattle.st_law.specs.Lawful.{IsUsed}
use Rattle.st_law.specs.Machine.{state_of_run}
use Rattle.st_law.specs.Processes.{process_count}
use Rattle.st_law.specs.Schedules.{instruction_count}
use Rattle.st_law.specs.State.{State, child_of_pending}
use Rattle.st_model.specs.Processes.{IsPid, process_at}
use Rattle.st_reached.specs.Reached.{ForksStartNew, SetsOwnIds}
use Rattle.st_reached.proofs.Made.{few_processes, few_spaces}
use Rattle.st_reached.proofs.OwnIds.{sets_own_ids}
use Rattle.st_reached.proofs.Starting.{forks_start_new}
use Rattle.st_model.specs.Process.{Process}
use Rattle.st_system.specs.Fit.{AreFit}
use Rattle.st_system.specs.Steps.{CanMake}
use Rattle.st_system.specs.System.{Parts}
use Rattle.st_trace.specs.declared.entry.Way.{Way}
use Rattle.st_trace.specs.declared.entry.Way.TheVariants.{Held}
use Rattle.st_decide.specs.Machine.{Refines, RefinesSomeState, Running}
use Rattle.st_decide.specs.Making.{child_of_row, request_with}
use Rattle.st_decide.specs.NextSteps.{CanStep}
use Rattle.st_threads.specs.Thread.{ThreadRow}
use Rattle.st_decide.specs.declared.step.Step.TheVariants as steps
use Rattle.st_decide.specs.declared.step.ReadyCall.{ReadyCall}
use Rattle.st_steps.proofs.Made.{owner_by}
use Rattle.st_steps.proofs.MadeSteps.{now, used}
use Rattle.st_steps.proofs.Moving.{row_making}
use Rattle.st_decide.proofs.NextSteps.{owner_is, row_of}

module _ (m : Running) (st : State) (is : Refines m st) (t : ℕ) (ready : ReadyCall) (can : CanStep m t (steps.Make ready)) (row : ThreadRow) (row_is : item_at_number m.threads t ≡ Some row) where
  in_run : (P : State → Type 0) → P (state_of_run m.input is.reached.choices) → P st
  in_run P x = subst P (sym is.reached.state_is) x

  -- the call is its thread's pending call
  pending_is : (drawing : Option ℕ) (outcome : effects.Outcome) → IsUsed m.input st t drawing ready.call ready.regs ready.args ready.ids outcome.result outcome.changes
      → (way : Way) × (child : ℕ) × ((st.threads t).pending ≡ Some (record { call = ready.call; regs = ready.regs; way = way; child = child }))
  pending_is None outcome x = (x.way, x.entered.0, x.entered.1)
  pending_is (Some q) outcome x = (Held x.held.first, x.held.entered.0, x.held.entered.1)

  few_pids : st.next_process ≤ 4161
  few_pids =
      let most = in_run (λ (s : State). s.next_process ≤ suc (process_count m.input) + instruction_count m.input) (few_processes m.input is.reached.startable is.reached.choices) in
      let instructions : instruction_count m.input ≤ 4096 = is.bounded.few_instructions in
      let processes : process_count m.input ≤ 64 = is.bounded.few_processes in
      omega (arith, most, instructions, processes)

  few_memories : st.next_space ≤ 4161
  few_memories =
      let most = in_run (λ (s : State). s.next_space ≤ suc (process_count m.input) + instruction_count m.input) (few_spaces m.input is.reached.startable is.reached.choices) in
      let instructions : instruction_count m.input ≤ 4096 = is.bounded.few_instructions in
      let processes : process_count m.input ≤ 64 = is.bounded.few_processes in
      omega (arith, most, instructions, processes)

  -- a fork starts a thread that hasn't started
  child_new : ready.call ≡ Fork → (st.threads (child_of_row (item_at_number m.threads t))).owner ≡ 0
  child_new forks =
      let entered = pending_is ready.drawing (now m st is t ready can row row_is) (used m st is t ready can row row_is) in
      let starting : ForksStartNew st = in_run ForksStartNew (forks_start_new m.input is.reached.startable is.bounded.starts is.reached.choices) in
      let none = starting.child t (record { call = ready.call; regs = ready.regs; way = entered.0; child = entered.1 }) entered.2 forks in
      let child : child_of_row (item_at_number m.threads t) ≡ entered.1 = ap child_of_row row_is ∙ ap child_of_pending (sym (row_of m st is t row row_is).pending ∙ entered.2) in
      ap (λ (n : ℕ). (st.threads n).owner) child ∙ none

  -- a call that sets ids is made under its process's own ids
  own_ids : sets_ids ready.call ≡ true → ready.ids ≡ (process_at m.system.processes ready.pid).ids
  own_ids sets =
      let setting : SetsOwnIds m.input st = in_run (SetsOwnIds m.input) (sets_own_ids m.input is.reached.startable is.ungranted is.replies is.reached.choices) in
      let outcome = now m st is t ready can row row_is in
      setting.own t ready.drawing ready.call ready.regs ready.args ready.ids outcome.result outcome.changes (used m st is t ready can row row_is) sets
      ∙ ap (λ (p : ℕ). (st.processes p).ids) (owner_is m st is t ready.pid can.can.caller.process) ∙ ap (λ (p : Process). p.ids) (is.system.processes ready.pid)

  -- the thread that the call starts, if it is a fork
  abbrev child : ℕ
  child = child_of_row (item_at_number m.threads t)

  -- each call fulfils its precondition
  can_make : CanMake ready.call m.system (request_with m t ready)
  can_make = by ready.call refl can.can.fit where
    by : (call : SysCall) → ready.call ≡ call → AreFit call ready.args → CanMake call m.system (request_with m t ready)
    by Fork e x =
        let pids = few_pids in
        let spaces = few_memories in
        let pids_are = is.system.next_process in
        let spaces_are = is.system.next_space in
        record { thread = owner_by m.system.processes child (st.threads child) (is.system.threads child) ∙ child_new e; pids = omega (arith, pids, pids_are); spaces = omega (arith, spaces, spaces_are) }
    by Execve e x =
        let spaces = few_memories in
        let spaces_are = is.system.next_space in
        omega (arith, spaces, spaces_are)
    by SetUid e x = own_ids (ap sets_ids e)
    by SetEuid e x = own_ids (ap sets_ids e)
    by SetGid e x = own_ids (ap sets_ids e)
    by SetEgid e x = own_ids (ap sets_ids e)
    by _ e x = x

-- what the system asks of a call that is made
pub record CanExecute (parts : Parts) (call : SysCall) (request : effects.Request) : Type 0 where
  pub process : IsPid parts.processes request.pid
  pub can : CanMake call parts request
  pub no_link : follows call request.regs 0 ≡ true → IsNoLink parts.tree (arg_name_at request 0)

-- the same by a view of the machine, and by the request with which the call is made
pub can_use : (m seen : Running) → m ≡ seen → RefinesSomeState m → (t : ℕ) (ready : ReadyCall) → CanStep seen t (steps.Make ready) → (request : effects.Request) → request ≡ request_with m t ready → CanExecute m.system ready.call request
can_use m seen same running t ready can request request_is =
    let here : CanStep m t (steps.Make ready) = subst (λ (k : Running). CanStep k t (steps.Make ready)) (sym same) can in
    let row = row_making m running t ready here.next in
    subst (λ (r : effects.Request). CanExecute m.system ready.call r) (sym request_is) (record {
      process = here.can.caller.there;
      can = can_make m running.state running.is t ready here row.0 row.1;
      no_link = here.can.unlinked;
    })
