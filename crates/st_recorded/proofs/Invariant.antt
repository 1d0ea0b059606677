-- The invariant of a recorded run, and that it holds again after a step.
use native.Mathlib.Omega.{arith}
use Rattle.std.proofs.Common.{◌≡◌, ◌∙◌, ◌≤◌, ◌-◌, ◌++◌, false, List, ap, length, subst, sym}
use Rattle.std.proofs.Math.Logic.{∥∥₁_map}
use Rattle.atomic_table.specs.Seated.{TableId}
use Rattle.st_messages.specs.Tickets.{PostedTickets}
use Rattle.st_trace.specs.declared.entry.Choice.{Choice}
use Rattle.st_trace.specs.declared.entry.Entry.{Entry}
use Rattle.st_law.specs.Inputs.{IsStartable}
use Rattle.st_law.specs.declared.input.Input.{Input}
use Rattle.st_reached.specs.Reached.{most_numbers}
use Rattle.st_kernel.specs.Kernel.{RunSoFar, state_in}
use Rattle.st_noted.specs.Steps.{MayHaveMade, StillNoted}
use Rattle.st_noted.proofs.Draws.{step_draws, step_keeps_input}
use Rattle.st_recorded.specs.Recorded.{IsRecorded, RecordedSoFar}
use Rattle.st_recorded.specs.Tickets.{tickets_after, AreTicketsOf}
use Rattle.st_recorded.proofs.Posted.{tickets_after_step}

module _ (i : Input) (queue : TableId) (before : Input → List Entry → Type 0) (old : RecordedSoFar) (poster : PostedTickets) (recorded : IsRecorded i queue before old poster)
    (c : Choice) (new : RunSoFar) (step : MayHaveMade old.so_far c new) where
  -- there is still room for all tickets
  pub room_still : most_numbers new.input ≤ poster.capacity
  room_still = subst (λ (input : Input). most_numbers input ≤ poster.capacity) (sym (step_keeps_input old.so_far new c step)) recorded.room

  -- no ticket was posted that isn't of a drawing
  pub few_posted : length poster.tickets ≤ (state_in new).posted
  few_posted = let count = recorded.tickets.count in let more = step_draws old.so_far new c step in omega (arith, count, more)

  -- the invariant holds once the tickets of the new drawings are posted, if the step was recorded or the run is stopped
  pub recorded_again : (now : RecordedSoFar) (noted : Input → List Entry → Type 0) (then : PostedTickets) → now.so_far ≡ new
      → (now.stopped ≡ false → (old.stopped ≡ false) × StillNoted before old.so_far noted new)
      → most_numbers new.input ≤ then.capacity → then.queue ≡ poster.queue → IsStartable new.input
      → then.tickets ≡ poster.tickets ++ tickets_after new (length poster.tickets) ((state_in new).posted - length poster.tickets) → IsRecorded i queue noted now then
  recorded_again now noted then same on room kept startable are = record {
    input = ap (λ (so_far : RunSoFar). so_far.input) same ∙ step_keeps_input old.so_far new c step ∙ recorded.input;
    noted = λ goes_on. (let both = on goes_on in
        ∥∥₁_map (recorded.noted both.0) (λ x. subst (StillNoted before old.so_far noted) (sym same) both.1 x));
    room = subst (λ (so_far : RunSoFar). most_numbers so_far.input ≤ then.capacity) (sym same) room;
    tickets = subst (λ (so_far : RunSoFar). AreTicketsOf so_far then.tickets) (sym same) (tickets_after_step old.so_far new c step startable poster.tickets then.tickets recorded.tickets are);
    queue = kept ∙ recorded.queue;
  }
