-- A run whose entries are recorded, and whose tickets are posted: what contracts see of it, and what its steps do.
use Rattle.std.specs.Prelude.{◌≡◌, ◌≢◌, ◌≤◌, ◌⊎◌, ℕ, Bool, true, false, List}
use Rattle.atomic_table.specs.Seated.{TableId}
use Rattle.st_messages.specs.declared.ticket.Ticket.{Ticket}
use Rattle.st_messages.specs.Tickets.{PostedTickets}
use Rattle.st_trace.specs.declared.entry.Choice.{Choice}
use Rattle.st_trace.specs.declared.entry.Choice.TheVariants.{Worker}
use Rattle.st_trace.specs.declared.entry.Entry.{Entry}
use Rattle.st_law.specs.declared.input.Input.{Input}
use Rattle.st_reached.specs.Reached.{most_numbers}
use Rattle.st_kernel.specs.declared.runners.Work.{Work}
use Rattle.st_kernel.specs.declared.runners.Work.TheVariants.{Idle}
use Rattle.st_kernel.specs.Kernel.{RunSoFar, trace_of, IsLiveNumber}
use Rattle.st_noted.specs.Steps.{IsStepMade, IsWorkDone, MayHaveMade}
use Rattle.st_recorded.specs.declared.run.TicketUse.{TicketUse}
use Rattle.st_recorded.specs.declared.run.TicketUse.TheVariants.{Claimed, Skipped, Spent}
use Rattle.st_recorded.specs.Tickets.{AreTicketsOf}

-- the choices so far, and whether memory ran out
pub record RecordedSoFar : Type 0 where
  pub so_far : RunSoFar
  pub stopped : Bool

-- The invariant: the run is of this input, and its tickets are in this queue. Unless it is stopped, this was recorded of it. Each drawing has
-- its ticket, and there is room for the tickets of all that can be made.
pub record IsRecorded (i : Input) (table : TableId) (has_noted : Input → List Entry → Type 0) (now : RecordedSoFar) (poster : PostedTickets) : Type 0 where
  pub input : now.so_far.input ≡ i
  pub noted : now.stopped ≡ false → ∥ has_noted now.so_far.input (trace_of now.so_far) ∥₁
  pub room : most_numbers now.so_far.input ≤ poster.capacity
  pub tickets : AreTicketsOf now.so_far poster.tickets
  pub queue : poster.queue ≡ table

-- memory ran out in a step: the run is stopped, and the choice was made, or none was
abbrev pub IsStoppedAt : RecordedSoFar → Choice → RecordedSoFar → Type 0
IsStoppedAt old choice new = (new.stopped ≡ true) × MayHaveMade old.so_far choice new.so_far

-- a choice was made if it was enabled; or it wasn't, or memory ran out
abbrev pub IsStepRecorded : RecordedSoFar → Choice → Bool → RecordedSoFar → Type 0
IsStepRecorded old choice made new = IsStepMade old.so_far choice made new.so_far ⊎ ((made ≡ false) × IsStoppedAt old choice new)

-- what a worker did; it counts as idle if memory ran out
abbrev pub IsWorkRecorded : RecordedSoFar → ℕ → Work → RecordedSoFar → Type 0
IsWorkRecorded old worker work new = IsWorkDone old.so_far worker work new.so_far ⊎ ((work ≡ Idle) × IsStoppedAt old (Worker worker) new)

-- What a worker did by a ticket. A ticket is skipped exactly if its number isn't live, and nothing changes then. It is spent if the worker is
-- idle, or memory ran out. Else the worker has claimed a call, or was at one.
abbrev pub IsTicketUsed : RecordedSoFar → ℕ → Ticket → TicketUse → RecordedSoFar → Type 0
IsTicketUsed old worker ticket Skipped new = (IsLiveNumber old.so_far ticket.seq → ⊥) × (new ≡ old)
IsTicketUsed old worker ticket Spent new = IsLiveNumber old.so_far ticket.seq × IsWorkRecorded old worker Idle new
IsTicketUsed old worker ticket Claimed new = IsLiveNumber old.so_far ticket.seq × ((work : Work) × (work ≢ Idle) × IsWorkDone old.so_far worker work new.so_far)
