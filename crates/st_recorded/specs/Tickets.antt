-- The tickets for the drawings of a run, and its takers.
use Rattle.std.specs.Prelude.{◌≡◌, ◌≤◌, ◌+◌, ◌⊎◌, ℕ, zero, suc, max, false, List, [], ◌∷◌, ◌++◌, length, replicate, Option, Some, unwrap_or}
use Rattle.st_base.specs.Numbered.{item_at_number}
use Rattle.atomic_table.specs.Seated.{TableId}
use Rattle.st_messages.specs.declared.ticket.Ticket.{Ticket}
use Rattle.st_messages.specs.Tickets.{ticket_of, took_nothing, TakenTickets}
use Rattle.st_law.specs.declared.input.Input.{Input}
use Rattle.st_law.specs.State.{is_live}
use Rattle.st_kernel.specs.Kernel.{RunSoFar, live_number, number_now, state_in}

-- the number that a ticket for a drawing has: the drawing's if it is live, else 0, which no message has
abbrev pub ticket_number : RunSoFar → ℕ → ℕ
ticket_number so_far q = unwrap_or (live_number so_far q) 0

-- one ticket for each of so many drawings after this one, in order
abbrev pub tickets_after : RunSoFar → ℕ → ℕ → List Ticket
tickets_after so_far last zero = []
tickets_after so_far last (suc n) = tickets_after so_far last n ++ ticket_of (last + suc n) (ticket_number so_far (last + suc n)) ∷ []

-- This is the ticket of a drawing: it has its place and its number. If the drawing isn't live, the ticket may have the number 0 instead.
abbrev pub IsTicketOf : RunSoFar → ℕ → Option Ticket → Type 0
IsTicketOf so_far q ticket = (ticket ≡ Some (ticket_of q (number_now so_far q))) ⊎ ((is_live (state_in so_far) q ≡ false) × (ticket ≡ Some (ticket_of q 0)))

-- each drawing of a run has its ticket, in order, and there are no others
pub record AreTicketsOf (so_far : RunSoFar) (tickets : List Ticket) : Type 0 where
  pub count : length tickets ≡ (state_in so_far).posted
  pub numbers : (q : ℕ) → 1 ≤ q → q ≤ (state_in so_far).posted → IsTicketOf so_far q (item_at_number tickets q)

-- how many takers a run has: one for each worker, and one if there is no worker
abbrev pub taker_count : Input → ℕ
taker_count i = max i.options.workers 1

-- the takers of a run before they have taken a ticket, all of this queue
abbrev pub new_takers : Input → TableId → List TakenTickets
new_takers i queue = replicate (taker_count i) (took_nothing queue)
