-- Tickets from one poster to takers: what contracts see of them, the rule of their queue, and what it says of the lists.
use Rattle.std.specs.Prelude.{◌≡◌, ◌≢◌, ◌⊎◌, ℕ, ◌+◌, ◌<◌, ◌≤◌, Bool, true, false, ◌==◌, List, [], ◌∷◌, ◌++◌, Some, map, length, drop, take, slice_get, All, Contains}
use Rattle.std.specs.List.{filter, AllPairs}
use mathlib.Core.Option.{some}
use lib.ListN.{get_elem?}
use Rattle.atomic_table.specs.Seated.{TableId}
use Rattle.crossbeam_queue.specs.Passes.{view, Pass}
use Rattle.st_messages.specs.declared.ticket.Ticket.{Ticket}
use Rattle.st_messages.specs.declared.ticket.TicketList.{TicketList}

-- ---- what contracts see

-- a poster: which queue it has, for how many tickets, and what it posted
pub record PostedTickets : Type 0 where
  pub queue : TableId
  pub capacity : ℕ
  pub tickets : List Ticket

-- a taker: which queue it has, and what it took
pub record TakenTickets : Type 0 where
  pub queue : TableId
  pub tickets : List Ticket

-- a taker of a queue that took nothing
abbrev pub took_nothing : TableId → TakenTickets
took_nothing queue = record { queue = queue; tickets = [] }

-- a ticket with this place and number
abbrev pub ticket_of : ℕ → ℕ → Ticket
ticket_of place seq = record { place = place; seq = seq }

-- a poster after it has posted a number: its list ends with one more ticket, which has the next place
abbrev pub after_posting : PostedTickets → ℕ → PostedTickets
after_posting old seq = record old { tickets = old.tickets ++ ticket_of (length old.tickets + 1) seq ∷ [] }

-- a taker after it has taken a ticket
abbrev pub after_taking : TakenTickets → Ticket → TakenTickets
after_taking old ticket = record old { tickets = old.tickets ++ ticket ∷ [] }

-- a ticket comes after another
abbrev pub IsBefore : Ticket → Ticket → Type 0
IsBefore earlier later = earlier.place < later.place

-- ---- the rule of the queue

-- the list of a poster
abbrev pub posted_list : List Ticket → TicketList
posted_list tickets = record { posts = true; tickets = tickets }

-- the list of a taker
abbrev pub taken_list : List Ticket → TicketList
taken_list tickets = record { posts = false; tickets = tickets }

-- the list that a pass knows
abbrev pub list_of : Pass Ticket TicketList → TicketList
list_of pass = view pass

-- a taking: a ticket, and the pass that took it
pub record Taking : Type 0 where
  pub taker : ℕ
  pub ticket : Ticket

-- the ticket of a taking
abbrev pub ticket_in : Taking → Ticket
ticket_in taking = taking.ticket

-- whether a taking is by this pass
abbrev pub is_by : ℕ → Taking → Bool
is_by taker taking = taking.taker == taker

-- the tickets that one pass took, in order
abbrev pub taken_by : ℕ → List Taking → List Ticket
taken_by taker takings = map ticket_in (filter (is_by taker) takings)

-- tickets have the places from 1 on, in order
abbrev pub AreNumbered : List Ticket → Type 0
AreNumbered tickets = (index : ℕ) (ticket : Ticket) → slice_get tickets index ≡ Some ticket → ticket.place ≡ index + 1

-- The rule of the queue, over the tickets in it and the lists of all passes. One pass is the poster's. What it posted is what was taken, and
-- then what the queue holds. Each other pass has just the tickets that it took.
pub record AreTickets (queue : List Ticket) (lists : List TicketList) : Type 0 where
  pub poster : ℕ
  pub posted : List Ticket
  pub takings : List Taking
  pub numbered : AreNumbered posted
  pub in_order : posted ≡ map ticket_in takings ++ queue
  pub is_poster : get_elem? lists poster ≡ some (posted_list posted)
  pub are_takers : (pass : ℕ) (list : TicketList) → pass ≢ poster → get_elem? lists pass ≡ some list → list ≡ taken_list (taken_by pass takings)
  pub no_others : (pass : ℕ) → (pass ≡ poster) ⊎ (length lists ≤ pass) → taken_by pass takings ≡ []

-- the rule held when the queue held these tickets, and a pass had this list
abbrev pub HadQueue : TicketList → List Ticket → Type 0
HadQueue list queue = (lists : List TicketList) × (pass : ℕ) × AreTickets queue lists × (get_elem? lists pass ≡ some list)

-- what a push tells the poster
abbrev pub IsPosted : TicketList → Ticket → TicketList → Type 0
IsPosted old ticket new = new ≡ posted_list (old.tickets ++ ticket ∷ [])

-- what a full queue tells the poster
abbrev pub HasAtMost : TicketList → List Ticket → Type 0
HasAtMost list queue = length queue ≤ length list.tickets

-- what a pop tells a taker: the ticket was the first of the queue, and has a greater place than all that the taker had
abbrev pub IsTaken : TicketList → Ticket → TicketList → Type 0
IsTaken old ticket new =
    (new ≡ taken_list (old.tickets ++ ticket ∷ [])) × All (λ earlier. IsBefore earlier ticket) old.tickets
    × ((later : List Ticket) × HadQueue old (ticket ∷ later))

-- ---- what the rule says of the lists

-- a pass is a taker's, and this ticket stands in its list
abbrev pub HasTaken : List TicketList → ℕ → Ticket → Type 0
HasTaken lists pass ticket = (tickets : List Ticket) × (get_elem? lists pass ≡ some (taken_list tickets)) × Contains tickets ticket

-- Of what the one poster posted, in the order of places, so many tickets were taken, the first ones, and the queue holds the others. Each
-- that was taken stands in the list of exactly one taker, in the order of places, so once, and no other ticket stands in a taker's list.
pub record AreTakenOnce (queue : List Ticket) (lists : List TicketList) : Type 0 where
  pub poster : ℕ
  pub posted : List Ticket
  pub count : ℕ
  pub is_poster : get_elem? lists poster ≡ some (posted_list posted)
  pub one_poster : (pass : ℕ) (tickets : List Ticket) → get_elem? lists pass ≡ some (posted_list tickets) → pass ≡ poster
  pub numbered : AreNumbered posted
  pub queued : queue ≡ drop count posted
  pub taken : (ticket : Ticket) → Contains (take count posted) ticket
      → (pass : ℕ) × HasTaken lists pass ticket × ((other : ℕ) → HasTaken lists other ticket → other ≡ pass)
  pub no_others : (pass : ℕ) (ticket : Ticket) → HasTaken lists pass ticket → Contains (take count posted) ticket
  pub in_order : (pass : ℕ) (tickets : List Ticket) → get_elem? lists pass ≡ some (taken_list tickets) → AllPairs IsBefore tickets

-- whatever the queue holds and the passes know, the tickets that were taken are the first that were posted, each taken once
abbrev pub TicketsAreTakenOnce : Type 0
TicketsAreTakenOnce = (queue : List Ticket) (lists : List TicketList) → AreTickets queue lists → AreTakenOnce queue lists
