use Rattle.std.proofs.Common.{◌≡◌, ◌-◌, ◌≤◌, ◌++◌, length}
use Rattle.st_recorded.specs.Tickets.{tickets_after}
use Rattle.st_recorded.proofs.tickets.catch_up.Given as goal

abbrev pub invariant-loop-poster : goal.invariant-loop-poster
invariant-loop-poster g l =
    (l.poster.capacity ≡ l.initial.poster.capacity)
    × (l.poster.queue ≡ l.initial.poster.queue)
    × (length l.poster.tickets ≤ l.drawings)
    × (length l.initial.poster.tickets ≤ length l.poster.tickets)
    × (l.poster.tickets ≡ l.initial.poster.tickets ++ tickets_after l.kernel (length l.initial.poster.tickets) (length l.poster.tickets - length l.initial.poster.tickets))

abbrev pub decreases-loop-poster : goal.decreases-loop-poster
decreases-loop-poster g l = l.drawings - length l.poster.tickets
