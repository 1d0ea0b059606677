use Rattle.std.proofs.Common.{◌≡◌, ◌+◌, length}
use Rattle.test_tickets.proofs.threads.post_all.Given as goal

abbrev pub invariant-loop-seq : goal.invariant-loop-seq
invariant-loop-seq g l = (length l.poster.tickets ≡ length l.initial.poster.tickets + l.seq) × (l.poster.capacity ≡ l.initial.poster.capacity)
