use Rattle.std.proofs.Common.{◌≡◌, replicate, vec_capacity, vec_len}
use Rattle.crossbeam_queue.specs.Passes.{IsSamePass}
use Rattle.st_messages.specs.Tickets.{list_of, took_nothing}
use Rattle.st_messages.proofs.queue.takers_of.Given as goal

abbrev pub invariant-loop : goal.invariant-loop
invariant-loop l =
    IsSamePass l.initial.pass l.pass × (list_of l.pass ≡ list_of l.initial.pass)
    × (l.takers.items ≡ replicate l.counter (took_nothing l.queue.table.shared.table_id))
    × (vec_len l.takers ≡ l.counter)
    × (vec_capacity l.takers ≡ l.count)
