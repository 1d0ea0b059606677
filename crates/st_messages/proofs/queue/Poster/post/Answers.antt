use Rattle.std.proofs.Common.{◌+◌, ap}
use Rattle.st_messages.specs.declared.ticket.TicketList.{TicketList}
use Rattle.st_messages.proofs.TicketSteps.{at_most_posted, pushes}
use Rattle.st_messages.proofs.queue.Poster.post.Goals as goal

pub push_as-requires-clause-rule : goal.push_as-requires-clause-rule
push_as-requires-clause-rule g c =
    let may = ap (λ (l : TicketList). l.posts) c.self.invariant.1 in
    (pushes _ _ _ _ may (ap (λ n. n + 1) c.self.invariant.3), at_most_posted _ _ may)
