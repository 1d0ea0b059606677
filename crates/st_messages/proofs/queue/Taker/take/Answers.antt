use Rattle.std.proofs.Common.{ap}
use Rattle.st_messages.specs.declared.ticket.TicketList.{TicketList}
use Rattle.st_messages.proofs.TicketSteps.{had_queue, pops}
use Rattle.st_messages.proofs.queue.Taker.take.Goals as goal

pub pop_as-requires-clause-rule : goal.pop_as-requires-clause-rule
pop_as-requires-clause-rule g c = (pops _ _ (ap (λ (l : TicketList). l.posts) c.self.invariant.1), had_queue _ _)
