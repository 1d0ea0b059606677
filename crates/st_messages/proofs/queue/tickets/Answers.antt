use Rattle.st_messages.proofs.TicketSteps.{begins}
use Rattle.st_messages.proofs.queue.tickets.Goals as goal

pub ruled-requires-clause-rule : goal.ruled-requires-clause-rule
ruled-requires-clause-rule c = begins
