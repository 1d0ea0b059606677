use Rattle.st_messages.proofs.TicketSteps.{forks}
use Rattle.st_messages.proofs.queue.Taker.new.Goals as goal

pub another-pass-requires-clause-rule : goal.another-pass-requires-clause-rule
another-pass-requires-clause-rule c = forks _ _
