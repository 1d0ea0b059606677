use Rattle.std.proofs.Common.{subst}
use Rattle.st_messages.specs.Messages.{AreValidCalls}
use Rattle.st_messages.proofs.messages.Messages.next_drawing.Goals as goal

pub returns-clause-valid : goal.returns-clause-valid
returns-clause-valid c = subst AreValidCalls c.self.view_is c.self.invariant.0
