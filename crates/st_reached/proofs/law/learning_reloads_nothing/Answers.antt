use Rattle.std.proofs.Common.{[]}
use Rattle.st_reached.proofs.NoReloads.{versions_while_learning}
use Rattle.st_reached.proofs.law.learning_reloads_nothing.Goals as goal

pub returns : goal.returns
returns c = λ input startable learns h lawful binary. versions_while_learning input startable learns [] h lawful binary
