use Rattle.std.proofs.Common.{◌∙◌}
use Rattle.st_glob.proofs.Steps.{open-bracket-taken_len}
use Rattle.st_glob.proofs.item.taken_len.Goals as goal

pub returns-in-91-clause-is : goal.returns-in-91-clause-is
returns-in-91-clause-is c = c.then_some-in-91.ensures ∙ open-bracket-taken_len c.args.first c.args.byte c.args.following.now c.in-91.is (c.requires c.if-unclosed.true)
