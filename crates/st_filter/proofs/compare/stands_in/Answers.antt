use Rattle.std.proofs.Common.{◌∙◌}
use Rattle.st_filter.proofs.Substrings.{finds}
use Rattle.st_filter.proofs.compare.stands_in.Goals as goal

pub returns : goal.returns
returns c = c.is_some.ensures ∙ finds c.args.text.now c.args.argument.now c.find.result c.find.ensures
