use Rattle.std.proofs.Common.{◌∙◌, ap}
use Rattle.st_resolve.specs.Remaining.{joined_components}
use Rattle.st_resolve.proofs.Joined.{joined_last}
use Rattle.st_resolve.proofs.remaining.put_back.Goals as goal

pub returns-then-not-is_empty-clause-joined : goal.returns-then-not-is_empty-clause-joined
returns-then-not-is_empty-clause-joined c = ap joined_components c.push_reserved.ensures.items ∙ joined_last c.args.texts.now.items c.args.text
