use Rattle.st_resolve.proofs.Joined.{none_left}
use Rattle.st_resolve.proofs.remaining.Remaining.is_empty.Goals as goal

pub returns : goal.returns
returns c = none_left c.self.inside.texts.items c.args.self.now _ c.is_empty.result c.self.view_is c.self.invariant c.self.inside.texts.ok.0 c.is_empty.ensures
