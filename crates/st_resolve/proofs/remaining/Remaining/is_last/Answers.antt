use Rattle.std.proofs.Common.{◌∙◌}
use Rattle.st_resolve.proofs.Joined.{several_left}
use Rattle.st_resolve.proofs.remaining.Remaining.is_last.Goals as goal

pub returns-else-len-eq1 : goal.returns-else-len-eq1
returns-else-len-eq1 c =
    several_left c.self.inside.texts.items c.args.self.now c.len.result c.self.view_is c.self.invariant (c.len.ensures ∙ c.self.inside.texts.ok.0) c.requires c.if-len-eq1.false
