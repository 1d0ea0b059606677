use Rattle.std.proofs.Common.{◌∙◌, sym}
use Rattle.st_resolve.proofs.Firsts.{name_first}
use Rattle.st_resolve.proofs.walk.first_step.Goals as goal

pub returns-in-None : goal.returns-in-None
returns-in-None c = λ follow. name_first c.args.text.now c.args.cwd.now follow c.requires c.in-None.ensures (sym c.is_way_up.ensures ∙ c.if-is_way_up.true)
