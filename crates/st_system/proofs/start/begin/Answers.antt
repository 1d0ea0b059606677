use Rattle.st_system.proofs.Begun.{ordered_ok}
use Rattle.st_system.proofs.start.begin.Goals as goal

pub returns-clause-ordered : goal.returns-clause-ordered
returns-clause-ordered c = ordered_ok c.begin.result _ _ c.args.tid c.args.owner c.begin.ensures.ok
