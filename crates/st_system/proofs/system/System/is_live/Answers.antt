use Rattle.std.proofs.Common.{◌∙◌, subst, sym}
use Rattle.st_system.specs.System.{IsSystem}
use Rattle.st_system.proofs.Same.{live_is}
use Rattle.st_system.proofs.system.System.is_live.Goals as goal

pub returns-clause-law : goal.returns-clause-law
returns-clause-law c = λ i st x. c.alive.ensures.live ∙ sym (live_is i st _ (subst (IsSystem i st) (sym c.self.view_is) x) c.self.invariant.ordered c.args.pid)
