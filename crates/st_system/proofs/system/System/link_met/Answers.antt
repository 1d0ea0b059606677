use Rattle.std.proofs.Common.{sym}
use Rattle.st_system.proofs.Asking.{met_if, unmet_if}
use Rattle.st_system.proofs.Links.{root_unlinked}
use Rattle.st_system.proofs.system.System.link_met.Goals as goal

pub returns-clause-link : goal.returns-clause-link
returns-clause-link c = rw (sym c.self.view_is) (met_if c.link_met.result _ c.args.call c.args.regs.now c.args.args.now c.args.aliasing c.of-rule.result c.of-rule.ensures c.link_met.ensures)

pub returns-clause-unlinked : goal.returns-clause-unlinked
returns-clause-unlinked c = rw (sym c.self.view_is) (unmet_if c.link_met.result c.self.inside.tree c.args.call c.args.regs.now c.args.args.now c.args.aliasing c.of-rule.result c.of-rule.ensures
    (root_unlinked c.self.inside.tree c.root-root.result c.root-root.ensures.object c.root-root.ensures.made c.root-root.ensures.directory) c.link_met.ensures)
