use Rattle.std.proofs.Common.{◌∙◌, sym}
use Rattle.st_system.proofs.Asking.{asked_if}
use Rattle.st_system.proofs.system.System.arguments.Goals as goal

pub returns : goal.returns
returns c =
    rw (sym c.self.view_is) (asked_if _ c.args.tid c.in-Some.pid c.in-Some.ensures.pid (c.self.invariant.ready c.in-Some.pid c.in-Some.ensures.there).space c.args.call c.args.regs.now c.args.aliasing
    c.of.result c.get.result.now c.space.result c.of.ensures (c.get.ensures ∙ c.cwd.ensures) c.space.ensures c.arguments_in.result c.arguments_in.ensures)
