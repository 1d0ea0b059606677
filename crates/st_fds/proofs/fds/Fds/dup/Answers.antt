use Rattle.std.proofs.Common.{refl, Some, length, arith, ◌<◌, sym, subst}
use Rattle.st_model.specs.Descriptors.{Table}
use Rattle.st_fds.proofs.Whole.{one_place, fields_have}
use Rattle.st_fds.proofs.fds.Fds.dup.Goals as goal

pub invariant_of-self : goal.invariant_of-self
invariant_of-self c =
    let count = length c.self.inside.files.items in
    one_place count count c.self.inside.processes.entries _ _ _ (Some c.in-Ok.number) _
    c.self.invariant (fields_have _ _ c.args.pid c.self.view_is c.requires) refl c.set_place.ensures.entries (omega arith)
    (subst (λ (t : Table). c.in-Ok.number < length t.files) (sym c.self.view_is) c.in-Ok.ensures.within)
