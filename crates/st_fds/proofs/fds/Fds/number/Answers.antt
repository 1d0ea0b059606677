use Rattle.std.proofs.Common.{None, length, arith, get_or, ap, sym, ◌∙◌}
use Rattle.std.proofs.Math.ListN.{get_or-eq_default}
use Rattle.st_model.specs.Descriptors.{Table, file_number_at, places_in}
use Rattle.st_fds.proofs.Whole.{place_within, places_at, fields_have}
use Rattle.st_fds.proofs.fds.Fds.number.Goals as goal

pub returns-then-fd-clause-within : goal.returns-then-fd-clause-within
returns-then-fd-clause-within c =
    let count = length c.self.inside.files.items in
    let are = places_at count c.self.inside.processes.entries c.args.pid (fields_have _ _ c.args.pid c.self.view_is c.requires) c.self.invariant in
    place_within _ _ (get_or c.places_of-places.result.now c.args.fd None) c.self.view_is (rw c.places_of-places.ensures (are.1 c.args.fd None (omega (arith, are.0))))

pub returns-else-fd-clause-number : goal.returns-else-fd-clause-number
returns-else-fd-clause-number c =
    let count = length c.self.inside.files.items in
    let are = places_at count c.self.inside.processes.entries c.args.pid (fields_have _ _ c.args.pid c.self.view_is c.requires) c.self.invariant in
    sym (get_or-eq_default (places_in c.self.inside.processes.entries c.args.pid) None (omega (arith, are.0, c.if-fd.false))) ∙
    ap (λ (t : Table). file_number_at t c.args.pid c.args.fd) c.self.view_is
