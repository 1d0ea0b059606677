use Rattle.std.proofs.Common.{length}
use Rattle.st_fds.specs.Table.{ArePlaces}
use Rattle.st_fds.proofs.Whole.{whole-put, places_at, fields_have}
use Rattle.st_fds.proofs.fds.Fds.copy.Goals as goal

pub invariant_of-self-2 : goal.invariant_of-self-2
invariant_of-self-2 c =
    let count = length c.self.inside.files.items in
    let es = c.self.inside.processes.entries in
    let are : ArePlaces count c.places_of-places.result.now = rw c.places_of-places.ensures (places_at count es c.args.from (fields_have _ _ c.args.from c.self.view_is c.requires.from) c.self.invariant) in
    rw c.in_ok-insert.ensures.entries (whole-put count es _ c.places_of-places.result.now c.self.invariant are)
