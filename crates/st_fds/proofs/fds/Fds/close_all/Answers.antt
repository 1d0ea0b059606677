use Rattle.std.proofs.Common.{length}
use Rattle.st_model.specs.DescriptorCalls.{all_free}
use Rattle.st_fds.proofs.Whole.{whole-put, free_places}
use Rattle.st_fds.proofs.fds.Fds.close_all.Goals as goal

pub invariant_of-self : goal.invariant_of-self
invariant_of-self c =
    let count = length c.self.inside.files.items in
    rw c.put.ensures.entries (whole-put count c.self.inside.processes.entries c.args.pid all_free c.self.invariant (free_places count))
