use Rattle.std.proofs.Common.{length, arith, ◌≡◌, ◌+◌, ◌≤◌}
use Rattle.st_model.specs.DescriptorCalls.{first_three_places}
use Rattle.st_fds.proofs.Whole.{whole-put, whole-more_files, places_more, three_places}
use Rattle.st_fds.proofs.fds.Fds.start.Goals as goal

pub invariant_of-self-2 : goal.invariant_of-self-2
invariant_of-self-2 c =
    let count = length c.self.inside.files.items in
    let after = length c.push_reserved-3.new.self.items in
    let first = c.len-first.result in
    let es = c.self.inside.processes.entries in
    let first_is : first ≡ count = omega (arith, c.len-first.ensures) in
    let larger : first + 3 ≤ after = omega (arith, first_is, c.push_reserved-3.ensures.len, c.push_reserved-2.ensures.len, c.push_reserved.ensures.len, c.in_ok-reserve.ensures.len) in
    rw c.in_ok-insert.ensures.entries (whole-put after es c.args.pid (first_three_places first) (whole-more_files count after es (omega arith) c.self.invariant) (places_more (first + 3) after (first_three_places first) larger (three_places first)))
