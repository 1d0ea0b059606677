use Rattle.std.proofs.Common.{◌≡◌, arith, ap, sym}
use Rattle.st_model.specs.Processes.{StartedThread}
use Rattle.st_procs.specs.Rows.{counts_of}
use Rattle.st_procs.proofs.Counts.{known}
use Rattle.st_procs.proofs.Kept.{as_many}
use Rattle.st_procs.proofs.procs.Procs.pid_of.Goals as goal

pub returns-in-Some-clause-there : goal.returns-in-Some-clause-there
returns-in-Some-clause-there c =
    let rows = c.self.inside.rows.items in
    let threads = c.self.inside.threads.entries in
    let inside = known (counts_of rows) threads c.self.invariant c.args.tid c.in-Some.thread.now (sym c.in-Some.ensures.value) in
    let same : c.thread.inside.pid ≡ c.in-Some.thread.now.pid = ap (λ (t : StartedThread). t.pid) c.thread.view_is in
    (omega (arith, same, inside.0), omega (arith, same, inside.1, as_many rows threads c.args.self.now c.self.view_is))
