use Rattle.std.proofs.Common.{arith}
use Rattle.std.proofs.lemmas.List.{map-append}
use Rattle.st_procs.specs.Rows.{counts_of}
use Rattle.st_procs.specs.declared.rows.Row.{Row}
use Rattle.st_procs.proofs.Counts.{started}
use Rattle.st_procs.proofs.Kept.{as_many}
use Rattle.st_procs.proofs.procs.Procs.start.Goals as goal

pub invariant_of-self-2 : goal.invariant_of-self-2
invariant_of-self-2 c =
    let rows = c.self.inside.rows.items in
    let threads = c.self.inside.threads.entries in
    rw (c.in_ok-push.ensures.items, map-append (λ (row : Row). row.threads))
    (started (counts_of rows) threads c.self.invariant (omega (arith, c.requires, as_many rows threads c.args.self.now c.self.view_is)))
