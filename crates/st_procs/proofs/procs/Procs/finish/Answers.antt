use Rattle.std.proofs.Common.{◌≡◌, ◌-◌, List, length, arith, ap, ◌∙◌}
use Rattle.std.proofs.lemmas.List.{length-map}
use Rattle.st_base.specs.Numbered.{item_at_number_or, with_item_at_number}
use Rattle.st_procs.specs.Rows.{counts_of, no_threads}
use Rattle.st_procs.specs.declared.rows.Row.{Row}
use Rattle.st_procs.specs.declared.rows.ThreadCounts.{ThreadCounts}
use Rattle.st_procs.proofs.Counts.{ended, known, one_runs, pair}
use Rattle.st_procs.proofs.Kept.{as_many, written_back}
use Rattle.st_procs.proofs.procs.Procs.finish.Goals as goal

pub counts-counts-requires-clause-from : goal.counts-counts-requires-clause-from
counts-counts-requires-clause-from c = (known (counts_of c.self.inside.rows.items) c.self.inside.threads.entries c.self.invariant c.args.tid _ c.end-pid.ensures.pid).0

pub counts-counts-requires-clause-to : goal.counts-counts-requires-clause-to
counts-counts-requires-clause-to c =
    let rows = c.self.inside.rows.items in
    omega (arith, (known (counts_of rows) c.self.inside.threads.entries c.self.invariant c.args.tid _ c.end-pid.ensures.pid).1, length-map rows (λ (row : Row). row.threads), ap length c.deref.ensures.value)

pub overflow_sub-running : goal.overflow_sub-running
overflow_sub-running c =
    let rows = c.self.inside.rows.items in
    let is : c.counts-counts.result ≡ item_at_number_or no_threads (counts_of rows) c.end-pid.result = c.counts-counts.ensures ∙ ap (λ (r : List Row). item_at_number_or no_threads (counts_of r) c.end-pid.result) c.deref.ensures.value in
    omega (arith, ap (λ (n : ThreadCounts). n.running) is, one_runs (counts_of rows) c.self.inside.threads.entries c.self.invariant c.args.tid c.end-pid.result c.end-pid.ensures.pid)

pub set_count-requires-clause-from : goal.set_count-requires-clause-from
set_count-requires-clause-from c = (known (counts_of c.self.inside.rows.items) c.self.inside.threads.entries c.self.invariant c.args.tid _ c.end-pid.ensures.pid).0

pub set_count-requires-clause-to : goal.set_count-requires-clause-to
set_count-requires-clause-to c =
    let rows = c.self.inside.rows.items in
    omega (arith, (known (counts_of rows) c.self.inside.threads.entries c.self.invariant c.args.tid _ c.end-pid.ensures.pid).1, length-map rows (λ (row : Row). row.threads), ap length c.deref_mut.ensures.value)

pub invariant_of-self : goal.invariant_of-self
invariant_of-self c =
    let rows = c.self.inside.rows.items in
    let threads = c.self.inside.threads.entries in
    let pid = c.end-pid.result in
    let is : c.counts-counts.result ≡ item_at_number_or no_threads (counts_of rows) pid = c.counts-counts.ensures ∙ ap (λ (r : List Row). item_at_number_or no_threads (counts_of r) pid) c.deref.ensures.value in
    ended (counts_of rows) threads c.self.invariant c.args.tid pid c.end-pid.ensures.pid c.end-pid.new.threads.entries c.end-pid.ensures.entries c.ranges.tid.fits c.end-pid.ensures.ordered
    _
    (ap counts_of (written_back rows c.set_count.new.rows c.self.inside.rows.len (omega (arith, c.deref_mut.ensures.len, ap length c.deref_mut.ensures.value)) (omega (arith, c.set_count.auto.rows, ap length c.deref_mut.ensures.value)))
    ∙ c.set_count.ensures.counts
    ∙ ap (λ (r : List Row). with_item_at_number (counts_of r) pid (pair c.counts-counts.result.begun (c.counts-counts.result.running - 1))) c.deref_mut.ensures.value
    ∙ ap (λ (n : ThreadCounts). with_item_at_number (counts_of rows) pid (pair n.begun (n.running - 1))) is)

pub returns-clause-there : goal.returns-clause-there
returns-clause-there c =
    let rows = c.self.inside.rows.items in
    let threads = c.self.inside.threads.entries in
    let inside = known (counts_of rows) threads c.self.invariant c.args.tid _ c.end-pid.ensures.pid in
    (inside.0, omega (arith, inside.1, as_many rows threads c.args.self.now c.self.view_is))
