use Rattle.std.proofs.Common.{◌≡◌, ◌+◌, ◌==◌, false, cond, Some, List, length, arith, ap, ◌∙◌}
use Rattle.std.specs.BTreeMap.{is_at}
use Rattle.std.specs.Map.{lookup}
use Rattle.std.specs.Ordering.{nat_cmp}
use Rattle.st_model.specs.Processes.{Processes, StartedThread, thread_at, is_thread_of, is_running_in}
use Rattle.st_base.specs.Numbered.{item_at_number_or, with_item_at_number}
use Rattle.st_procs.specs.Rows.{counts_of, no_threads}
use Rattle.st_procs.specs.declared.rows.Row.{Row}
use Rattle.st_procs.specs.declared.rows.ThreadCounts.{ThreadCounts}
use Rattle.st_procs.proofs.Counts.{begun, fits, pair}
use Rattle.st_procs.proofs.Kept.{as_many, not_started, written_back}
use Rattle.st_base.proofs.Insertions.{lookup-insert_number}
use Rattle.st_procs.proofs.procs.Procs.begin.Goals as goal

pub overflow_add-more : goal.overflow_add-more
overflow_add-more c =
    let rows = c.self.inside.rows.items in
    let is : c.counts-counts.result ≡ item_at_number_or no_threads (counts_of rows) c.args.pid = c.counts-counts.ensures ∙ ap (λ (r : List Row). item_at_number_or no_threads (counts_of r) c.args.pid) c.deref.ensures.value in
    omega (arith, ap (λ (n : ThreadCounts). n.begun) (is ∙ c.self.invariant.counted c.args.pid), fits (counts_of rows) c.self.inside.threads.entries c.self.invariant (is_thread_of c.args.pid))

pub overflow_add-more-2 : goal.overflow_add-more-2
overflow_add-more-2 c =
    let rows = c.self.inside.rows.items in
    let is : c.counts-counts.result ≡ item_at_number_or no_threads (counts_of rows) c.args.pid = c.counts-counts.ensures ∙ ap (λ (r : List Row). item_at_number_or no_threads (counts_of r) c.args.pid) c.deref.ensures.value in
    omega (arith, ap (λ (n : ThreadCounts). n.running) (is ∙ c.self.invariant.counted c.args.pid), fits (counts_of rows) c.self.inside.threads.entries c.self.invariant (is_running_in c.args.pid))

pub invariant_of-self-2 : goal.invariant_of-self-2
invariant_of-self-2 c =
    let rows = c.self.inside.rows.items in
    let threads = c.self.inside.threads.entries in
    let none = not_started rows threads c.args.self.now c.args.tid c.self.view_is c.requires.thread in
    let is : c.counts-counts.result ≡ item_at_number_or no_threads (counts_of rows) c.args.pid = c.counts-counts.ensures ∙ ap (λ (r : List Row). item_at_number_or no_threads (counts_of r) c.args.pid) c.deref.ensures.value in
    begun (counts_of rows) threads c.self.invariant c.args.tid c.args.pid c.begin.new.threads.entries c.in_ok-begin.ensures.entries none c.ranges.tid.fits c.in_ok-begin.ensures.ordered
    _
    (ap counts_of (written_back rows c.set_count.new.rows c.self.inside.rows.len (omega (arith, c.deref_mut.ensures.len, ap length c.deref_mut.ensures.value)) (omega (arith, c.set_count.auto.rows, ap length c.deref_mut.ensures.value)))
    ∙ c.set_count.ensures.counts
    ∙ ap (λ (r : List Row). with_item_at_number (counts_of r) c.args.pid (pair (c.counts-counts.result.begun + 1) (c.counts-counts.result.running + 1))) c.deref_mut.ensures.value
    ∙ ap (λ (n : ThreadCounts). with_item_at_number (counts_of rows) c.args.pid (pair (n.begun + 1) (n.running + 1))) is)
    c.requires.process.0
    (omega (arith, c.requires.process.1, as_many rows threads c.args.self.now c.self.view_is))

pub returns-clause-threads : goal.returns-clause-threads
returns-clause-threads c = λ other.
    let fresh : StartedThread = record { pid = c.args.pid; ended = false } in
    ap (λ es. lookup (is_at (nat_cmp other)) es) c.in_ok-begin.ensures.entries
    ∙ lookup-insert_number other c.args.tid fresh c.self.inside.threads.entries
    ∙ ap (λ (p : Processes). cond (other == c.args.tid) (Some fresh) (thread_at p other)) c.self.view_is
