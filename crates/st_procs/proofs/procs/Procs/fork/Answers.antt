use Rattle.std.proofs.Common.{◌≡◌, ◌+◌, ◌==◌, false, cond, Option, Some, suc, length, arith, ap, ◌∙◌}
use Rattle.std.proofs.lemmas.List.{length-map, map-append}
use Rattle.std.specs.BTreeMap.{is_at}
use Rattle.std.specs.Map.{lookup}
use Rattle.std.specs.Ordering.{nat_cmp}
use Rattle.st_model.specs.Processes.{Processes, StartedThread, thread_at, next_pid}
use Rattle.st_procs.specs.Rows.{counts_of}
use Rattle.st_procs.specs.declared.rows.Row.{Row}
use Rattle.st_procs.proofs.Counts.{forked}
use Rattle.st_procs.proofs.Kept.{as_many, not_started}
use Rattle.st_base.proofs.Insertions.{lookup-insert_number}
use Rattle.st_procs.proofs.procs.Procs.fork.Goals as goal

pub invariant_of-self-2 : goal.invariant_of-self-2
invariant_of-self-2 c =
    let rows = c.self.inside.rows.items in
    let threads = c.self.inside.threads.entries in
    let none = not_started rows threads c.args.self.now c.args.tid c.self.view_is c.requires.thread in
    let child : c.len.result + 1 ≡ suc (length (counts_of rows)) = omega (arith, c.len.ensures, length-map rows (λ (row : Row). row.threads)) in
    forked (counts_of rows) threads c.self.invariant c.args.tid (c.len.result + 1) c.begin.new.threads.entries c.in_ok-begin.ensures.entries none c.ranges.tid.fits c.in_ok-begin.ensures.ordered
    (counts_of c.push_reserved.new.self.items)
    (rw (c.push_reserved.ensures.items, c.in_ok-reserve.ensures.items) (map-append (λ (row : Row). row.threads) rows _))
    child
    (omega (arith, c.requires.room, as_many rows threads c.args.self.now c.self.view_is))

pub returns-clause-threads : goal.returns-clause-threads
returns-clause-threads c = λ other.
    let rows = c.self.inside.rows.items in
    let fresh : StartedThread = record { pid = c.len.result + 1; ended = false } in
    let child : c.len.result + 1 ≡ next_pid c.args.self.now = omega (arith, c.len.ensures, length-map rows (λ (row : Row). row.threads), as_many rows c.self.inside.threads.entries c.args.self.now c.self.view_is) in
    ap (λ es. lookup (is_at (nat_cmp other)) es) c.in_ok-begin.ensures.entries
    ∙ lookup-insert_number other c.args.tid fresh c.self.inside.threads.entries
    ∙ ap (λ (p : Processes). cond (other == c.args.tid) (Some fresh) (thread_at p other)) c.self.view_is
    ∙ ap (λ pid. cond {A = Option StartedThread} (other == c.args.tid) (Some (record { pid = pid; ended = false })) (thread_at c.args.self.now other)) child
