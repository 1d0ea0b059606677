use Rattle.std.proofs.Common.{◌∙◌, List, ap, length, subst, sym}
use Rattle.st_threads.proofs.RenewedLaw.{count_renewed}
use Rattle.st_threads.specs.Renewing.{HaveRenewed, calls_from, pids_of, renewals_from, AreNumberedFrom}
use Rattle.st_threads.specs.Thread.{ThreadRow}
use Rattle.st_workers.proofs.Turns.{whole_again}
use Rattle.st_machine.proofs.reloading.renew_calls.Goals as goal

pub returns-clause-renewed : goal.returns-clause-renewed
returns-clause-renewed c =
    let pids = pids_of c.args.system.now.processes c.args.which in
    let whole = whole_again c.renew_all.new.threads c.args.threads.now.items c.args.threads.now.len c.args.threads.now.ok.0
    (ap (λ (rows : List ThreadRow). length rows) c.renew_all.ensures.renewed.rows_are ∙ count_renewed pids c.deref_mut.result.now 1 c.args.workers.now.calls.next ∙ ap (λ (rows : List ThreadRow). length rows) c.deref_mut.ensures.value) in
    subst (λ (rows : List ThreadRow). HaveRenewed c.args.system.now.processes pids c.args.plan.version c.args.threads.now.items c.args.workers.now rows c.renew_all.new.workers) (sym whole)
    (subst (λ (rows : List ThreadRow). HaveRenewed c.args.system.now.processes pids c.args.plan.version rows c.args.workers.now c.renew_all.new.threads c.renew_all.new.workers) c.deref_mut.ensures.value c.renew_all.ensures.renewed)

pub returns-clause-changes : goal.returns-clause-changes
returns-clause-changes c =
    let changes = c.renew_all.ensures.changes in (
      changes.0,
      c.of.ensures ∙ changes.1,
      subst (λ (rows : List ThreadRow). AreNumberedFrom c.args.workers.now (renewals_from c.args.workers.now.calls.next (calls_from (pids_of c.args.system.now.processes c.args.which) 1 rows)) changes.0) c.deref_mut.ensures.value changes.2,
    )
