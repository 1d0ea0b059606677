use Rattle.std.proofs.Common.{◌-◌, get_or, refl, ap}
use Rattle.st_model.specs.Process.{Process}
use Rattle.st_model.specs.Processes.{process_after_exec}
use Rattle.st_procs.specs.Rows.{process_of}
use Rattle.st_procs.proofs.Kept.{changed, policy-kept, same_counts, policy-taken}
use Rattle.st_procs.proofs.rows.execute.Goals as goal

pub returns-then-not-inherit-clause-counts : goal.returns-then-not-inherit-clause-counts
returns-then-not-inherit-clause-counts c = same_counts c.args.rows.now c.args.pid c.index-rows-pid.result _ refl

pub returns-then-not-inherit-clause-processes : goal.returns-then-not-inherit-clause-processes
returns-then-not-inherit-clause-processes c =
    let before = (get_or c.args.rows.now (c.args.pid - 1) c.index-rows-pid.result).process in
    changed c.args.rows.now c.args.pid c.index-rows-pid.result _ (λ (process : Process). process_after_exec process c.args.binary c.args.space c.args.inherit) c.requires.from c.requires.to
    (ap (λ policy. record (process_of before) { policy = policy; space = c.args.space }) (policy-taken c.args.inherit before.binary c.args.binary c.if-not-inherit.true))

pub returns-else-not-inherit-clause-counts : goal.returns-else-not-inherit-clause-counts
returns-else-not-inherit-clause-counts c = same_counts c.args.rows.now c.args.pid c.index-rows-pid.result _ refl

pub returns-else-not-inherit-clause-processes : goal.returns-else-not-inherit-clause-processes
returns-else-not-inherit-clause-processes c =
    let before = (get_or c.args.rows.now (c.args.pid - 1) c.index-rows-pid.result).process in
    changed c.args.rows.now c.args.pid c.index-rows-pid.result _ (λ (process : Process). process_after_exec process c.args.binary c.args.space c.args.inherit) c.requires.from c.requires.to
    (ap (λ policy. record (process_of before) { policy = policy; space = c.args.space }) (policy-kept c.args.inherit before.binary c.args.binary c.if-not-inherit.false))
