use Rattle.std.proofs.Common.{refl}
use Rattle.st_model.specs.Process.{Process}
use Rattle.st_procs.proofs.Kept.{changed, same_counts}
use Rattle.st_procs.proofs.rows.set_cwd.Goals as goal

pub returns-clause-counts : goal.returns-clause-counts
returns-clause-counts c = same_counts c.args.rows.now c.args.pid c.index-rows-pid.result _ refl

pub returns-clause-processes : goal.returns-clause-processes
returns-clause-processes c = changed c.args.rows.now c.args.pid c.index-rows-pid.result _ (λ (process : Process). record process { cwd = c.args.cwd }) c.requires.from c.requires.to refl
