use Rattle.std.proofs.Common.{refl}
use Rattle.st_procs.specs.declared.rows.Row.{Row}
use Rattle.st_procs.proofs.Kept.{same_processes}
use Rattle.st_procs.proofs.Numbered.{put_number-map}
use Rattle.st_procs.proofs.rows.set_count.Goals as goal

pub returns-clause-counts : goal.returns-clause-counts
returns-clause-counts c = put_number-map (λ (row : Row). row.threads) c.args.rows.now _ c.args.pid c.requires.from

pub returns-clause-processes : goal.returns-clause-processes
returns-clause-processes c = same_processes c.args.rows.now c.args.pid c.index-rows-pid.result _ refl
