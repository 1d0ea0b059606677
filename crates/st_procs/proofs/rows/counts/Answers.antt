use Rattle.st_procs.specs.Rows.{no_threads}
use Rattle.st_procs.specs.declared.rows.Row.{Row}
use Rattle.st_procs.proofs.Numbered.{at_number-map}
use Rattle.st_procs.proofs.rows.counts.Goals as goal

pub returns : goal.returns
returns c = at_number-map (λ (row : Row). row.threads) c.args.rows.now no_threads c.index-rows-pid.result c.args.pid c.requires.from c.requires.to
