use Rattle.st_model.specs.Processes.{no_process}
use Rattle.st_procs.specs.Rows.{process_of}
use Rattle.st_procs.specs.declared.rows.Row.{Row}
use Rattle.st_procs.proofs.Numbered.{at_number-map}
use Rattle.st_procs.proofs.rows.process.Goals as goal

pub returns : goal.returns
returns c = at_number-map (λ (row : Row). process_of row.process) c.args.rows.now no_process c.index-rows-pid.result c.args.pid c.requires.from c.requires.to
