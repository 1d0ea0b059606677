use Rattle.std.proofs.Common.{◌∙◌, ap, map, refl}
use Rattle.st_trace.specs.declared.start.ThreadRow as start
use Rattle.st_threads.specs.Thread.{first_row}
use Rattle.st_machine.proofs.machine.workers_and_threads.Goals as goal

pub returns-clause-workers : goal.returns-clause-workers
returns-clause-workers c = c.in_ok-new.ensures.kept c.args.input.now refl

pub returns-clause-threads : goal.returns-clause-threads
returns-clause-threads c = c.in_ok-threads.ensures ∙ ap (map (λ (row : start.ThreadRow). first_row row.body)) c.as_slice.ensures
