use Rattle.st_procs.proofs.Live.{last_ones_end, new_ones_live}
use Rattle.st_procs.proofs.laws.rows_stay_apart.Goals as goal

pub returns-clause-live : goal.returns-clause-live
returns-clause-live c = new_ones_live

pub returns-clause-ended : goal.returns-clause-ended
returns-clause-ended c = last_ones_end
