use Rattle.st_reading.proofs.RunMeanings.{run_can_run, run_has_no_lines, run_prints_nothing}
use Rattle.st_reading.proofs.law.what_run_means_can_run.Goals as goal

pub returns-clause-runnable : goal.returns-clause-runnable
returns-clause-runnable c = run_can_run c.what_is_replied_grants_no_ids_for_setting.ensures c.what_is_reloaded_grants_no_ids_for_setting.ensures

pub returns-clause-lines : goal.returns-clause-lines
returns-clause-lines c = run_has_no_lines

pub returns-clause-text : goal.returns-clause-text
returns-clause-text c = run_prints_nothing
