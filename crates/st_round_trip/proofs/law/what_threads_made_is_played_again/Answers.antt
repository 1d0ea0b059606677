use Rattle.st_round_trip.proofs.ThreadsAgain.{step_writes, threads_again}
use Rattle.st_round_trip.proofs.law.what_threads_made_is_played_again.Goals as goal

pub returns-clause-plays : goal.returns-clause-plays
returns-clause-plays c = threads_again (λ contents threaded input limits meant. (c.what_run_means_can_run.ensures.runnable contents threaded input limits meant).startable) c.what_run_means_step_means.ensures c.a_printed_schedule_is_read_again.ensures.enabled

pub returns-clause-writes : goal.returns-clause-writes
returns-clause-writes c = step_writes (λ contents threaded input limits meant. (c.what_run_means_can_run.ensures.runnable contents threaded input limits meant).startable) c.what_run_means_step_means.ensures c.a_printed_schedule_is_read_again.ensures.enabled
