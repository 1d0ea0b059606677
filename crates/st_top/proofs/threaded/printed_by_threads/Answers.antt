use Rattle.st_top.proofs.threaded.printed_by_threads.Goals as goal

pub returns-in-Trace : goal.returns-in-Trace
returns-in-Trace g c = rw c.in-Trace.is (c.trace_by_threads.ensures c.args.asked.emulation)

pub returns-in-Schedule : goal.returns-in-Schedule
returns-in-Schedule g c = rw c.in-Schedule.is (c.schedule_by_threads.ensures c.args.asked.emulation)
