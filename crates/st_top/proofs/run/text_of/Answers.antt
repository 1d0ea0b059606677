use Rattle.st_top.proofs.run.text_of.Goals as goal

pub returns-in-Trace : goal.returns-in-Trace
returns-in-Trace c = rw c.in-Trace.is (c.trace_of.ensures c.args.emulation)

pub returns-in-Schedule : goal.returns-in-Schedule
returns-in-Schedule c = rw c.in-Schedule.is (c.schedule_of.ensures c.args.emulation)
