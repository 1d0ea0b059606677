use Rattle.st_system.specs.Start.{HaveStarted}
use Rattle.st_system.proofs.start.begin_threads.Given as goal

abbrev pub invariant-loop-i : goal.invariant-loop-i
invariant-loop-i l = HaveStarted l.fn.input l.i l.fn.procs l.procs
