use Rattle.st_system.specs.Start.{AreFirst}
use Rattle.st_system.proofs.start.processes_of.Given as goal

abbrev pub invariant-loop-i : goal.invariant-loop-i
invariant-loop-i l = AreFirst l.fn.input l.i l.fds l.procs l.spaces
