use Rattle.std.specs.Prelude.{◌&&◌, nat_le}
use Rattle.st_threads.specs.Ending.{HaveEnded, ends_with}
use Rattle.st_threads.proofs.ending.end_threads.Given as goal

abbrev pub invariant-loop-i : goal.invariant-loop-i
invariant-loop-i l = HaveEnded (λ t. nat_le t l.i && ends_with l.fn.system.processes l.fn.pid l.fn.spared t) l.fn.threads l.fn.workers l.threads l.workers
