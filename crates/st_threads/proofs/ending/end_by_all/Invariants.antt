use Rattle.std.specs.Prelude.{drop, List}
use Rattle.st_workers.specs.UnderWay.{UnderWay}
use Rattle.st_threads.specs.Ending.{HaveCalls, HaveEnded, is_ended_by}
use Rattle.st_threads.specs.Thread.{ThreadRow}
use Rattle.st_threads.proofs.ending.end_by_all.Given as goal

-- what the remaining changes end, and those before them, is what all of them end
abbrev pub invariant-loop-change : goal.invariant-loop-change
invariant-loop-change l = HaveCalls l.threads l.workers
    × ((new : List ThreadRow) (left : UnderWay) → HaveEnded (is_ended_by l.fn.system.processes l.fn.caller.tid l.fn.caller.pid (drop l.change-index l.fn.changes)) l.threads l.workers new left
    → HaveEnded (is_ended_by l.fn.system.processes l.fn.caller.tid l.fn.caller.pid l.fn.changes) l.fn.threads l.fn.workers new left)
