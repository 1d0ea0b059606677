use Rattle.std.proofs.Common.{◌≡◌, ◌≤◌, suc, drop, length}
use Rattle.std.specs.Prelude.{All}
use Rattle.st_lookaside.specs.Need.{IsShort}
use Rattle.st_threads.specs.Renewing.{calls_from, cwds_of, pids_of}
use Rattle.st_threads.proofs.renewing.copies_for.Given as goal

abbrev pub invariant-loop-i : goal.invariant-loop-i
invariant-loop-i l = record {
  within : l.i ≤ length l.fn.threads;
  copied : l.cwds.items ≡ cwds_of l.fn.system.processes (calls_from (pids_of l.fn.system.processes l.fn.which) (suc l.i) (drop l.i l.fn.threads));
  short : All IsShort l.cwds.items;
}

abbrev pub decreases-loop-i : goal.decreases-loop-i
decreases-loop-i l = l.i
