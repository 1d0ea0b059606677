use Rattle.std.specs.Prelude.{◌≡◌, ◌≤◌, ◌+◌, All, length, vec_capacity}
use Rattle.st_lookaside.specs.Need.{IsShort}
use Rattle.st_threads.specs.Renewing.{pids_of}
use Rattle.st_threads.proofs.Renewed.{RenewedSoFar}
use Rattle.st_threads.proofs.renewing.renew_all.Given as goal

abbrev pub invariant-loop-i : goal.invariant-loop-i
invariant-loop-i l = record {
  so_far : RenewedSoFar l.fn.system.processes (pids_of l.fn.system.processes l.fn.which) l.fn.plan.version l.fn.threads l.fn.workers l.i l.threads l.workers l.plan.cwds.items l.fn.plan.changes.items l.plan.changes.items;
  version : l.plan.version ≡ l.fn.plan.version;
  short : All IsShort l.plan.cwds.items;
  space : length l.plan.changes.items + length l.plan.cwds.items ≤ vec_capacity l.plan.changes;
}
