use Rattle.std.proofs.Common.{◌≡◌, ◌≤◌, suc}
use Rattle.st_law.specs.State.{thread_count}
use Rattle.st_kernel.specs.Kernel.{NoneMoves}
use Rattle.st_kernel.proofs.kernel.Kernel.move_first.Given as goal

-- no thread that was tried can move
abbrev pub invariant-loop-tid : goal.invariant-loop-tid
invariant-loop-tid l = record {
  same : l.self ≡ l.fn.self;
  from : 1 ≤ l.tid;
  end : l.tid-end ≡ suc (thread_count l.fn.self.input);
  before : NoneMoves l.fn.self l.tid;
}
