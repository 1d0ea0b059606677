use Rattle.std.proofs.Common.{◌≡◌, ◌≤◌, ◌<◌, ℕ, suc, None}
use Rattle.st_law.specs.Machine.{entry_of}
use Rattle.st_trace.specs.declared.entry.Choice.TheVariants.{Worker}
use Rattle.st_kernel.specs.Kernel.{state_in}
use Rattle.st_kernel.proofs.kernel.Kernel.has_worker_enabled.Given as goal

-- no worker that was tried can move
abbrev pub invariant-loop-worker : goal.invariant-loop-worker
invariant-loop-worker l = record {
  from : 1 ≤ l.worker;
  end : l.worker-end ≡ suc (l.fn.self.input.options.workers);
  before : (n : ℕ) → 1 ≤ n → n < l.worker → entry_of l.fn.self.input (state_in l.fn.self) (Worker n) ≡ None;
}
