use Rattle.std.proofs.Common.{◌≡◌, ◌≤◌, ◌<◌, ℕ, suc, None}
use Rattle.st_law.specs.Machine.{entry_of}
use Rattle.st_law.specs.State.{thread_count}
use Rattle.st_trace.specs.declared.entry.Choice.TheVariants.{Thread}
use Rattle.st_kernel.specs.Kernel.{state_in}
use Rattle.st_kernel.proofs.kernel.Kernel.has_thread_enabled.Given as goal

-- no thread that was tried can move
abbrev pub invariant-loop-tid : goal.invariant-loop-tid
invariant-loop-tid l = record {
  from : 1 ≤ l.tid;
  end : l.tid-end ≡ suc (thread_count l.fn.self.input);
  before : (n : ℕ) → 1 ≤ n → n < l.tid → entry_of l.fn.self.input (state_in l.fn.self) (Thread n) ≡ None;
}
