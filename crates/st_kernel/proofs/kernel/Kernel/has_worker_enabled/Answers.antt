use Rattle.std.proofs.Common.{◌≡◌, ◌∙◌, None, arith, sym}
use Rattle.st_law.specs.Machine.{entry_of}
use Rattle.st_trace.specs.declared.entry.Choice.TheVariants.{Worker}
use Rattle.st_kernel.specs.Kernel.{state_in}
use Rattle.st_kernel.proofs.Cursors.{one_more}
use Rattle.st_kernel.proofs.Settled.{enabled_of, stuck_of}
use Rattle.st_kernel.proofs.kernel.Kernel.has_worker_enabled.Goals as goal

pub returns-then-enabled : goal.returns-then-enabled
returns-then-enabled c = (c.loop-worker.worker, enabled_of (entry_of c.args.self.now.input (state_in c.args.self.now) (Worker c.loop-worker.worker)) (sym c.if-enabled.true ∙ c.enabled.ensures))

pub loop-worker-preserved : goal.loop-worker-preserved
loop-worker-preserved c = record {
  from = omega arith;
  end = c.loop-worker.invariant.end;
  before = one_more (λ n. entry_of c.args.self.now.input (state_in c.args.self.now) (Worker n) ≡ None) c.loop-worker.worker c.loop-worker.invariant.before
      (stuck_of (entry_of c.args.self.now.input (state_in c.args.self.now) (Worker c.loop-worker.worker)) (sym c.if-enabled.false ∙ c.enabled.ensures));
}
