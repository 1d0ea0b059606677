use Rattle.std.proofs.Common.{◌≡◌, ◌∙◌, None, arith, sym}
use Rattle.st_law.specs.Machine.{entry_of}
use Rattle.st_trace.specs.declared.entry.Choice.TheVariants.{Thread}
use Rattle.st_kernel.specs.Kernel.{state_in}
use Rattle.st_kernel.proofs.Cursors.{one_more}
use Rattle.st_kernel.proofs.Settled.{enabled_of, stuck_of}
use Rattle.st_kernel.proofs.kernel.Kernel.has_thread_enabled.Goals as goal

pub returns-then-enabled-clause-enabled : goal.returns-then-enabled-clause-enabled
returns-then-enabled-clause-enabled c = (c.loop-tid.tid, enabled_of (entry_of c.args.self.now.input (state_in c.args.self.now) (Thread c.loop-tid.tid)) (sym c.if-enabled.true ∙ c.enabled.ensures))

pub loop-tid-preserved : goal.loop-tid-preserved
loop-tid-preserved c = record {
  from = omega arith;
  end = c.loop-tid.invariant.end;
  before = one_more (λ n. entry_of c.args.self.now.input (state_in c.args.self.now) (Thread n) ≡ None) c.loop-tid.tid c.loop-tid.invariant.before
      (stuck_of (entry_of c.args.self.now.input (state_in c.args.self.now) (Thread c.loop-tid.tid)) (sym c.if-enabled.false ∙ c.enabled.ensures));
}
