use Rattle.std.proofs.Common.{◌≡◌, ◌∙◌, true, false, None, subst, arith}
use Rattle.st_law.specs.Machine.{entry_of}
use Rattle.st_trace.specs.declared.entry.Choice.TheVariants.{Worker}
use Rattle.st_kernel.specs.Kernel.{RunSoFar, IsChosen, state_in}
use Rattle.st_kernel.proofs.Cursors.{one_more}
use Rattle.st_kernel.proofs.kernel.Kernel.serve_first.Goals as goal

pub loop-worker-preserved : goal.loop-worker-preserved
loop-worker-preserved c =
    let chosen : IsChosen c.loop-worker.self (Worker c.loop-worker.worker) false c.choose.new.added c.choose.new.self = subst (λ moved. IsChosen c.loop-worker.self (Worker c.loop-worker.worker) moved c.choose.new.added c.choose.new.self) c.if-branch.false c.in_ok-choose.ensures.chosen in
    record {
      same = chosen.2 ∙ c.loop-worker.invariant.same;
      from = omega arith;
      end = c.loop-worker.invariant.end;
      before = one_more (λ n. entry_of c.args.self.now.input (state_in c.args.self.now) (Worker n) ≡ None) c.loop-worker.worker c.loop-worker.invariant.before
          (subst (λ (so_far : RunSoFar). entry_of so_far.input (state_in so_far) (Worker c.loop-worker.worker) ≡ None) c.loop-worker.invariant.same chosen.1);
    }

pub returns-then-branch-clause-made : goal.returns-then-branch-clause-made
returns-then-branch-clause-made c =
    let made : IsChosen c.loop-worker.self (Worker c.loop-worker.worker) true c.choose.new.added c.choose.new.self = subst (λ moved. IsChosen c.loop-worker.self (Worker c.loop-worker.worker) moved c.choose.new.added c.choose.new.self) c.if-branch.true c.in_ok-choose.ensures.chosen in
    let chosen : IsChosen c.args.self.now (Worker c.loop-worker.worker) true c.choose.new.added c.choose.new.self = subst (λ (so_far : RunSoFar). IsChosen so_far (Worker c.loop-worker.worker) true c.choose.new.added c.choose.new.self) c.loop-worker.invariant.same made in (
      chosen.0,
      chosen.1,
      record {
        number = c.loop-worker.worker;
        from = omega arith;
        to = omega arith;
        before = c.loop-worker.invariant.before;
        adds = chosen.2;
        made = chosen.3;
      },
    )
