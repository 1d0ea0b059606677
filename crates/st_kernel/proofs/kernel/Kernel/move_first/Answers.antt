use Rattle.std.proofs.Common.{◌≡◌, ◌∙◌, true, false, None, subst, arith}
use Rattle.st_law.specs.Machine.{thread_entry}
use Rattle.st_trace.specs.declared.entry.Choice.TheVariants.{Thread}
use Rattle.st_kernel.specs.Kernel.{RunSoFar, IsTried, state_in}
use Rattle.st_kernel.proofs.Cursors.{one_more}
use Rattle.st_kernel.proofs.kernel.Kernel.move_first.Goals as goal

pub loop-tid-preserved : goal.loop-tid-preserved
loop-tid-preserved c =
    let tried : IsTried c.loop-tid.self (Thread c.loop-tid.tid) false c.move_here.new.added c.move_here.new.self = subst (λ moved. IsTried c.loop-tid.self (Thread c.loop-tid.tid) moved c.move_here.new.added c.move_here.new.self) c.if-branch.false c.in_ok-move_here.ensures.tried in
    record {
      same = tried.1 ∙ c.loop-tid.invariant.same;
      from = omega arith;
      end = c.loop-tid.invariant.end;
      before = one_more (λ t. thread_entry c.args.self.now.input (state_in c.args.self.now) t ≡ None) c.loop-tid.tid c.loop-tid.invariant.before
          (subst (λ (so_far : RunSoFar). thread_entry so_far.input (state_in so_far) c.loop-tid.tid ≡ None) c.loop-tid.invariant.same tried.0);
    }

pub returns-then-branch-clause-made : goal.returns-then-branch-clause-made
returns-then-branch-clause-made c =
    let tried : IsTried c.loop-tid.self (Thread c.loop-tid.tid) true c.move_here.new.added c.move_here.new.self = subst (λ moved. IsTried c.loop-tid.self (Thread c.loop-tid.tid) moved c.move_here.new.added c.move_here.new.self) c.if-branch.true c.in_ok-move_here.ensures.tried in
    let chosen : IsTried c.args.self.now (Thread c.loop-tid.tid) true c.move_here.new.added c.move_here.new.self = subst (λ (so_far : RunSoFar). IsTried so_far (Thread c.loop-tid.tid) true c.move_here.new.added c.move_here.new.self) c.loop-tid.invariant.same tried in (
      chosen.0,
      chosen.1,
      record {
        number = c.loop-tid.tid;
        from = omega arith;
        to = omega arith;
        before = c.loop-tid.invariant.before;
        adds = chosen.2;
        made = chosen.3;
      },
    )
