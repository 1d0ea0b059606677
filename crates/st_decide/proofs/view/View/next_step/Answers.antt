use Rattle.std.proofs.Common.{◌∙◌, ap, refl, subst, sym}
use Rattle.st_base.specs.Numbered.{item_at_number}
use Rattle.st_decide.specs.Machine.{Running}
use Rattle.st_decide.specs.NextSteps.{IsInProcess, IsPendingOf}
use Rattle.st_decide.proofs.Running.{running_of}
use Rattle.st_decide.proofs.view.View.next_step.Goals as goal

pub instruction_step-requires : goal.instruction_step-requires
instruction_step-requires c =
    let caller : IsInProcess (running_of c.self.inside).system c.args.tid c.in-Some-pid_of.pid = record { process = sym c.pid_of.ensures.pid ∙ c.in-Some-pid_of.is; there = c.in-Some-pid_of.ensures.there } in
    subst (λ (k : Running). IsInProcess k.system c.args.tid c.in-Some-pid_of.pid) c.self.view_is caller

pub pending_step-requires : goal.pending_step-requires
pending_step-requires c =
    let pending : IsPendingOf (running_of c.self.inside) c.args.tid c.in-Some-pid_of.pid c.in-Some-pending.entered c.in-Some.thread.now = record {
      pending = record {
        has = record {
          row = c.in-Some.thread.now;
          row_is = ap (λ (k : Running). item_at_number k.threads c.args.tid) c.self.view_is ∙ c.in-Some.ensures.some;
          pending = sym c.pending.ensures ∙ c.in-Some-pending.is;
          undying = sym c.is_dying.ensures ∙ c.if-is_dying.false;
          unended = sym c.has_ended.ensures ∙ c.if-has_ended.false;
          caller = record { process = sym c.pid_of.ensures.pid ∙ c.in-Some-pid_of.is; there = c.in-Some-pid_of.ensures.there };
        };
        number = refl;
      };
      row_is = refl;
    } in
    subst (λ (k : Running). IsPendingOf k c.args.tid c.in-Some-pid_of.pid c.in-Some-pending.entered c.in-Some.thread.now) c.self.view_is pending
