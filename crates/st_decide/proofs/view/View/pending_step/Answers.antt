use Rattle.std.proofs.Common.{◌≡◌, ◌∙◌, ℕ, ap, sym, subst}
use Rattle.st_law.specs.Machine.{barred_entry}
use Rattle.st_law.specs.Threads.{PendingCall}
use Rattle.st_threads.specs.Thread.{IsWayHeld, ThreadRow}
use Rattle.st_threads.specs.Ways.{drawn_way}
use Rattle.st_threads.specs.declared.way.CallWay.{CallWay}
use Rattle.st_trace.specs.declared.entry.Way.TheVariants.{Barred}
use Rattle.st_decide.specs.Machine.{Running}
use Rattle.st_decide.specs.NextSteps.{HasPending}
use Rattle.st_decide.proofs.NextSteps.{barred_is}
use Rattle.st_decide.proofs.view.View.pending_step.Goals as goal

pub held_step-requires : goal.held_step-requires
held_step-requires c = record {
  entered = c.args.entered;
  pending = subst (λ (q : ℕ). HasPending c.args.self.now c.args.caller.tid c.args.caller.pid c.args.entered q) (sym c.drawing.ensures) c.requires.pending;
  held = subst (λ (e : PendingCall). IsWayHeld e.way) c.entered.view_is (subst (λ (way : CallWay). IsWayHeld (drawn_way way)) (sym c.in-Held.is) tt);
}

pub returns-in-Barred-clause-step : goal.returns-in-Barred-clause-step
returns-in-Barred-clause-step c = λ st is.
    let m : Running = c.args.self.now in
    let way : c.args.entered.way ≡ Barred c.in-Barred.number = ap (λ (e : PendingCall). e.way) (sym c.entered.view_is) ∙ ap drawn_way c.in-Barred.is in
    let answer : c.requires.pending.has.row.answer ≡ c.answer.result = ap (λ (row : ThreadRow). row.answer) c.requires.row_is ∙ sym c.answer.ensures in
    barred_is m st is c.args.caller.tid c.args.caller.pid c.args.entered c.requires.pending.has c.in-Barred.number way c.barred_step.result
    (ap (barred_entry c.args.caller.tid c.in-Barred.number) answer ∙ c.barred_step.ensures.step m.input st c.args.caller.tid)

pub returns-in-Barred-clause-can : goal.returns-in-Barred-clause-can
returns-in-Barred-clause-can c = c.barred_step.ensures.can c.args.self.now.system c.args.caller.tid
