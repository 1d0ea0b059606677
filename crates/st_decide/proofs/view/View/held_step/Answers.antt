use Rattle.std.proofs.Common.{None, Some, ap, sym, subst}
use Rattle.st_law.specs.State.{State}
use Rattle.st_messages.specs.declared.message.MsgState.{MsgState}
use Rattle.st_messages.specs.declared.message.MsgState.TheVariants.{Answered, Faulted}
use Rattle.st_workers.specs.Refinement.{IsMessageStateOf}
use Rattle.st_decide.specs.Machine.{Refines, Running}
use Rattle.st_decide.specs.NextSteps.{CanBeDone, HoldsDrawing, IsDecidedStep, IsHeldStep}
use Rattle.st_decide.specs.Step.{step_entry}
use Rattle.st_decide.specs.declared.step.Step.TheVariants as steps
use Rattle.st_decide.proofs.NextSteps.{held_is, held_live, held_waits, if_ok}
use Rattle.st_decide.proofs.Running.{running_of}
use Rattle.st_decide.proofs.view.View.held_step.Goals as goal

pub returns-in-Answered-clause-step : goal.returns-in-Answered-clause-step
returns-in-Answered-clause-step c =
    let m : Running = running_of c.self.inside in
    let read = c.in-Answered.read in
    if_ok (IsDecidedStep c.args.self.now c.args.caller.tid c.args.drawing read) (IsHeldStep c.args.self.now c.args.caller.tid c.args.drawing) c.decided_step.result (λ step decided.
    let here : IsDecidedStep m c.args.caller.tid c.args.drawing read step = subst (λ (k : Running). IsDecidedStep k c.args.caller.tid c.args.drawing read step) (sym c.self.view_is) decided in
    let held : IsHeldStep m c.args.caller.tid c.args.drawing step = λ st is.
    held_is m st is c.args.caller.tid c.args.drawing (Some (Answered read)) (subst (λ (s : MsgState). IsMessageStateOf m.input st c.args.drawing (Some s)) c.in-Answered.is (c.in-Some.ensures.law m.input st is.workers)) step (here st is) in
    subst (λ (k : Running). IsHeldStep k c.args.caller.tid c.args.drawing step) c.self.view_is held) c.decided_step.ensures.step

pub returns-in-Faulted-clause-step : goal.returns-in-Faulted-clause-step
returns-in-Faulted-clause-step c =
    let m : Running = running_of c.self.inside in
    let held : IsHeldStep m c.args.caller.tid c.args.drawing c.deny.result = λ st is.
    held_is m st is c.args.caller.tid c.args.drawing (Some (Faulted c.in-Faulted.errno)) (subst (λ (s : MsgState). IsMessageStateOf m.input st c.args.drawing (Some s)) c.in-Faulted.is (c.in-Some.ensures.law m.input st is.workers))
    c.deny.result (ap (step_entry m.input st c.args.caller.tid) c.deny.ensures) in
    subst (λ (k : Running). IsHeldStep k c.args.caller.tid c.args.drawing c.deny.result) c.self.view_is held

pub returns-in_default-clause-step : goal.returns-in_default-clause-step
returns-in_default-clause-step c =
    let m : Running = running_of c.self.inside in
    let holds : HoldsDrawing m c.args.caller.tid c.args.caller.pid c.args.drawing = subst (λ (k : Running). HoldsDrawing k c.args.caller.tid c.args.caller.pid c.args.drawing) (sym c.self.view_is) c.requires in
    let held : IsHeldStep m c.args.caller.tid c.args.drawing steps.Wait = λ st is.
    held_waits m st is c.args.caller.tid c.args.drawing None (c.in_default.ensures.law m.input st is.workers) (held_live m st is c.args.caller.tid c.args.caller.pid c.args.drawing holds.entered holds.pending holds.held) (λ v e. absurd cc) (λ errno e. absurd cc) in
    subst (λ (k : Running). IsHeldStep k c.args.caller.tid c.args.drawing steps.Wait) c.self.view_is held

pub returns-in-Answered-clause-can : goal.returns-in-Answered-clause-can
returns-in-Answered-clause-can c = c.decided_step.ensures.can

pub returns-in-Faulted-clause-can : goal.returns-in-Faulted-clause-can
returns-in-Faulted-clause-can c = subst (CanBeDone c.args.self.now.system c.args.caller.tid) (sym c.deny.ensures) tt

pub returns-in_default-clause-can : goal.returns-in_default-clause-can
returns-in_default-clause-can c = tt

pub decided_step-requires-clause-come : goal.decided_step-requires-clause-come
decided_step-requires-clause-come c =
    let m : Running = running_of c.self.inside in
    let come : (st : State) → Refines m st → IsMessageStateOf m.input st c.args.drawing (Some (Answered c.in-Answered.read)) =
    λ st is. subst (λ (s : MsgState). IsMessageStateOf m.input st c.args.drawing (Some s)) c.in-Answered.is (c.in-Some.ensures.law m.input st is.workers) in
    subst (λ (k : Running). (st : State) → Refines k st → IsMessageStateOf k.input st c.args.drawing (Some (Answered c.in-Answered.read))) c.self.view_is come
