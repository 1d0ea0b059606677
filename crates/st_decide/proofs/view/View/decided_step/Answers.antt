use Rattle.std.proofs.Common.{◌∙◌, Some, ap, sym, subst}
use Rattle.st_decide.specs.NextSteps.{IsDecidedStep, IsDecision, IsPermittedStep}
use Rattle.st_decide.proofs.NextSteps.{if_ok}
use Rattle.st_decide.proofs.Questions.{denies, permits, refuses, waits}
use Rattle.st_decide.proofs.view.View.decided_step.Goals as goal

pub returns-in-None-clause-step : goal.returns-in-None-clause-step
returns-in-None-clause-step c = waits c.args.self.now c.args.caller.tid c.args.drawing c.args.read (subst (IsDecision c.args.self.now c.args.drawing c.args.read) c.in-None.is c.decision.ensures)

pub returns-in-Some-Permit-clause-step : goal.returns-in-Some-Permit-clause-step
returns-in-Some-Permit-clause-step c =
    let given = subst (IsDecision c.args.self.now c.args.drawing c.args.read) (c.in-Some-Permit.is ∙ ap Some c.in-Some-Permit.field-0-is) c.decision.ensures in
    if_ok (IsPermittedStep c.args.self.now c.args.caller.tid c.args.drawing c.in-Some-Permit.ids) (IsDecidedStep c.args.self.now c.args.caller.tid c.args.drawing c.args.read) c.permitted_step.result
    (λ step next. permits c.args.self.now c.args.caller.tid c.args.drawing c.args.read _ c.in-Some-Permit.ids step given next) c.permitted_step.ensures.step

pub returns-in-Some-Refuse-clause-step : goal.returns-in-Some-Refuse-clause-step
returns-in-Some-Refuse-clause-step c =
    let given = subst (IsDecision c.args.self.now c.args.drawing c.args.read) (c.in-Some-Refuse.is ∙ ap Some c.in-Some-Refuse.field-0-is) c.decision.ensures in
    subst (IsDecidedStep c.args.self.now c.args.caller.tid c.args.drawing c.args.read) (sym c.deny.ensures)
    (refuses c.args.self.now c.args.caller.tid c.args.drawing c.args.read c.in-Some-Refuse.number c.in-Some-Refuse.errno given)

pub returns-in-Some-Unmatched-clause-step : goal.returns-in-Some-Unmatched-clause-step
returns-in-Some-Unmatched-clause-step c =
    let given = subst (IsDecision c.args.self.now c.args.drawing c.args.read) (c.in-Some-Unmatched.is ∙ ap Some c.in-Some-Unmatched.field-0-is) c.decision.ensures in
    subst (IsDecidedStep c.args.self.now c.args.caller.tid c.args.drawing c.args.read) (sym c.deny-in-Some-Unmatched.ensures)
    (denies c.args.self.now c.args.caller.tid c.args.drawing c.args.read given)
