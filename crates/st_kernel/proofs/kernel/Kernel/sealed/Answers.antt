use Rattle.std.proofs.Common.{◌≡◌, ◌∙◌, Some, ap, sym, subst}
use Rattle.st_decide.specs.Machine.{Running}
use Rattle.st_messages.specs.Messages.{HasWorker}
use Rattle.st_workers.specs.UnderWay.{turn_of_worker}
use Rattle.st_workers.specs.declared.turn.Turn.TheVariants.{Idle, Working, Ready}
use Rattle.st_kernel.proofs.Working.{at_turn, worker_here}
use Rattle.st_kernel.proofs.kernel.Kernel.sealed.Goals as goal

pub turn-requires : goal.turn-requires
turn-requires c =
    subst (λ (m : Running). HasWorker m.workers.calls c.args.worker) (sym (c.machine.view_is ∙ c.view-machine.ensures))
    (worker_here c.self.inside.machine c.self.inside.made.items c.self.inside.first c.self.inside.asleep.items c.self.invariant.0 c.args.self.now c.self.view_is c.args.worker c.requires)

pub returns-in-Ready-clause-some : goal.returns-in-Ready-clause-some
returns-in-Ready-clause-some c =
    let turn : turn_of_worker c.self.inside.machine.workers c.args.worker ≡ Some (Ready c.in-Ready.field-0 c.in-Ready.copies) =
    subst (λ (m : Running). turn_of_worker m.workers c.args.worker ≡ Some (Ready c.in-Ready.field-0 c.in-Ready.copies)) (c.machine.view_is ∙ c.view-machine.ensures) (c.turn.ensures ∙ ap Some c.in-Ready.is) in
    (at_turn c.self.inside.machine c.self.inside.made.items c.self.inside.first c.self.inside.asleep.items c.self.invariant.0 c.args.self.now c.self.view_is c.args.worker (Ready c.in-Ready.field-0 c.in-Ready.copies) turn).1

pub returns-in-Idle-clause-none : goal.returns-in-Idle-clause-none
returns-in-Idle-clause-none c e =
    let turn : turn_of_worker c.self.inside.machine.workers c.args.worker ≡ Some (Idle) =
    subst (λ (m : Running). turn_of_worker m.workers c.args.worker ≡ Some (Idle)) (c.machine.view_is ∙ c.view-machine.ensures) (c.turn.ensures ∙ ap Some c.in-Idle.is) in
    (at_turn c.self.inside.machine c.self.inside.made.items c.self.inside.first c.self.inside.asleep.items c.self.invariant.0 c.args.self.now c.self.view_is c.args.worker (Idle) turn).1

pub returns-in-Working-clause-none : goal.returns-in-Working-clause-none
returns-in-Working-clause-none c e =
    let turn : turn_of_worker c.self.inside.machine.workers c.args.worker ≡ Some (Working c.in-Working.field-0) =
    subst (λ (m : Running). turn_of_worker m.workers c.args.worker ≡ Some (Working c.in-Working.field-0)) (c.machine.view_is ∙ c.view-machine.ensures) (c.turn.ensures ∙ ap Some c.in-Working.is) in
    (at_turn c.self.inside.machine c.self.inside.made.items c.self.inside.first c.self.inside.asleep.items c.self.invariant.0 c.args.self.now c.self.view_is c.args.worker (Working c.in-Working.field-0) turn).1
