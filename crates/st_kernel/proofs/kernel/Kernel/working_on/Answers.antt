use Rattle.std.proofs.Common.{◌≡◌, ◌∙◌, Some, true, ap, refl, sym, subst}
use Rattle.std.specs.Option.{option_map}
use Rattle.std.specs.Prelude.{is_some}
use Rattle.st_decide.specs.Machine.{Running}
use Rattle.st_messages.specs.Messages.{seq_of, HasWorker}
use Rattle.st_workers.specs.UnderWay.{turn_of_worker}
use Rattle.st_workers.specs.declared.turn.Turn.TheVariants.{Idle, Working, Ready}
use Rattle.st_kernel.specs.Kernel.{number_now}
use Rattle.st_kernel.proofs.Working.{at_turn, turn_in_use, turn_number, worker_here}
use Rattle.st_kernel.proofs.kernel.Kernel.working_on.Goals as goal

pub turn-requires : goal.turn-requires
turn-requires c =
    subst (λ (m : Running). HasWorker m.workers.calls c.args.worker) (sym (c.machine.view_is ∙ c.view-machine.ensures))
    (worker_here c.self.inside.machine c.self.inside.made.items c.self.inside.first c.self.inside.asleep.items c.self.invariant.0 c.args.self.now c.self.view_is c.args.worker c.requires)

pub returns-in-Idle : goal.returns-in-Idle
returns-in-Idle c =
    let turn : turn_of_worker c.self.inside.machine.workers c.args.worker ≡ Some Idle =
    subst (λ (m : Running). turn_of_worker m.workers c.args.worker ≡ Some Idle) (c.machine.view_is ∙ c.view-machine.ensures) (c.turn.ensures ∙ ap Some c.in-Idle.is) in
    sym (ap (option_map (number_now c.args.self.now)) (at_turn c.self.inside.machine c.self.inside.made.items c.self.inside.first c.self.inside.asleep.items c.self.invariant.0 c.args.self.now c.self.view_is c.args.worker Idle turn).0)

pub seq-requires : goal.seq-requires
seq-requires c =
    let turn : turn_of_worker c.self.inside.machine.workers c.args.worker ≡ Some (Working c.in-Working.drawing) =
    subst (λ (m : Running). turn_of_worker m.workers c.args.worker ≡ Some (Working c.in-Working.drawing)) (c.machine.view_is ∙ c.view-machine.ensures) (c.turn.ensures ∙ ap Some c.in-Working.is) in
    subst (λ (m : Running). is_some (seq_of m.workers.calls c.in-Working.drawing) ≡ true) (sym (c.machine.view_is ∙ c.view-machine.ensures))
    (turn_in_use c.self.inside.machine c.self.inside.made.items c.self.inside.first c.self.inside.asleep.items c.self.invariant.0 c.args.self.now c.self.view_is c.args.worker c.requires (Working c.in-Working.drawing) turn c.in-Working.drawing refl)

pub returns-in-Working : goal.returns-in-Working
returns-in-Working c =
    let turn : turn_of_worker c.self.inside.machine.workers c.args.worker ≡ Some (Working c.in-Working.drawing) =
    subst (λ (m : Running). turn_of_worker m.workers c.args.worker ≡ Some (Working c.in-Working.drawing)) (c.machine.view_is ∙ c.view-machine.ensures) (c.turn.ensures ∙ ap Some c.in-Working.is) in
    turn_number c.self.inside.machine c.self.inside.made.items c.self.inside.first c.self.inside.asleep.items c.self.invariant.0 c.args.self.now c.self.view_is c.args.worker (Working c.in-Working.drawing) turn c.in-Working.drawing c.seq.result refl
    (subst (λ (m : Running). seq_of m.workers.calls c.in-Working.drawing ≡ Some c.seq.result) (c.machine.view_is ∙ c.view-machine.ensures) c.seq.ensures.seq)

pub seq-requires-in-Ready : goal.seq-requires-in-Ready
seq-requires-in-Ready c =
    let turn : turn_of_worker c.self.inside.machine.workers c.args.worker ≡ Some (Ready c.in-Ready.drawing c.in-Ready.field-1) =
    subst (λ (m : Running). turn_of_worker m.workers c.args.worker ≡ Some (Ready c.in-Ready.drawing c.in-Ready.field-1)) (c.machine.view_is ∙ c.view-machine.ensures) (c.turn.ensures ∙ ap Some c.in-Ready.is) in
    subst (λ (m : Running). is_some (seq_of m.workers.calls c.in-Ready.drawing) ≡ true) (sym (c.machine.view_is ∙ c.view-machine.ensures))
    (turn_in_use c.self.inside.machine c.self.inside.made.items c.self.inside.first c.self.inside.asleep.items c.self.invariant.0 c.args.self.now c.self.view_is c.args.worker c.requires (Ready c.in-Ready.drawing c.in-Ready.field-1) turn c.in-Ready.drawing refl)

pub returns-in-Ready : goal.returns-in-Ready
returns-in-Ready c =
    let turn : turn_of_worker c.self.inside.machine.workers c.args.worker ≡ Some (Ready c.in-Ready.drawing c.in-Ready.field-1) =
    subst (λ (m : Running). turn_of_worker m.workers c.args.worker ≡ Some (Ready c.in-Ready.drawing c.in-Ready.field-1)) (c.machine.view_is ∙ c.view-machine.ensures) (c.turn.ensures ∙ ap Some c.in-Ready.is) in
    turn_number c.self.inside.machine c.self.inside.made.items c.self.inside.first c.self.inside.asleep.items c.self.invariant.0 c.args.self.now c.self.view_is c.args.worker (Ready c.in-Ready.drawing c.in-Ready.field-1) turn c.in-Ready.drawing c.seq-in-Ready.result refl
    (subst (λ (m : Running). seq_of m.workers.calls c.in-Ready.drawing ≡ Some c.seq-in-Ready.result) (c.machine.view_is ∙ c.view-machine.ensures) c.seq-in-Ready.ensures.seq)
