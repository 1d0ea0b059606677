use Rattle.std.proofs.Common.{◌≡◌, ◌∙◌, Some, true, subst, sym}
use Rattle.std.specs.Prelude.{is_some}
use Rattle.st_messages.specs.Messages.{seq_of}
use Rattle.st_decide.specs.Machine.{Running}
use Rattle.st_kernel.proofs.LiveNumbers.{none_live, some_has, some_live, IsLiveBy}
use Rattle.st_kernel.proofs.kernel.Kernel.seq.Goals as goal

pub returns-in-None : goal.returns-in-None
returns-in-None c =
    none_live c.self.inside.machine c.self.inside.made.items c.self.inside.first c.self.inside.asleep.items c.self.invariant.0 c.args.self.now c.self.view_is c.args.drawing
    (subst (IsLiveBy c.self.inside.machine.workers c.args.drawing) c.in-None.is
    (subst (λ (m : Running). IsLiveBy m.workers c.args.drawing c.thread.result) (c.machine.view_is ∙ c.view-machine.ensures) c.thread.ensures.live))

pub seq-requires : goal.seq-requires
seq-requires c =
    subst (λ (m : Running). is_some (seq_of m.workers.calls c.args.drawing) ≡ true) (sym (c.machine.view_is ∙ c.view-machine.ensures))
    (some_has c.self.inside.machine c.self.inside.made.items c.self.inside.first c.self.inside.asleep.items c.self.invariant.0 c.args.self.now c.self.view_is c.args.drawing c.in-Some.field-0
    (subst (IsLiveBy c.self.inside.machine.workers c.args.drawing) c.in-Some.is
    (subst (λ (m : Running). IsLiveBy m.workers c.args.drawing c.thread.result) (c.machine.view_is ∙ c.view-machine.ensures) c.thread.ensures.live)))

pub returns-in-Some : goal.returns-in-Some
returns-in-Some c =
    some_live c.self.inside.machine c.self.inside.made.items c.self.inside.first c.self.inside.asleep.items c.self.invariant.0 c.args.self.now c.self.view_is c.args.drawing c.in-Some.field-0
    (subst (IsLiveBy c.self.inside.machine.workers c.args.drawing) c.in-Some.is
    (subst (λ (m : Running). IsLiveBy m.workers c.args.drawing c.thread.result) (c.machine.view_is ∙ c.view-machine.ensures) c.thread.ensures.live))
    c.seq.result
    (subst (λ (m : Running). seq_of m.workers.calls c.args.drawing ≡ Some c.seq.result) (c.machine.view_is ∙ c.view-machine.ensures) c.seq.ensures.seq)
