use Rattle.std.proofs.Common.{◌≡◌, ◌↔◌, ◌∙◌, ℕ, true, Option, Some, None, IfSome, subst, sym}
use Rattle.std.specs.Prelude.{is_some}
use Rattle.st_law.specs.State.{State, is_live}
use Rattle.st_messages.specs.Messages.{drawing_of}
use Rattle.st_reached.specs.Waiting.{is_message_by}
use Rattle.st_decide.specs.Machine.{Refines, Running}
use Rattle.st_kernel.specs.Kernel.{IsLiveNumber}
use Rattle.st_kernel.proofs.Holders.{live_none, live_some, only_some, IsOnlyHolder}
use Rattle.st_kernel.proofs.kernel.Kernel.holder.Goals as goal

pub returns-in_err-drawing-clause-only : goal.returns-in_err-drawing-clause-only
returns-in_err-drawing-clause-only c = subst (IsOnlyHolder c.args.self.now c.args.seq) (sym c.from_residual.ensures) tt

pub returns-in_err-drawing-clause-live : goal.returns-in_err-drawing-clause-live
returns-in_err-drawing-clause-live c =
    subst (λ (o : Option ℕ). (is_some o ≡ true) ↔ IsLiveNumber c.args.self.now c.args.seq) (sym c.from_residual.ensures)
    (live_none c.self.inside.machine c.self.inside.made.items c.self.inside.first c.self.inside.asleep.items c.self.invariant.0 c.args.self.now c.self.view_is c.args.seq
    (subst (λ (m : Running). drawing_of m.workers.calls c.args.seq ≡ None) (c.machine.view_is ∙ c.view-machine.ensures) (sym c.drawing.ensures ∙ c.in_err-drawing.was)))

-- the drawing is found in the machine
found : (c : goal.After-holder) → drawing_of c.self.inside.machine.workers.calls c.args.seq ≡ Some c.in_ok-drawing.drawing
found c = subst (λ (m : Running). drawing_of m.workers.calls c.args.seq ≡ Some c.in_ok-drawing.drawing) (c.machine.view_is ∙ c.view-machine.ensures) (sym c.drawing.ensures ∙ c.in_ok-drawing.was)

pub returns-clause-only : goal.returns-clause-only
returns-clause-only c =
    only_some c.self.inside.machine c.self.inside.made.items c.self.inside.first c.self.inside.asleep.items c.self.invariant.0 c.args.self.now c.self.view_is c.args.seq c.in_ok-drawing.drawing (found c) c.holder.result
    (subst (λ (m : Running). IfSome c.holder.result (λ tid. (st : State) → Refines m st → (t : ℕ) → is_message_by st t c.in_ok-drawing.drawing ≡ true → t ≡ tid)) c.view-machine.ensures c.holder.ensures.law)

pub returns-clause-live : goal.returns-clause-live
returns-clause-live c =
    live_some c.self.inside.machine c.self.inside.made.items c.self.inside.first c.self.inside.asleep.items c.self.invariant.0 c.args.self.now c.self.view_is c.args.seq c.in_ok-drawing.drawing (found c) (is_some c.holder.result)
    (subst (λ (m : Running). (st : State) → Refines m st → is_some c.holder.result ≡ is_live st c.in_ok-drawing.drawing) c.view-machine.ensures c.holder.ensures.live)
