use Rattle.std.proofs.Common.{◌≡◌, ◌∙◌, ℕ, Option, Some, None, IfSome, ap, sym}
use Rattle.std.specs.Prelude.{is_some}
use Rattle.st_law.specs.State.{State, is_live}
use Rattle.st_law.specs.declared.input.Input.{Input}
use Rattle.st_messages.specs.Messages.{thread_of_drawing}
use Rattle.st_workers.specs.Refinement.{IsHeldBy, RepresentsMessages}
use Rattle.st_workers.specs.UnderWay.{UnderWay}
use Rattle.st_workers.proofs.States.{is_held_by, is_live_by_thread}
use Rattle.st_workers.proofs.workers.Workers.thread.Goals as goal

if_held : (kept : UnderWay) (q : ℕ) (o : Option ℕ) → o ≡ thread_of_drawing kept.calls q → IfSome o (λ t. (i : Input) (st : State) → RepresentsMessages i st (is_live st) kept → IsHeldBy st q t)
if_held kept q None is = tt
if_held kept q (Some t) is = λ i st here. is_held_by i st kept here q t (sym is)

pub returns-clause-law : goal.returns-clause-law
returns-clause-law c = if_held c.args.self.now c.args.drawing c.thread.result (c.thread.ensures ∙ ap (λ (k : UnderWay). thread_of_drawing k.calls c.args.drawing) c.self.view_is)

pub returns-clause-live : goal.returns-clause-live
returns-clause-live c = λ i st here.
    ap (λ (o : Option ℕ). is_some o) (c.thread.ensures ∙ ap (λ (k : UnderWay). thread_of_drawing k.calls c.args.drawing) c.self.view_is) ∙ is_live_by_thread i st c.args.self.now here c.args.drawing
