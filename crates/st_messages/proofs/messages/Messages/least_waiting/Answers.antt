use Rattle.std.proofs.Common.{◌∙◌, ap, sym, subst, refl}
use Rattle.std.specs.List.{find}
use Rattle.std.specs.Prelude.{IsNone}
use Rattle.st_messages.specs.Messages.{HeldCalls, is_unclaimed, IsLeastWaiting, AreValidCalls}
use Rattle.st_messages.proofs.Ordered.{none_waits}
use Rattle.st_messages.proofs.Whole.{least_waiting, waiting_live}
use Rattle.st_messages.proofs.messages.Messages.least_waiting.Goals as goal

pub returns-in_err-first_waiting-clause-none : goal.returns-in_err-first_waiting-clause-none
returns-in_err-first_waiting-clause-none c =
    let none = sym (c.first_waiting.ensures ∙ ap (λ (calls : HeldCalls). find is_unclaimed calls.live) c.self.view_is) ∙ c.in_err-first_waiting.was in
    (λ _ drawing. none_waits c.args.self.now.live drawing none, λ _. subst IsNone (sym c.from_residual.ensures) refl)

least : (c : goal.In_ok-first_waiting) → IsLeastWaiting c.args.self.now c.in_ok-first_waiting.field-0.drawing
least c =
    let is = sym (c.first_waiting.ensures ∙ ap (λ (calls : HeldCalls). find is_unclaimed calls.live) c.self.view_is) ∙ c.in_ok-first_waiting.was in
    least_waiting c.args.self.now c.in_ok-first_waiting.field-0 (subst AreValidCalls c.self.view_is c.self.invariant.0) is

pub returns-clause-none : goal.returns-clause-none
returns-clause-none c = (λ no. absurd cc, λ none. absurd (none c.in_ok-first_waiting.field-0.drawing (least c).waiting))

pub returns-clause-least : goal.returns-clause-least
returns-clause-least c = least c

pub returns-clause-live : goal.returns-clause-live
returns-clause-live c = waiting_live c.args.self.now c.in_ok-first_waiting.field-0.drawing (least c).waiting
