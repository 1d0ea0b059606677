use Rattle.std.proofs.Common.{◌≡◌, ◌∙◌, Some, None, ap, get_or, sym, subst, refl}
use Rattle.std.specs.List.{find, position}
use Rattle.std.specs.Option.{option_map}
use Rattle.std.specs.Prelude.{IsNone}
use Rattle.st_messages.specs.Messages.{HeldCalls, is_unclaimed, waiting_message, IsLeastWaiting, AreValidCalls}
use Rattle.st_messages.specs.declared.message.Message.{Message}
use Rattle.st_messages.proofs.Lookups.{found_first, found_nowhere}
use Rattle.st_messages.proofs.Ordered.{none_waits}
use Rattle.st_messages.proofs.Whole.{least_waiting}
use Rattle.st_messages.proofs.messages.Messages.claim.Goals as goal

none : (c : goal.After-from_residual) → find is_unclaimed c.args.self.now.live ≡ None
none c =
    found_nowhere is_unclaimed c.args.self.now.live (
    ap (λ (calls : HeldCalls). position is_unclaimed calls.live) (sym c.self.view_is) ∙ sym c.waiting_place.ensures ∙ c.in_err-place.was
    )

pub returns-in_err-place-clause-none : goal.returns-in_err-place-clause-none
returns-in_err-place-clause-none c = (λ _ drawing. none_waits c.args.self.now.live drawing (none c), λ _. subst IsNone (sym c.from_residual.ensures) refl)

pub returns-in_err-place-clause-first : goal.returns-in_err-place-clause-first
returns-in_err-place-clause-first c = c.from_residual.ensures ∙ sym (ap (option_map (λ (message : Message). message.drawing)) (none c))

-- the first waiting message
abbrev first : goal.After-set_state_at → Message
first c = get_or c.args.self.now.live c.in_ok-place.place (waiting_message 0 0 0)

found : (c : goal.After-set_state_at) → find is_unclaimed c.args.self.now.live ≡ Some (first c)
found c =
    found_first is_unclaimed c.args.self.now.live c.in_ok-place.place (waiting_message 0 0 0) (
    ap (λ (calls : HeldCalls). position is_unclaimed calls.live) (sym c.self.view_is) ∙ sym c.waiting_place.ensures ∙ c.in_ok-place.was
    )

least : (c : goal.After-set_state_at) → IsLeastWaiting c.args.self.now c.set_state_at.result
least c =
    subst (IsLeastWaiting c.args.self.now) (sym (c.set_state_at.ensures.drawing (waiting_message 0 0 0))) (
    least_waiting c.args.self.now (first c) (subst AreValidCalls c.self.view_is c.self.invariant.0) (found c)
    )

pub returns-clause-none : goal.returns-clause-none
returns-clause-none c = (λ no. absurd cc, λ none. absurd (none c.set_state_at.result (least c).waiting))

pub returns-clause-least : goal.returns-clause-least
returns-clause-least c = least c

pub returns-clause-first : goal.returns-clause-first
returns-clause-first c = ap Some (c.set_state_at.ensures.drawing (waiting_message 0 0 0)) ∙ sym (ap (option_map (λ (message : Message). message.drawing)) (found c))
