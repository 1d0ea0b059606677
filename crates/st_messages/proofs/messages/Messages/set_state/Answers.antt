use Rattle.std.proofs.Common.{◌≡◌, ◌∙◌, Some, None, ap, subst, sym}
use Rattle.std.proofs.lemmas.Bool.{eqb-true, true≢false}
use Rattle.std.proofs.lemmas.List.Quantifiers.{position-Some}
use Rattle.std.specs.List.{position}
use Rattle.std.specs.Prelude.{is_some}
use Rattle.st_messages.specs.Messages.{HeldCalls, is_message_of, is_live_drawing, message_in, waiting_message, with_state, ChangesState}
use Rattle.st_messages.proofs.Lookups.{found_nowhere}
use Rattle.st_messages.proofs.messages.Messages.set_state.Goals as goal

-- the message at the index has the number
number : (c : goal.After-set_state_at) → c.set_state_at.result ≡ c.args.drawing
number c =
    let default = waiting_message 0 0 0 in
    let is = ap (λ (calls : HeldCalls). position (is_message_of c.args.drawing) calls.live) (sym c.self.view_is) ∙ sym c.place_of.ensures ∙ c.in-Some.is in
    c.set_state_at.ensures.drawing default ∙ eqb-true _ c.args.drawing (position-Some (is_message_of c.args.drawing) c.args.self.now.live c.in-Some.place default is).1

pub returns-in-Some-clause-calls : goal.returns-in-Some-clause-calls
returns-in-Some-clause-calls c = c.set_state_at.ensures.calls ∙ ap (λ drawing. with_state c.args.self.now drawing c.args.state) (number c)

pub returns-in-Some-clause-states : goal.returns-in-Some-clause-states
returns-in-Some-clause-states c = subst (λ drawing. ChangesState c.args.self.now drawing (Some c.args.state) c.set_state_at.new.self) (number c) c.set_state_at.ensures.states

-- a live number has an index
nowhere : (c : goal.In_default) → ⊥
nowhere c =
    let none : message_in c.self.inside.live.items c.args.drawing ≡ None = found_nowhere (is_message_of c.args.drawing) c.self.inside.live.items (sym c.place_of.ensures ∙ c.in_default.is) in
    true≢false (sym c.requires.live ∙ sym (ap (λ (calls : HeldCalls). is_live_drawing calls c.args.drawing) c.self.view_is) ∙ ap is_some none)

pub returns-in_default-clause-calls : goal.returns-in_default-clause-calls
returns-in_default-clause-calls c = absurd (nowhere c)

pub returns-in_default-clause-states : goal.returns-in_default-clause-states
returns-in_default-clause-states c = absurd (nowhere c)
