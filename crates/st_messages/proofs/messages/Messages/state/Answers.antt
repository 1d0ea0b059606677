use Rattle.std.proofs.Common.{◌≡◌, ◌∙◌, Some, ap, sym, subst}
use Rattle.std.specs.Option.{option_map}
use Rattle.st_messages.specs.Messages.{HeldCalls, message_of_drawing, AreValidCalls}
use Rattle.st_messages.specs.declared.message.Message.{Message}
use Rattle.st_messages.proofs.Ordered.{found_below}
use Rattle.st_messages.proofs.messages.Messages.state.Goals as goal

found : (c : goal.In_ok-message_of) → message_of_drawing c.args.self.now c.args.drawing ≡ Some c.in_ok-message_of.field-0
found c = sym (c.message_of.ensures ∙ ap (λ (calls : HeldCalls). message_of_drawing calls c.args.drawing) c.self.view_is) ∙ c.in_ok-message_of.was

whole : (c : goal.In_ok-message_of) → AreValidCalls c.args.self.now
whole c = subst AreValidCalls c.self.view_is c.self.invariant.0

pub returns-clause-given : goal.returns-clause-given
returns-clause-given c = found_below c.args.self.now.live 1 c.args.self.now.next c.args.drawing c.in_ok-message_of.field-0 (whole c).ordered (found c)

pub returns-clause-worker : goal.returns-clause-worker
returns-clause-worker c = λ worker is. (whole c).workers c.args.drawing worker (ap (option_map (λ (message : Message). message.state)) (found c) ∙ ap Some is)
