use Rattle.std.proofs.Common.{◌≡◌, ◌∙◌, ◌<◌, ap, get_or, length, rules, sym}
use Rattle.st_messages.specs.declared.message.Message.{Message}
use Rattle.st_messages.proofs.Lookups.{position_there}
use Rattle.st_messages.proofs.live.guess_of.Goals as goal

pub returns-then-message-drawing : goal.returns-then-message-drawing
returns-then-message-drawing c =
    let m = c.in_ok-message.message.now in
    let inside : c.in_ok-place.place < length c.args.live.now.items = search rules in
    let is : m ≡ get_or c.args.live.now.items c.in_ok-place.place m = search rules in
    position_there c.args.live.now.items 1 c.requires.0 c.args.drawing c.requires.1 c.in_ok-place.place m inside (ap (λ (m : Message). m.drawing) (sym is) ∙ c.if-message-drawing.true)

pub returns-then-place-eq0 : goal.returns-then-place-eq0
returns-then-place-eq0 c =
    let first = c.in_ok-first.first.now in
    let inside : 0 < length c.args.live.now.items = search rules in
    let is : first ≡ get_or c.args.live.now.items 0 first = search rules in
    let number : first.drawing ≡ c.args.drawing = search rules in
    position_there c.args.live.now.items 1 c.requires.0 c.args.drawing c.requires.1 0 first inside (ap (λ (m : Message). m.drawing) (sym is) ∙ number)
