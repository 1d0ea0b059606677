use Rattle.std.proofs.Common.{◌≡◌, ◌∙◌, ◌<◌, ◌-◌, ap, get_or, length, rules, sym}
use Rattle.st_messages.specs.declared.message.Message.{Message}
use Rattle.st_messages.proofs.Lookups.{position_there}
use Rattle.st_messages.proofs.live.last_of.Goals as goal

pub returns-then-last-drawing : goal.returns-then-last-drawing
returns-then-last-drawing c =
    let live = c.args.live.now.items in
    let m = c.in_ok-last.last.now in
    let place = c.len.result - 1 in
    let inside : place < length live = search rules in
    let is : m ≡ get_or live place m = search rules in
    position_there live 1 c.requires.0 c.args.drawing c.requires.1 place m inside (ap (λ (m : Message). m.drawing) (sym is) ∙ c.if-last-drawing.true)
