use Rattle.std.proofs.Common.{◌≡◌, ◌∙◌, Some, ap, sym, subst}
use Rattle.st_base.specs.Numbered.{item_at_number}
use Rattle.st_decide.specs.Holding.{message_held}
use Rattle.st_decide.specs.Machine.{Running}
use Rattle.st_decide.proofs.SameRule.{held_lives, message_there}
use Rattle.st_decide.proofs.Running.{running_of}
use Rattle.st_decide.proofs.view.View.message_held.Goals as goal

pub head-requires : goal.head-requires
head-requires c =
    let m : Running = running_of c.self.inside in
    held_lives m c.self.invariant.state c.self.invariant.is c.args.tid c.in_ok-thread.field-0.now c.in_ok-drawing.drawing (ap (λ (k : Running). item_at_number k.threads c.args.tid) c.self.view_is ∙ c.in_ok-thread.ensures.some) (sym c.drawing_held.ensures ∙ c.in_ok-drawing.was)

pub returns-clause-some : goal.returns-clause-some
returns-clause-some c =
    let m : Running = running_of c.self.inside in
    subst (λ (k : Running). message_held k c.args.tid ≡ Some c.head.result.now) c.self.view_is
    (message_there m c.self.invariant.state c.self.invariant.is c.args.tid c.in_ok-thread.field-0.now c.in_ok-drawing.drawing (ap (λ (k : Running). item_at_number k.threads c.args.tid) c.self.view_is ∙ c.in_ok-thread.ensures.some) (sym c.drawing_held.ensures ∙ c.in_ok-drawing.was) c.head.result.now c.head.ensures.head)
