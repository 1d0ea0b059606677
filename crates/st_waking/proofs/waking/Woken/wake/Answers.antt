use Rattle.std.proofs.Common.{◌≡◌, ◌∙◌, false, ap, subst, sym}
use Rattle.st_decide.specs.Holding.{held_head, is_held_alike, is_same_rule, message_held}
use Rattle.st_decide.specs.Machine.{Running}
use Rattle.st_waking.specs.Waking.{is_woken}
use Rattle.st_waking.proofs.waking.Woken.wake.Goals as goal

pub wake_alike-requires-clause-before : goal.wake_alike-requires-clause-before
wake_alike-requires-clause-before c = λ t from to.
    let head = ap (λ (m : Running). held_head m c.in-SameRule.drawing) (sym c.view-view.ensures) ∙ c.in-Some.ensures.some in
    subst (λ (m : Running). is_same_rule c.in-Some.message.now (message_held m t) ≡ false) (sym c.view-view.ensures)
    (sym (ap (λ woken. is_woken c.args.machine.now woken t) c.in-SameRule.is ∙ ap (λ o. is_held_alike c.args.machine.now o t) head) ∙ c.requires.before t from to)
