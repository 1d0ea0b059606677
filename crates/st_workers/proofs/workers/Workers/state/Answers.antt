use Rattle.std.proofs.Common.{◌∙◌, Option, ap, sym, subst}
use Rattle.st_messages.specs.Messages.{message_state}
use Rattle.st_messages.specs.declared.message.MsgState.{MsgState}
use Rattle.st_workers.specs.Refinement.{IsMessageStateOf}
use Rattle.st_workers.specs.UnderWay.{UnderWay}
use Rattle.st_workers.proofs.States.{has_come_to}
use Rattle.st_workers.proofs.workers.Workers.state.Goals as goal

pub returns-clause-law : goal.returns-clause-law
returns-clause-law c = λ i st kept.
    subst (λ (o : Option MsgState). IsMessageStateOf i st c.args.drawing o)
    (sym (c.state.ensures.state ∙ ap (λ (k : UnderWay). message_state k.calls c.args.drawing) c.self.view_is)) (has_come_to i st c.args.self.now kept c.args.drawing)
