use Rattle.std.proofs.Common.{◌≡◌, ◌∙◌, ap, sym, subst}
use Rattle.st_messages.specs.Messages.{HeldCalls, drawing_of, AreValidCalls}
use Rattle.st_messages.proofs.Seqs.{drawing_has_it, drawing_is}
use Rattle.st_messages.proofs.messages.Messages.drawing.Goals as goal

value : (c : goal.After-drawing_with) → c.drawing_with.result ≡ drawing_of c.args.self.now c.args.seq
value c = c.drawing_with.ensures ∙ ap (λ (calls : HeldCalls). drawing_of calls c.args.seq) c.self.view_is

pub returns-clause-exact : goal.returns-clause-exact
returns-clause-exact c drawing =
    let whole : AreValidCalls c.args.self.now = subst AreValidCalls c.self.view_is c.self.invariant.0 in (
      λ is. drawing_has_it c.args.self.now c.args.seq whole drawing (sym (value c) ∙ is),
      λ is. value c ∙ drawing_is c.args.self.now c.args.seq whole drawing is,
    )
