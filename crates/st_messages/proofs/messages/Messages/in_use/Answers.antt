use Rattle.std.proofs.Common.{◌≡◌, ◌∙◌, ap, sym, subst}
use Rattle.st_messages.specs.Messages.{HeldCalls, is_in_use, AreValidCalls}
use Rattle.st_messages.proofs.Seqs.{in_use_has_drawing, seq_in_use}
use Rattle.st_messages.proofs.messages.Messages.in_use.Goals as goal

whole : (c : goal.After-is_in_use) → AreValidCalls c.args.self.now
whole c = subst AreValidCalls c.self.view_is c.self.invariant.0

value : (c : goal.After-is_in_use) → c.is_in_use.result ≡ is_in_use c.args.self.now c.args.seq
value c = c.is_in_use.ensures ∙ ap (λ (calls : HeldCalls). is_in_use calls c.args.seq) c.self.view_is

pub returns-clause-exact : goal.returns-clause-exact
returns-clause-exact c = (
  λ used. (let found = in_use_has_drawing c.args.self.now c.args.seq (whole c) (sym (value c) ∙ used) in (found.0, found.2)),
  λ has. value c ∙ seq_in_use c.args.self.now has.0 c.args.seq has.1,
)
