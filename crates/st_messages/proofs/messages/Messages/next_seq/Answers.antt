use Rattle.std.proofs.Common.{◌≡◌, ◌∙◌, false, ap, sym, subst}
use Rattle.st_messages.specs.Messages.{HeldCalls, is_in_use, next_seq, AreValidCalls, IsInCircle}
use Rattle.st_messages.proofs.Whole.{next_free}
use Rattle.st_messages.proofs.messages.Messages.next_seq.Goals as goal

whole : (c : goal.After-draw) → AreValidCalls c.args.self.now
whole c = subst AreValidCalls c.self.view_is c.self.invariant.0

drawn : (c : goal.After-draw) → c.draw.result.seq ≡ next_seq c.args.self.now
drawn c = c.draw.ensures.seq ∙ ap (λ (calls : HeldCalls). next_seq calls) c.self.view_is

pub returns-clause-circle : goal.returns-clause-circle
returns-clause-circle c = subst (IsInCircle c.args.self.now) (sym (drawn c)) (next_free c.args.self.now (whole c) c.requires).0

pub returns-clause-free : goal.returns-clause-free
returns-clause-free c = subst (λ seq. is_in_use c.args.self.now seq ≡ false) (sym (drawn c)) (next_free c.args.self.now (whole c) c.requires).1
