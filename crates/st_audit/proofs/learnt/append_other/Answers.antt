use Rattle.std.proofs.Common.{◌∙◌, List, ap, sym}
use Rattle.std.proofs.lemmas.Result.{on_ok_weaker}
use Rattle.st_filter.specs.Policies.{has_policy}
use Rattle.st_filter.specs.declared.set.BinaryPolicy.{BinaryPolicy}
use Rattle.st_learn.specs.Sessions.{version_of}
use Rattle.st_audit.proofs.Printing.{begins, there_already}
use Rattle.st_audit.proofs.learnt.append_other.Goals as goal

pub returns-then-has : goal.returns-then-has
returns-then-has c so_far =
    there_already c.args.emulation c.args.learnt.now.policies.now (version_of c.args.learnt.now.session.now.reloads) c.args.learnt.now.session.now.filters c.args.learnt.now.session.now.changed c.args.row c.changed-binary.result.now c.changed-binary.ensures.is c.args.out.now
    (ap (λ (ps : List BinaryPolicy). has_policy ps c.changed-binary.result.now) (sym c.read.ensures) ∙ sym c.has.ensures ∙ c.if-has.true) so_far

pub returns : goal.returns
returns c =
    on_ok_weaker c.append_policy.result
    (λ written so_far. begins c.args.emulation c.args.learnt.now.policies.now (version_of c.args.learnt.now.session.now.reloads) c.args.learnt.now.session.now.filters c.args.learnt.now.session.now.changed c.args.row c.changed-binary.result.now c.changed-binary.ensures.is c.args.out.now c.append_policy.new.out
    (ap (λ (ps : List BinaryPolicy). has_policy ps c.changed-binary.result.now) (sym c.read.ensures) ∙ sym c.has.ensures ∙ c.if-has.false) c.changed-binary.ensures.once so_far written)
    c.append_policy.ensures
