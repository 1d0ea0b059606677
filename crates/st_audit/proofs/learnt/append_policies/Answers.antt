use Rattle.std.proofs.Common.{◌∙◌, List, ap, sym, option_map, slice_get}
use Rattle.st_filter.specs.declared.set.BinaryPolicy.{BinaryPolicy}
use Rattle.st_learn.specs.Sessions.{version_of}
use Rattle.st_audit.proofs.Printing.{read_next}
use Rattle.st_audit.proofs.learnt.append_policies.Goals as goal

pub loop-i-preserved : goal.loop-i-preserved
loop-i-preserved c =
    read_next c.args.emulation c.args.learnt.now.policies.now (version_of c.args.learnt.now.session.now.reloads) c.args.learnt.now.session.now.filters c.args.learnt.now.policies.now.read c.loop-i.i c.binary.result.now c.args.out.now c.loop-i.out c.append_policy.new.out
    (ap (λ (ps : List BinaryPolicy). option_map (λ (p : BinaryPolicy). p.binary) (slice_get ps c.loop-i.i)) (sym c.read-read.ensures) ∙ c.binary.ensures) c.loop-i.invariant c.in_ok-append_policy.ensures
