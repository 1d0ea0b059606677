use Rattle.std.proofs.Common.{◌∙◌, ap}
use Rattle.std.proofs.lemmas.Result.{on_ok_weaker}
use Rattle.st_filter.specs.Policies.{in_force}
use Rattle.st_learn.specs.Sessions.{version_of}
use Rattle.st_audit.proofs.Printing.{one_learnt}
use Rattle.st_audit.proofs.learnt.append_policy.Goals as goal

pub returns : goal.returns
returns c =
    on_ok_weaker c.append_added.result
    (one_learnt c.args.emulation c.args.learnt.now.policies.now (version_of c.args.learnt.now.session.now.reloads) c.args.learnt.now.session.now.filters c.args.binary.now c.in_force-filters.result.now c.args.out.now c.append_header.new.out c.append_filters.new.out c.append_added.new.out
    c.in_ok-append_header.ensures (c.in_force-filters.ensures.is ∙ ap (in_force c.args.learnt.now.policies.now c.args.binary.now) c.version-version.ensures) c.in_ok-append_filters.ensures)
    c.append_added.ensures
