use Rattle.std.proofs.Common.{◌∙◌, ap}
use Rattle.st_filter.specs.Policies.{has_policy}
use Rattle.st_filter.proofs.Entries.{has_kept}
use Rattle.st_filter.proofs.set.PolicySet.has.Goals as goal

pub returns : goal.returns
returns c = c.contains_key.ensures ∙ has_kept c.self.inside.policies.entries c.args.binary.now ∙ ap (λ ps. has_policy ps c.args.binary.now) c.self.view_is
