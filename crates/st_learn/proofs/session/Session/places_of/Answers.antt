use Rattle.std.proofs.Common.{◌≤◌, ◌∙◌, length, arith}
use Rattle.st_learn.proofs.Filters.{few_items}
use Rattle.st_learn.proofs.session.Session.places_of.Goals as goal

pub returns-clause-few : goal.returns-clause-few
returns-clause-few c =
    let few : length c.of.result.now ≤ length c.self.inside.kept.items = few_items c.self.inside.kept.items c.args.policy.now c.of.result.now (c.of.ensures ∙ c.self.invariant.policies_are c.args.policy.now) in
    let bound = c.self.invariant.few in
    omega (arith, few, bound)
