use Rattle.std.proofs.Common.{arith}
use Rattle.st_filter.proofs.Entries.{few_there}
use Rattle.st_filter.proofs.set.PolicySet.policy.Goals as goal

pub returns-clause-few : goal.returns-clause-few
returns-clause-few c =
    let few = few_there c.self.inside.policies.entries c.args.i (c.in-Some.field-0-0.now, c.in-Some.filters.now) c.in-Some.ensures.entry in
    omega (arith, few, c.self.invariant.1, c.self.invariant.2)
