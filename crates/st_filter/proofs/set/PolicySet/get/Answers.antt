use Rattle.std.proofs.Common.{◌≡◌, ◌∙◌, ap, arith, [], List, length}
use Rattle.std.specs.Prelude.{unwrap_or, Option}
use Rattle.st_filter.specs.Policies.{policy_of}
use Rattle.st_filter.specs.declared.set.BinaryPolicy.{BinaryPolicy}
use Rattle.st_filter.specs.PolicyEntries.{represented_policies}
use Rattle.st_filter.proofs.Counts.{policy_within}
use Rattle.st_filter.proofs.Entries.{policy_kept}
use Rattle.st_filter.specs.Formula.{FilterValue}
use Rattle.st_filter.proofs.set.PolicySet.get.Goals as goal

pub returns-in-Some-clause-is : goal.returns-in-Some-clause-is
returns-in-Some-clause-is c =
    ap (λ (o : Option (List FilterValue)). unwrap_or o []) c.in-Some.ensures.value ∙ policy_kept c.self.inside.policies.entries c.args.binary.now ∙ ap (λ ps. policy_of ps c.args.binary.now) c.self.view_is

pub returns-in-None-clause-is : goal.returns-in-None-clause-is
returns-in-None-clause-is c =
    c.self.invariant.0 ∙ ap (λ (o : Option (List FilterValue)). unwrap_or o []) c.in-None.ensures.value ∙ policy_kept c.self.inside.policies.entries c.args.binary.now ∙ ap (λ ps. policy_of ps c.args.binary.now) c.self.view_is

pub returns-in-Some-clause-few : goal.returns-in-Some-clause-few
returns-in-Some-clause-few c =
    let kept : List BinaryPolicy = represented_policies c.self.inside.policies.entries in
    let is : c.in-Some.filters.now ≡ policy_of kept c.args.binary.now =
    ap (λ (o : Option (List FilterValue)). unwrap_or o []) c.in-Some.ensures.value ∙ policy_kept c.self.inside.policies.entries c.args.binary.now in
    let same : length c.in-Some.filters.now ≡ length (policy_of kept c.args.binary.now) = ap length is in
    omega (arith, same, policy_within kept c.args.binary.now, c.self.invariant.1, c.self.invariant.2)

pub returns-in-None-clause-few : goal.returns-in-None-clause-few
returns-in-None-clause-few c =
    let none : length c.self.inside.empty ≡ 0 = ap length c.self.invariant.0 in omega (arith, none)
