use Rattle.std.proofs.Common.{◌≡◌, List, [], ◌∷◌, ◌++◌, length, false, ap, ◌∙◌, arith}
use Rattle.st_filter.specs.PolicyEntries.{represented_policies}
use Rattle.st_filter.specs.Formula.{FilterValue}
use Rattle.st_filter.specs.declared.set.BinaryPolicy.{BinaryPolicy}
use Rattle.st_filter.specs.Policies.{has_policy, filters_in}
use Rattle.st_filter.proofs.Counts.{filters_in_last}
use Rattle.st_filter.proofs.Entries.{kept_begun}
use Rattle.st_filter.proofs.set.PolicySet.begin.Goals as goal

pub invariant_of-self-2 : goal.invariant_of-self-2
invariant_of-self-2 c =
    let old = represented_policies c.self.inside.policies.entries in
    let new : has_policy old c.into_bytes.result.items ≡ false = ap (has_policy old) c.into_bytes.ensures ∙ ap (λ ps. has_policy ps c.args.binary) c.self.view_is ∙ c.requires in
    let begun = kept_begun c.self.inside.policies.entries c.into_bytes.result c.new.result new in
    let last = filters_in_last old (record { binary = c.into_bytes.result.items; filters = c.new.result }) in
    let none : length c.new.result ≡ 0 = ap length c.new.ensures in
    let counted = ap filters_in (ap represented_policies c.in_ok-insert.ensures.entries ∙ begun) in
    (c.self.invariant.0, omega (arith, counted, last, none, c.self.invariant.1), c.self.invariant.2)

pub returns-clause-ok : goal.returns-clause-ok
returns-clause-ok c =
    let old = represented_policies c.self.inside.policies.entries in
    let new : has_policy old c.into_bytes.result.items ≡ false = ap (has_policy old) c.into_bytes.ensures ∙ ap (λ ps. has_policy ps c.args.binary) c.self.view_is ∙ c.requires in
    ap represented_policies c.in_ok-insert.ensures.entries
    ∙ kept_begun c.self.inside.policies.entries c.into_bytes.result c.new.result new
    ∙ ap (λ b. old ++ record { binary = b; filters = c.new.result } ∷ []) c.into_bytes.ensures
    ∙ ap (λ (fs : List FilterValue). old ++ record { binary = c.args.binary; filters = fs } ∷ []) c.new.ensures
    ∙ ap (λ (ps : List BinaryPolicy). ps ++ record { binary = c.args.binary; filters = [] } ∷ []) c.self.view_is
