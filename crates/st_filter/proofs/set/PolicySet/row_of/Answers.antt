use Rattle.std.proofs.Common.{◌≡◌, ◌∙◌, ap, sym, subst, List, option_map, Some}
use Rattle.std.specs.List.{position}
use Rattle.std.specs.Prelude.{IfSome, is_some, slice_get}
use Rattle.std.specs.Str.{bytes_eq}
use Rattle.st_filter.specs.Policies.{policy_of}
use Rattle.st_filter.specs.declared.set.BinaryPolicy.{BinaryPolicy}
use Rattle.st_filter.proofs.Entries.{index_kept, no_policy, policy_at}
use Rattle.st_filter.proofs.set.PolicySet.row_of.Goals as goal

pub returns-clause-index : goal.returns-clause-index
returns-clause-index c =
    c.row_in.ensures.index
    ∙ index_kept c.self.inside.policies.entries c.args.binary.now
    ∙ ap (position (λ (p : BinaryPolicy). bytes_eq p.binary c.args.binary.now)) c.self.view_is

pub returns-clause-none : goal.returns-clause-none
returns-clause-none c = λ none.
    ap (λ ps. policy_of ps c.args.binary.now) (sym c.self.view_is) ∙ no_policy c.self.inside.policies.entries c.args.binary.now (sym c.row_in.ensures.found ∙ ap is_some none)

pub returns-clause-some : goal.returns-clause-some
returns-clause-some c =
    subst (λ (ps : List BinaryPolicy). IfSome c.row_in.result (λ i. option_map (λ (p : BinaryPolicy). p.filters) (slice_get ps i) ≡ Some (policy_of ps c.args.binary.now))) c.self.view_is
    (policy_at c.self.inside.policies.entries c.args.binary.now c.row_in.result c.row_in.ensures.within c.row_in.ensures.value)
