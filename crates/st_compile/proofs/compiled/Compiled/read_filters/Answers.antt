use Rattle.std.proofs.Common.{◌∙◌, List, ap, arith, map, sym, refl}
use Rattle.std.proofs.lemmas.Option.{get_or_from_slice_get, slice_get_within}
use Rattle.st_filter.specs.Formula.{FilterValue}
use Rattle.st_filter.specs.Policies.{PoliciesValue, filters_of, policy_of, read_filters}
use Rattle.st_filter.specs.declared.set.BinaryPolicy.{BinaryPolicy}
use Rattle.st_compile.proofs.Lists.{row_there}
use Rattle.st_compile.proofs.compiled.Compiled.read_filters.Goals as goal

pub index-requires : goal.index-requires
index-requires c =
    let own : List FilterValue = policy_of c.read.result.now c.args.policy.now in
    let there =
    row_there c.read.result.now c.self.inside.rows.items c.in-Some.row own (c.self.invariant.1 ∙ ap (map (λ (p : BinaryPolicy). p.filters)) (sym c.read.ensures)) c.in-Some.ensures.some in
    let within = slice_get_within c.self.inside.rows.items c.in-Some.row own there in
    omega (arith, within, c.self.inside.rows.ok.0)

pub returns-in-Some : goal.returns-in-Some
returns-in-Some c =
    let own : List FilterValue = policy_of c.read.result.now c.args.policy.now in
    let there =
    row_there c.read.result.now c.self.inside.rows.items c.in-Some.row own (c.self.invariant.1 ∙ ap (map (λ (p : BinaryPolicy). p.filters)) (sym c.read.ensures)) c.in-Some.ensures.some in
    c.of_rule.ensures
    ∙ ap (filters_of c.args.rule) (c.index.ensures ∙ get_or_from_slice_get c.self.inside.rows.items c.in-Some.row own c.index.result.now there)
    ∙ ap (λ (ps : List BinaryPolicy). read_filters ps c.args.policy.now c.args.rule) c.read.ensures
    ∙ ap (λ (ps : PoliciesValue). read_filters ps.read c.args.policy.now c.args.rule) c.self.view_is

pub returns-in-None : goal.returns-in-None
returns-in-None c =
    c.self.invariant.0
    ∙ ap (filters_of c.args.rule) (sym (c.in-None.ensures.none refl))
    ∙ ap (λ (ps : List BinaryPolicy). read_filters ps c.args.policy.now c.args.rule) c.read.ensures
    ∙ ap (λ (ps : PoliciesValue). read_filters ps.read c.args.policy.now c.args.rule) c.self.view_is
