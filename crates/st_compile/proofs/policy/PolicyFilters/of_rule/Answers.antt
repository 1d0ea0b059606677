use Rattle.std.proofs.Common.{◌≡◌, ◌<◌, ◌∙◌, Some, length, ap, arith, get_or}
use Rattle.std.proofs.lemmas.List.{get_or_default}
use Rattle.std.proofs.lemmas.Option.{get_or_from_slice_get, slice_get_within}
use Rattle.std.specs.Prelude.{slice_get}
use Rattle.st_calls.specs.Call.{index_of_rule}
use Rattle.st_filter.specs.Policies.{filters_of}
use Rattle.st_compile.proofs.Lists.{rule_inside}
use Rattle.st_compile.proofs.policy.PolicyFilters.of_rule.Goals as goal

pub index-requires-2 : goal.index-requires-2
index-requires-2 c =
    let lists = c.self.inside.lists.lists.items in
    let places = c.self.inside.lists.places.items in
    let rule = rule_inside c.args.rule in
    let inside : index_of_rule c.args.rule < length places = omega (arith, rule, c.self.invariant.rules) in
    let there : slice_get lists c.from.result ≡ Some (filters_of c.args.rule c.self.inside.policy.now) =
    ap (slice_get lists) (c.from.ensures ∙ c.index-place.ensures ∙ ap (λ i. get_or places i c.index-place.result.now) c.index.ensures.value ∙ get_or_default places (index_of_rule c.args.rule) c.index-place.result.now 0 inside)
    ∙ c.self.invariant.listed c.args.rule in
    let within = slice_get_within lists c.from.result (filters_of c.args.rule c.self.inside.policy.now) there in
    omega (arith, within, c.self.inside.lists.lists.ok.0)

pub returns : goal.returns
returns c =
    let lists = c.self.inside.lists.lists.items in
    let places = c.self.inside.lists.places.items in
    let rule = rule_inside c.args.rule in
    let inside : index_of_rule c.args.rule < length places = omega (arith, rule, c.self.invariant.rules) in
    let there : slice_get lists c.from.result ≡ Some (filters_of c.args.rule c.self.inside.policy.now) =
    ap (slice_get lists) (c.from.ensures ∙ c.index-place.ensures ∙ ap (λ i. get_or places i c.index-place.result.now) c.index.ensures.value ∙ get_or_default places (index_of_rule c.args.rule) c.index-place.result.now 0 inside)
    ∙ c.self.invariant.listed c.args.rule in
    c.index-2.ensures
    ∙ get_or_from_slice_get lists c.from.result (filters_of c.args.rule c.self.inside.policy.now) c.index-2.result.now there
    ∙ ap (filters_of c.args.rule) c.self.view_is
