use Rattle.std.proofs.Common.{◌≡◌, ◌<◌, ◌∙◌, ◌++◌, ◌∷◌, List, [], length, set, ap, sym, subst, arith}
use Rattle.std.proofs.lemmas.List.Elements.{All-weaker}
use Rattle.std.proofs.lemmas.Option.{get_or_from_slice_get, slice_get_within}
use Rattle.std.proofs.lemmas.Result.{on_ok_weaker}
use Rattle.std.specs.List.{All}
use Rattle.std.specs.Prelude.{slice_get}
use Rattle.st_filter.specs.Formula.{FilterValue}
use Rattle.st_filter.specs.Policies.{filters_of, is_for}
use Rattle.st_filter.specs.declared.filter.FilterName.TheVariants as name
use Rattle.st_compile.specs.Compiling.{AreListed, place_of}
use Rattle.st_compile.proofs.Lists.{all_for, fewer_for, listed_first, listed_more, on_ok_two, place_read}
use Rattle.st_compile.proofs.policy.Lists.add_for.Goals as goal

pub returns-then-place-eq0 : goal.returns-then-place-eq0
returns-then-place-eq0 c =
    let lists = c.args.self.now.lists.items in
    let places = c.args.self.now.places.items in
    let f = c.args.filter.now in
    let at = place_read places c.args.rule c.index.result c.index-2.result.now c.from-place.result c.requires.listed.1.1.rules c.index.ensures.value c.index-2.ensures c.from-place.ensures in
    let none : place_of places c.args.rule ≡ 0 = sym at ∙ c.if-place-eq0.true in
    on_ok_two c.begin.result
    (λ begun placed filters are.
    subst (λ ls. AreListed (filters ++ f ∷ []) ls c.begin.new.self.places.items) (sym begun)
    (subst (λ ps. AreListed (filters ++ f ∷ []) (lists ++ (f ∷ []) ∷ []) ps) (sym placed) (listed_first filters f c.args.rule c.requires.name lists places are none)))
    c.begin.ensures.lists c.begin.ensures.places

pub index_mut-list-requires : goal.index_mut-list-requires
index_mut-list-requires c =
    let lists = c.args.self.now.lists.items in
    let places = c.args.self.now.places.items in
    let at = place_read places c.args.rule c.index.result c.index-2.result.now c.from-place.result c.requires.listed.1.1.rules c.index.ensures.value c.index-2.ensures c.from-place.ensures in
    let within = slice_get_within lists (place_of places c.args.rule) (filters_of c.args.rule c.requires.listed.0) (c.requires.listed.1.1.listed c.args.rule) in
    omega (arith, at, within, c.args.self.now.lists.ok.0)

pub add-requires-clause-few : goal.add-requires-clause-few
add-requires-clause-few c =
    let lists = c.args.self.now.lists.items in
    let places = c.args.self.now.places.items in
    let filters = c.requires.listed.0 in
    let at = place_read places c.args.rule c.index.result c.index-2.result.now c.from-place.result c.requires.listed.1.1.rules c.index.ensures.value c.index-2.ensures c.from-place.ensures in
    let list = c.index_mut-list.ensures.value ∙ get_or_from_slice_get lists c.from-place.result (filters_of c.args.rule filters) c.index_mut-list.result.now (ap (λ n. slice_get lists n) at ∙ c.requires.listed.1.1.listed c.args.rule) in
    let long = ap length list in
    let few = fewer_for (λ (each : FilterValue). is_for c.args.rule each.name) filters in
    omega (arith, long, few, c.requires.listed.1.0)

pub add-requires-clause-rule : goal.add-requires-clause-rule
add-requires-clause-rule c =
    let lists = c.args.self.now.lists.items in
    let places = c.args.self.now.places.items in
    let filters = c.requires.listed.0 in
    let at = place_read places c.args.rule c.index.result c.index-2.result.now c.from-place.result c.requires.listed.1.1.rules c.index.ensures.value c.index-2.ensures c.from-place.ensures in
    let list = c.index_mut-list.ensures.value ∙ get_or_from_slice_get lists c.from-place.result (filters_of c.args.rule filters) c.index_mut-list.result.now (ap (λ n. slice_get lists n) at ∙ c.requires.listed.1.1.listed c.args.rule) in
    subst (λ (fs : List FilterValue). All (λ each. each.name ≡ c.args.filter.now.name) fs) (sym list)
    (All-weaker (λ (each : FilterValue). each.name ≡ name.Rule c.args.rule) (λ (each : FilterValue). each.name ≡ c.args.filter.now.name) (λ each is. is ∙ sym c.requires.name) (filters_of c.args.rule filters) (all_for c.args.rule filters))

pub returns : goal.returns
returns c =
    let lists = c.args.self.now.lists.items in
    let places = c.args.self.now.places.items in
    let f = c.args.filter.now in
    let at = place_read places c.args.rule c.index.result c.index-2.result.now c.from-place.result c.requires.listed.1.1.rules c.index.ensures.value c.index-2.ensures c.from-place.ensures in
    on_ok_weaker c.add.result
    (λ added filters are.
    let list = c.index_mut-list.ensures.value ∙ get_or_from_slice_get lists c.from-place.result (filters_of c.args.rule filters) c.index_mut-list.result.now (ap (λ n. slice_get lists n) at ∙ are.listed c.args.rule) in
    let more = added ∙ ap (λ (fs : List FilterValue). fs ++ f ∷ []) list in
    let some : 0 < place_of places c.args.rule = omega (arith, at, c.if-place-eq0.false) in
    subst (λ ls. AreListed (filters ++ f ∷ []) ls places) (λ k. set lists (sym at k) (sym more k)) (listed_more filters f c.args.rule c.requires.name lists places are some))
    c.add.ensures
