use Rattle.std.proofs.Common.{◌<◌, ◌∙◌, [], ap, sym, subst, get_or, length, arith}
use Rattle.std.proofs.lemmas.Option.{get_or_from_slice_get}
use Rattle.st_learn.specs.Deciding.{NumberIs}
use Rattle.st_learn.specs.Sessions.{Session}
use Rattle.st_learn.proofs.Numbers.{number_few, number_found, numbers_length}
use Rattle.st_learn.proofs.session.Session.number_before.Goals as goal

inside : (c : goal.After-self) → c.args.place < length c.self.inside.kept.items
inside c = subst (λ (session : Session). c.args.place < length session.filters) (sym c.self.view_is) c.requires

pub index-requires : goal.index-requires
index-requires c =
    let here = inside c in
    let long = ap length c.self.invariant.numbers_are ∙ numbers_length [] c.self.inside.kept.items in
    let len = c.self.inside.numbers.ok.0 in
    omega (arith, here, long, len)

pub returns-clause-few : goal.returns-clause-few
returns-clause-few c =
    let is = c.index.ensures ∙ ap (λ numbers. get_or numbers c.args.place c.index.result.now) c.self.invariant.numbers_are in
    let few = number_few c.self.inside.kept.items c.args.place c.index.result.now (subst (λ (session : Session). c.args.place < length session.filters) (sym c.self.view_is) c.requires) in
    let bound = c.self.invariant.few in
    omega (arith, is, few, bound)

pub returns-clause-is : goal.returns-clause-is
returns-clause-is c = subst (λ (session : Session). NumberIs session.filters c.args.place c.index.result.now) c.self.view_is
    (λ kept at.
    c.index.ensures ∙ ap (λ numbers. get_or numbers c.args.place c.index.result.now) c.self.invariant.numbers_are
    ∙ get_or_from_slice_get _ c.args.place _ c.index.result.now (number_found [] c.self.inside.kept.items c.args.place kept at))
