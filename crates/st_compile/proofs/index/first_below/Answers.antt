use Rattle.std.proofs.Common.{◌∙◌, ap, sym, arith, get_or}
use Rattle.std.proofs.lemmas.Option.{get_or_from_slice_get}
use Rattle.st_filter.specs.Judging.{holds}
use Rattle.st_compile.proofs.Holding.{none_of_kind, tried_next}
use Rattle.st_compile.proofs.index.first_below.Goals as goal

pub returns-then-place-limit-clause-none : goal.returns-then-place-limit-clause-none
returns-then-place-limit-clause-none c = λ is are. none_of_kind c.args.copies.now c.args.filters.now is c.args.places.now c.loop-place.place-index c.args.limit c.loop-place.invariant (λ within. c.if-place-limit.true) are

pub returns-then-holds-clause-holds : goal.returns-then-holds-clause-holds
returns-then-holds-clause-holds c = λ less f at.
    let place = get_or c.args.places.now c.loop-place.place-index 0 in
    let same = c.index-filters-place.is ∙ get_or_from_slice_get c.args.filters.now place f c.index-filters-place.result at in
    ap (λ each. holds each c.args.copies.now) (sym same) ∙ sym c.holds.ensures ∙ c.if-holds.true

pub returns-then-holds-clause-none : goal.returns-then-holds-clause-none
returns-then-holds-clause-none c = λ is are.
    none_of_kind c.args.copies.now c.args.filters.now is c.args.places.now c.loop-place.place-index (get_or c.args.places.now c.loop-place.place-index 0) c.loop-place.invariant (λ within. omega arith) are

pub loop-place-preserved : goal.loop-place-preserved
loop-place-preserved c =
    let place = get_or c.args.places.now c.loop-place.place-index 0 in
    tried_next c.args.copies.now c.args.filters.now c.args.places.now c.loop-place.place-index c.loop-place.invariant
    (λ f at.
    let same = c.index-filters-place.is ∙ get_or_from_slice_get c.args.filters.now place f c.index-filters-place.result at in
    ap (λ each. holds each c.args.copies.now) (sym same) ∙ sym c.holds.ensures ∙ c.if-holds.false)

pub returns-clause-none : goal.returns-clause-none
returns-clause-none c = λ is are. none_of_kind c.args.copies.now c.args.filters.now is c.args.places.now c.loop-place.place-index c.args.limit c.loop-place.invariant (λ within. absurd (omega (arith, within, c.loop-place-test.false))) are
