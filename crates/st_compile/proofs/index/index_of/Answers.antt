use Rattle.std.proofs.Common.{◌∙◌, take, ap, subst, arith}
use Rattle.st_filter.specs.Formula.{FilterValue}
use Rattle.st_compile.specs.Asked.{asked_text}
use Rattle.st_compile.specs.Holding.{asks_for}
use Rattle.st_compile.specs.Places.{GainsPlace, places_from}
use Rattle.st_compile.proofs.Indices.{added_places, taken_next}
use Rattle.st_compile.proofs.index.index_of.Goals as goal

pub loop-place-preserved : goal.loop-place-preserved
loop-place-preserved c = λ text.
    let f = c.index-filters-place.result in
    let next = taken_next c.args.filters.now c.loop-place.place f (omega arith) c.index-filters-place.is in
    added_places (λ (each : FilterValue). asked_text each.formula) c.loop-place.texts c.add.new.self (take c.loop-place.place c.args.filters.now) f c.loop-place.place c.loop-place.invariant
    (subst (λ asked. GainsPlace c.loop-place.texts asked c.loop-place.place c.add.new.self) c.asked_text.ensures c.in_ok-add.ensures.ok) next.0 text
    ∙ ap (places_from (asks_for text) 0) next.1
