use Rattle.std.proofs.Common.{◌≡◌, ◌∙◌, ap}
use Rattle.st_learn.specs.Sessions.{is_filter_for, places_of}
use Rattle.st_learn.proofs.PassedOver.{answers_begin, answers_end, answers_next}
use Rattle.st_learn.proofs.Filters.{item_inside}
use Rattle.st_learn.proofs.session.Session.answers_under.Goals as goal

items_are : (c : goal.After-places_of-place-items) → c.places_of-place-items.result.now ≡ places_of c.args.self.now.filters c.args.block.now.binary
items_are c = c.places_of-place-items.ensures.is ∙ ap (places_of c.args.self.now.filters) c.bytes.ensures

pub loop-place-init : goal.loop-place-init
loop-place-init c = record {
  items = c.places_of-place-items.ensures.is ∙ ap (places_of c.args.self.now.filters) c.bytes.ensures;
  by = answers_begin c.args.block.now.filters c.args.self.now.filters c.places_of-place-items.result.now c.in_ok-answers.answers c.in_ok-answers.ensures;
}

pub kept-kept-requires : goal.kept-kept-requires
kept-kept-requires c = item_inside c.args.self.now.filters (is_filter_for c.args.block.now.binary) c.places_of-place-items.result.now c.loop-place.place-index 0 c.loop-place.invariant.items c.loop-place-test.true

pub loop-place-preserved : goal.loop-place-preserved
loop-place-preserved c = record {
  items = c.loop-place.invariant.items;
  by = answers_next c.args.block.now.filters c.args.self.now.filters c.places_of-place-items.result.now c.loop-place.place-index c.kept-kept.result.now c.loop-place.answers c.appended.new.self c.rule.result c.filter.result.now c.fast_answer.result
      c.loop-place-test.true c.kept-kept.ensures c.rule.ensures c.filter.ensures c.fast_answer.ensures c.appended.ensures c.loop-place.invariant.by;
}

pub returns : goal.returns
returns c = answers_end c.args.block.now.filters c.args.self.now.filters c.args.block.now.binary c.places_of-place-items.result.now c.loop-place.place-index c.loop-place.answers c.loop-place.invariant.items c.loop-place-test.false c.loop-place.invariant.by
