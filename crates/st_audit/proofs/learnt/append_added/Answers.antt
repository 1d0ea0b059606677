use Rattle.std.proofs.Common.{◌++◌, ap}
use Rattle.st_learn.specs.Learnt.{filters_added}
use Rattle.st_audit.specs.LearntText.{rows_text}
use Rattle.st_learn.specs.Sessions.{is_filter_for}
use Rattle.st_learn.proofs.Filters.{added_found, item_inside}
use Rattle.st_audit.proofs.Printing.{row_next}
use Rattle.st_audit.proofs.learnt.append_added.Goals as goal

pub loop-place-init : goal.loop-place-init
loop-place-init c = record {
  items = c.places_of-place-items.ensures.is;
  written = ap (λ fs. c.args.out.now ++ rows_text fs c.args.emulation) (added_found c.args.session.now.filters c.args.policy.now c.places_of-place-items.result.now c.places_of-place-items.ensures.is);
}

pub kept-requires : goal.kept-requires
kept-requires c = item_inside c.args.session.now.filters (is_filter_for c.args.policy.now) c.places_of-place-items.result.now c.loop-place.place-index 0 c.places_of-place-items.ensures.is c.loop-place-test.true

pub loop-place-preserved : goal.loop-place-preserved
loop-place-preserved c = record {
  items = c.loop-place.invariant.items;
  written = row_next c.args.emulation c.args.session.now.filters c.places_of-place-items.result.now c.loop-place.place-index 0 c.kept.result.now c.filter.result.now c.loop-place.out c.append_row.new.out
      (c.args.out.now ++ rows_text (filters_added c.args.session.now.filters c.args.policy.now) c.args.emulation) c.loop-place-test.true c.kept.ensures c.filter.ensures c.in_ok-append_row.ensures c.loop-place.invariant.written;
}
