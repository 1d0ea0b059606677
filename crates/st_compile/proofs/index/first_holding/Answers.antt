use Rattle.std.proofs.Common.{◌≡◌, ◌∙◌, [], length, ap, refl, sym, arith}
use Rattle.std.specs.Prelude.{slice_get}
use Rattle.std.proofs.lemmas.Option.{slice_get_read, slice_get_within}
use Rattle.st_compile.specs.Holding.{asks_for}
use Rattle.st_compile.specs.Places.{places_from}
use Rattle.st_compile.proofs.Holding.{holds_next, none_at_all, so_far_next}
use Rattle.st_compile.proofs.index.first_holding.Goals as goal

pub loop-part-preserved : goal.loop-part-preserved
loop-part-preserved c =
    let part = c.part-item.result in
    let filters = c.args.filters.now in
    let at = slice_get_read c.as_slice-part-items.result.now (length c.as_slice-part-items.result.now) c.loop-part.part-index part refl (omega arith) c.part-item.is in
    record {
      items = c.loop-part.invariant.items;
      first =
          so_far_next c.args.copies.now filters c.loop-part.part-index c.loop-part.first c.first_below-first.result part c.loop-part.invariant.first
          (ap (λ parts. slice_get parts c.loop-part.part-index) (sym c.loop-part.invariant.items) ∙ at) c.first_below-first.ensures.within c.first_below-first.ensures.holds
          (c.first_below-first.ensures.none (asks_for part.text) (c.of-places.ensures ∙ c.requires.texts c.bytes.result.now ∙ ap (λ text. places_from (asks_for text) 0 filters) c.bytes.ensures));
    }

pub returns : goal.returns
returns c =
    let so_far = c.loop-part.invariant.first in
    let within = c.first_below.ensures.within in
    let items : length c.as_slice-part-items.result.now ≡ length c.args.copies.now.parts = ap length c.loop-part.invariant.items in
    record {
      within = omega (arith, within, so_far.within);
      holds_of_call = holds_next c.args.copies.now c.args.filters.now c.loop-part.first c.first_below.result within c.first_below.ensures.holds so_far.holds_of_call;
      none_before =
          none_at_all c.args.copies.now c.args.filters.now c.first_below.result (c.first_below.ensures.none (asks_for []) (c.of.ensures ∙ c.requires.texts []))
          (λ j arg at k f less.
          let inside = slice_get_within c.args.copies.now.parts j arg at in
          so_far.none_before j arg (omega (arith, inside, items, c.loop-part-test.false)) at k f (omega (arith, less, within)));
    }
