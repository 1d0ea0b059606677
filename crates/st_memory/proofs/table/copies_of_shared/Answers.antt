use Rattle.std.proofs.Common.{◌∙◌, ap}
use Rattle.st_memory.proofs.Counts.{alone-more, copied-more}
use Rattle.st_memory.proofs.table.copies_of_shared.Goals.{then-counted-gt1+in_ok-page+in_ok-push, else-counted-gt1}
use Rattle.st_memory.proofs.table.copies_of_shared.Goals as goal

pub loop-index-preserved : goal.loop-index-preserved
loop-index-preserved c = elim c.if-counted-gt1.branch [
  | then-counted-gt1+in_ok-page+in_ok-push w ↦
      let both = copied-more c.args.pages.now c.args.row.now c.args.first c.args.end c.loop-index.index c.loop-index.copies.items c.if-counted-gt1.copies.items w.in_ok-page.page c.index-counted.result.now
      (ap (λ v. v.items) w.copies-is ∙ w.in_ok-push.ensures.items) c.loop-index.auto.index c.loop-index-test.true c.index-counted.ensures w.if-counted-gt1.true w.in_ok-page.ensures c.loop-index.invariant.copies c.loop-index.invariant.rest in
      record { copies = both.0; rest = both.1 }
  | else-counted-gt1 w ↦ rw w.copies-is (record {
    copies = c.loop-index.invariant.copies;
    rest = alone-more c.args.pages.now c.args.row.now c.args.first c.loop-index.index c.loop-index.copies.items c.index-counted.result.now c.index-counted.ensures w.if-counted-gt1.false c.loop-index.invariant.rest;
  })
]
