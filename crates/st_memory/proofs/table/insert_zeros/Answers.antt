use Rattle.std.proofs.Common.{◌∙◌, arith}
use Rattle.std.proofs.lemmas.List.{length-set}
use Rattle.st_memory.proofs.Counts.{fresh-more}
use Rattle.st_memory.proofs.table.insert_zeros.Goals as goal

pub loop-index-preserved : goal.loop-index-preserved
loop-index-preserved c = record {
  size = length-set c.loop-index.row c.loop-index.index c.in-Ok.number ∙ c.loop-index.invariant.size;
  so_far = fresh-more c.args.pages.now c.loop-index.pages c.insert_zero.new.pages c.loop-index.row c.loop-index.index c.in-Ok.number (omega arith) c.loop-index.invariant.so_far c.in-Ok.ensures.fresh c.in-Ok.ensures.added c.in-Ok.ensures.words;
}
