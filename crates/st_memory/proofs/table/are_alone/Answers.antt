use Rattle.st_memory.proofs.Counts.{alone-next}
use Rattle.st_memory.proofs.table.are_alone.Goals as goal

pub loop-index-preserved : goal.loop-index-preserved
loop-index-preserved c = alone-next c.args.pages.now c.args.row.now c.args.first c.loop-index.index c.index.result.now c.index.ensures c.if-index-gt1.false c.loop-index.invariant
