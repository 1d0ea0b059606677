use Rattle.std.proofs.Common.{arith}
use Rattle.st_memory.proofs.Counts.{added-more}
use Rattle.st_memory.proofs.table.share.Goals as goal

pub loop-number-preserved : goal.loop-number-preserved
loop-number-preserved c = added-more c.args.pages.now c.loop-number.pages c.share_page.new.pages c.args.numbers.now c.loop-number.number-index (omega arith) c.loop-number.invariant c.share_page.ensures
