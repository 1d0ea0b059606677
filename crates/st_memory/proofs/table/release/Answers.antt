use Rattle.std.proofs.Common.{arith}
use Rattle.st_memory.proofs.Counts.{released-more}
use Rattle.st_memory.proofs.table.release.Goals as goal

pub loop-number-preserved : goal.loop-number-preserved
loop-number-preserved c = released-more c.args.pages.now c.loop-number.pages c.release_page.new.pages c.args.numbers.now c.loop-number.number-index (omega arith) c.loop-number.invariant c.release_page.ensures.released
