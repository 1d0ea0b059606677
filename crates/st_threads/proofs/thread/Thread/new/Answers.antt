use Rattle.std.proofs.Common.{refl}
use Rattle.st_threads.proofs.thread.Thread.new.Goals as goal

pub returns : goal.returns
returns c = refl
