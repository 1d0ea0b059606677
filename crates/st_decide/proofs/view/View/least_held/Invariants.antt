use Rattle.std.proofs.Common.{◌≡◌, take}
use Rattle.st_decide.specs.Questions.{least_held}
use Rattle.st_decide.proofs.view.View.least_held.Given as goal

-- the least number that the threads so far hold
abbrev pub invariant-loop-thread : goal.invariant-loop-thread
invariant-loop-thread l = l.least ≡ least_held (take l.thread-index l.self.threads)
