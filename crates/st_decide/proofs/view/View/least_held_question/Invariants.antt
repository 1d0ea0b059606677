use Rattle.st_decide.specs.Questions.{IsLeastAmong}
use Rattle.st_decide.proofs.view.View.least_held_question.Given as goal

-- the least question that the threads so far hold
abbrev pub invariant-loop-thread : goal.invariant-loop-thread
invariant-loop-thread l = IsLeastAmong l.self l.thread-index l.least
