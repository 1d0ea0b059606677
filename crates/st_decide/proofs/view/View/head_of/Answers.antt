use Rattle.st_decide.proofs.FewCalls.{few_calls}
use Rattle.st_decide.proofs.Running.{running_of}
use Rattle.st_decide.proofs.view.View.head_of.Goals as goal

pub next_seq-requires : goal.next_seq-requires
next_seq-requires c = few_calls (running_of c.self.inside) c.self.invariant.state c.self.invariant.is
