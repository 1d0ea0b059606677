use Rattle.std.specs.Option.{option_map}
use Rattle.st_model.specs.Tree.{is_number}
use Rattle.st_law.proofs.Least.{NoneOf}
use Rattle.st_law.specs.State.{worker_at}
use Rattle.st_kernel.specs.Kernel.{number_now, state_in}
use Rattle.st_replay.proofs.choice.worker_numbered.Given as goal

-- no worker before this one is at the number
abbrev pub invariant-loop-worker : goal.invariant-loop-worker
invariant-loop-worker l = NoneOf (λ w. is_number l.seq (option_map (number_now l.kernel) (worker_at (state_in l.kernel) w))) 1 l.worker
