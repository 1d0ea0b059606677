use Rattle.std.proofs.Common.{◌≡◌, ◌≤◌, suc, length}
use Rattle.st_decide.specs.Holding.{is_same_rule, message_held}
use Rattle.st_waking.proofs.Awake.{IsWokenTo}
use Rattle.st_waking.proofs.waking.wake_alike.Given as goal

-- the threads so far that hold such a call are awake
abbrev pub invariant-loop-tid : goal.invariant-loop-tid
invariant-loop-tid l = record {
  from : 1 ≤ l.tid;
  end : l.tid-end ≡ suc (length l.machine.threads);
  so_far : IsWokenTo (λ t. is_same_rule l.message (message_held l.machine t)) l.tid l.initial.asleep l.asleep;
}
