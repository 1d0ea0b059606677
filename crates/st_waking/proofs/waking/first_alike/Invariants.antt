use Rattle.std.proofs.Common.{◌≡◌, ◌≤◌, ◌<◌, ℕ, false}
use Rattle.st_decide.specs.Holding.{is_same_rule, message_held}
use Rattle.st_waking.proofs.waking.first_alike.Given as goal

-- none of the threads so far holds such a call
abbrev pub invariant-loop-tid : goal.invariant-loop-tid
invariant-loop-tid l = record {
  from : 1 ≤ l.tid;
  before : (t : ℕ) → 1 ≤ t → t < l.tid → is_same_rule l.message (message_held l.machine t) ≡ false;
}
