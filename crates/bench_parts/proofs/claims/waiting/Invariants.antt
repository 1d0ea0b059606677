use Rattle.std.proofs.Common.{◌≡◌, ◌<◌, ℕ, suc, Some}
use Rattle.st_messages.specs.Messages.{count_in_use, thread_of_drawing}
use Rattle.bench_parts.proofs.claims.waiting.Given as goal

abbrev pub invariant-loop-tid : goal.invariant-loop-tid
invariant-loop-tid l =
    (l.messages.workers ≡ 1) × (l.messages.next ≡ suc l.tid) × (count_in_use l.messages ≡ l.tid)
    × ((q t : ℕ) → thread_of_drawing l.messages q ≡ Some t → t < l.tid)
