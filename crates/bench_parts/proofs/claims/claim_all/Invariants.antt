use Rattle.std.proofs.Common.{◌≡◌}
use Rattle.bench_parts.proofs.claims.claim_all.Given as goal

abbrev pub invariant-loop : goal.invariant-loop
invariant-loop l = l.messages.workers ≡ 1
