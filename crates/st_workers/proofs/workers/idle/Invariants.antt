use Rattle.std.proofs.Common.{◌≡◌, All, length}
use Rattle.st_workers.specs.declared.turn.Turn.TheVariants.{Idle}
use Rattle.st_workers.proofs.workers.idle.Given as goal

-- one idle worker for each number so far
abbrev pub invariant-loop : goal.invariant-loop
invariant-loop l = record {
  count : length l.turns.items ≡ l.counter;
  idle : All (λ turn. turn ≡ Idle) l.turns.items;
}
