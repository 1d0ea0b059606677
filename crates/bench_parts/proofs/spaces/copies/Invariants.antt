use Rattle.std.proofs.Common.{◌≡◌, true}
use Rattle.st_memory.specs.Memory.{is_space_live, next_space}
use Rattle.bench_parts.proofs.spaces.copies.Given as goal

abbrev pub invariant-loop : goal.invariant-loop
invariant-loop l = (is_space_live l.spaces l.first ≡ true) × (next_space l.spaces ≡ 2)
