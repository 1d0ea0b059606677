use Rattle.std.proofs.Common.{◌≡◌, ◌-◌, ◌≤◌}
use Rattle.st_memory.specs.Memory.{byte_in}
use Rattle.st_model.specs.Memory.{bytes_from}
use Rattle.st_memory.proofs.spaces.Spaces.bytes_inside.Given as goal

-- the bytes that were read so far
abbrev pub invariant-loop-done : goal.invariant-loop-done
invariant-loop-done l = record {
  within : l.done ≤ l.count;
  so_far : l.bytes.items ≡ bytes_from (byte_in l.self l.space) l.at l.done;
}

abbrev pub decreases-loop-done : goal.decreases-loop-done
decreases-loop-done l = l.count - l.done
