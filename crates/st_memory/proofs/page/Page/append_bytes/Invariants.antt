use Rattle.std.proofs.Common.{◌≡◌, ◌-◌, ◌≤◌, ◌++◌}
use Rattle.st_memory.specs.Memory.{byte_of}
use Rattle.st_model.specs.Memory.{bytes_from}
use Rattle.st_memory.proofs.page.Page.append_bytes.Given as goal

-- the bytes that were appended so far
abbrev pub invariant-loop-done : goal.invariant-loop-done
invariant-loop-done l = record {
  within : l.done ≤ l.count;
  so_far : l.bytes.items ≡ l.initial.bytes.items ++ bytes_from (byte_of l.self) l.at l.done;
}

abbrev pub decreases-loop-done : goal.decreases-loop-done
decreases-loop-done l = l.count - l.done
