use Rattle.std.proofs.Common.{◌≡◌, ℕ, ◌-◌, ◌≤◌, length, take}
use Rattle.st_memory.specs.Memory.{byte_of}
use Rattle.st_model.specs.Memory.{bytes_after_put}
use Rattle.st_memory.proofs.page.Page.put_bytes.Given as goal

-- the bytes so far have been put
abbrev pub invariant-loop-done : goal.invariant-loop-done
invariant-loop-done l = record {
  within : l.done ≤ length l.bytes;
  so_far : (b : ℕ) → byte_of l.self b ≡ bytes_after_put (byte_of l.initial.self) l.at (take l.done l.bytes) b;
}

abbrev pub decreases-loop-done : goal.decreases-loop-done
decreases-loop-done l = length l.bytes - l.done
