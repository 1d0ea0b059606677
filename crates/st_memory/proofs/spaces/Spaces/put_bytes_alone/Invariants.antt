use Rattle.std.proofs.Common.{◌≡◌, ℕ, ◌-◌, ◌≤◌, length, take}
use Rattle.st_memory.specs.Memory.{byte_in, memory_after_put, page_number, KeepsSpaces}
use Rattle.st_memory.proofs.spaces.Spaces.put_bytes_alone.Given as goal

-- the bytes so far have been put
abbrev pub invariant-loop-done : goal.invariant-loop-done
invariant-loop-done l = record {
  within : l.done ≤ length l.bytes;
  so_far : (s b : ℕ) → byte_in l.self s b ≡ memory_after_put (byte_in l.initial.self) l.space l.at (take l.done l.bytes) s b;
  numbers : (s index : ℕ) → page_number l.self s index ≡ page_number l.initial.self s index;
  spaces : KeepsSpaces l.initial.self l.self;
}

abbrev pub decreases-loop-done : goal.decreases-loop-done
decreases-loop-done l = length l.bytes - l.done
