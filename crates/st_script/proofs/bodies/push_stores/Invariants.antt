use Rattle.std.proofs.Common.{◌≡◌, ◌++◌, map}
use Rattle.std.specs.List.{range_with_len}
use Rattle.st_script.specs.Reading.{store_of}
use Rattle.st_script.proofs.bodies.push_stores.Given as goal

-- the stores so far
abbrev pub invariant-loop-i : goal.invariant-loop-i
invariant-loop-i l = l.body ≡ l.initial.body ++ map (store_of l.first l.bytes) (range_with_len 0 l.i)
