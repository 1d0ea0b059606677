use Rattle.std.proofs.Common.{◌≡◌, map, take}
use Rattle.st_linux.specs.Native.{native_row}
use Rattle.st_linux.proofs.native.native_rows.Given as goal

abbrev pub invariant-loop-row : goal.invariant-loop-row
invariant-loop-row l = l.natives ≡ map native_row (take l.row-index l.rows)
