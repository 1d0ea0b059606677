use Rattle.std.proofs.Common.{take}
use Rattle.st_compile.specs.Table.{IsTableOf}
use Rattle.st_compile.proofs.table.table_of.Given as goal

abbrev pub invariant-loop-i : goal.invariant-loop-i
invariant-loop-i l = IsTableOf (take l.i l.policies) l.table
