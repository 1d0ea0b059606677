use Rattle.std.proofs.Common.{◌≡◌, map, take}
use Rattle.st_filter.specs.declared.set.BinaryPolicy.{BinaryPolicy}
use Rattle.st_compile.proofs.compiled.rows_of_set.Given as goal

-- the filters of the policies so far
abbrev pub invariant-loop-i : goal.invariant-loop-i
invariant-loop-i l = l.rows.items ≡ map (λ (p : BinaryPolicy). p.filters) (take l.i l.set)
