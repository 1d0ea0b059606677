use Rattle.std.proofs.Common.{◌≡◌, map, take}
use Rattle.st_filter.specs.declared.set.BinaryPolicy.{BinaryPolicy}
use Rattle.st_compile.proofs.compiled.rows_of_blocks.Given as goal

-- the filters of the policies so far
abbrev pub invariant-loop-block : goal.invariant-loop-block
invariant-loop-block l = l.rows.items ≡ map (λ (p : BinaryPolicy). p.filters) (take l.block-index l.blocks)
