use Rattle.std.proofs.Common.{◌≡◌, ◌+◌, suc, arith, subst, take}
use Rattle.st_compile.specs.Table.{IsTableOf}
use Rattle.st_compile.proofs.Tables.{table_next}
use Rattle.st_compile.proofs.table.table_of.Goals as goal

pub loop-i-preserved : goal.loop-i-preserved
loop-i-preserved c =
    let next : suc c.loop-i.i ≡ c.loop-i.i + 1 = omega arith in
    subst (λ n. IsTableOf (take n c.args.policies.now) c.add.new.self) next
    (table_next c.args.policies.now c.loop-i.i c.binary.result.now c.policy.result.now c.loop-i.table c.add.new.self c.binary.ensures c.policy.ensures.is c.loop-i.invariant c.in_ok-add.ensures)
