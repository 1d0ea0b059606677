use Rattle.std.proofs.Common.{take, subst, arith}
use Rattle.st_compile.specs.Compiling.{AreListed}
use Rattle.st_compile.proofs.Indices.{taken_next}
use Rattle.st_compile.proofs.policy.Lists.add_all.Goals as goal

pub loop-filter-preserved : goal.loop-filter-preserved
loop-filter-preserved c =
    let next = taken_next c.as_slice-filter-items.result.now c.loop-filter.filter-index c.filter-item.result (omega arith) c.filter-item.is in
    record {
      items = c.loop-filter.invariant.items;
      listed =
          subst (λ fs. AreListed fs c.add.new.self.lists.items c.add.new.self.places.items) next.1
          (c.in_ok-add.ensures (take c.loop-filter.filter-index c.as_slice-filter-items.result.now) c.loop-filter.invariant.listed);
    }
