use Rattle.std.proofs.Common.{◌≡◌, ◌∙◌, ◌+◌, ◌++◌, suc, [], ◌∷◌, map, take, ap, arith}
use Rattle.st_filter.specs.declared.set.BinaryPolicy.{BinaryPolicy}
use Rattle.st_compile.proofs.Lists.{rows_next}
use Rattle.st_compile.proofs.compiled.rows_of_set.Goals as goal

pub loop-i-preserved : goal.loop-i-preserved
loop-i-preserved c =
    let next : suc c.loop-i.i ≡ c.loop-i.i + 1 = omega arith in
    c.in_ok-push.ensures.items
    ∙ (λ k. c.loop-i.invariant k ++ c.in_ok-of.ensures k ∷ [])
    ∙ rows_next c.args.set.now c.loop-i.i c.policy.result.now c.policy.ensures.is
    ∙ ap (λ n. map (λ (p : BinaryPolicy). p.filters) (take n c.args.set.now)) next
