use Rattle.std.proofs.Common.{sym, ◌∙◌}
use Rattle.std.proofs.lemmas.Result.{err_from_is_err_and}
use Rattle.st_tree.proofs.Ways.{reached_step, step_within}
use Rattle.st_tree.proofs.places.reach.Goals as goal

pub returns-in_err-at-clause-reached : goal.returns-in_err-at-clause-reached
returns-in_err-at-clause-reached c =
    let p = err_from_is_err_and c.from_residual.result c.from_residual.ensures.1 in
    rw (p.1, p.2) (sym (reached_step c.args.objects.now c.loop-part.at c.loop-part.part-iterator c.next.new.self c.in-Some.part.now _ c.in-Some.ensures.steps c.in_err-at.ensures) ∙ c.loop-part.invariant.2)

pub loop-part-preserved : goal.loop-part-preserved
loop-part-preserved c =
    let within = step_within c.args.objects.now c.loop-part.at c.in_ok-at.at c.in-Some.part.now c.requires c.in_ok-at.ensures in
    (within.0, within.1, sym (reached_step c.args.objects.now c.loop-part.at c.loop-part.part-iterator c.next.new.self c.in-Some.part.now _ c.in-Some.ensures.steps c.in_ok-at.ensures) ∙ c.loop-part.invariant.2)
