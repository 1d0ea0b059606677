use Rattle.std.proofs.Common.{◌++◌, ◌∷◌, []}
use Rattle.std.proofs.lemmas.Result.{err_from_is_err_and}
use Rattle.st_exec_objects.proofs.Walks.{walk_stops, walk_on}
use Rattle.st_exec_objects.proofs.walking.walk.Goals as goal

pub returns-in_err-search-clause-refused : goal.returns-in_err-search-clause-refused
returns-in_err-search-clause-refused c =
    let p = err_from_is_err_and c.from_residual.result c.from_residual.ensures.1 in
    rw (p.1, p.2)
    (walk_stops c.args.tree.now c.args.ids c.args.name.now c.loop-part.invariant.0 c.loop-part.part-iterator c.next.new.self c.in-Some.part.now c.loop-part.place
    c.in-Some-object.obj _ c.loop-part.invariant.1 c.in-Some.ensures.steps c.in-Some-object.is c.in_err-search.ensures)

pub loop-part-preserved : goal.loop-part-preserved
loop-part-preserved c = (
  c.loop-part.invariant.0 ++ c.in-Some.part.now ∷ [],
  walk_on c.args.tree.now c.args.ids c.args.name.now c.loop-part.invariant.0 c.loop-part.part-iterator c.next.new.self c.in-Some.part.now c.loop-part.place
      c.in-Some-object.obj c.child.result c.loop-part.invariant.1 c.in-Some.ensures.steps c.in-Some-object.is c.in_ok-search.ensures c.child.ensures.object c.child.ensures.made,
)
