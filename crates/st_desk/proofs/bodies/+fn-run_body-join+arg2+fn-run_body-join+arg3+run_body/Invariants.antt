use Rattle.std.proofs.Common.{◌+◌, ◌*◌}
use Rattle.st_desk.proofs.bodies.+fn-run_body-join+arg2+fn-run_body-join+arg3+run_body.Given as goal

abbrev pub decreases-join+arg2 : goal.decreases-join+arg2
decreases-join+arg2 g l = 2 * l.depth + 1

abbrev pub decreases-join+arg3 : goal.decreases-join+arg3
decreases-join+arg3 g l = 2 * l.depth + 1

abbrev pub decreases-run_body : goal.decreases-run_body
decreases-run_body g l = 2 * l.depth

abbrev pub invariant-loop : goal.invariant-loop
invariant-loop g l =
    (goal.iterator-loop g).can_next l.iterator' × (goal.iterator-loop g).is_finite l.iterator'
