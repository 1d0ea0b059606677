use Rattle.std.proofs.Common.{◌+◌, ◌*◌}
use Rattle.st_desk.proofs.bodies.+fn-run_bodies-join+arg2+run_bodies.Given as goal

abbrev pub decreases-join+arg2 : goal.decreases-join+arg2
decreases-join+arg2 g l = 2 * l.left + 1

abbrev pub decreases-run_bodies : goal.decreases-run_bodies
decreases-run_bodies g l = 2 * l.left
