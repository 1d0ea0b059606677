use Rattle.std.proofs.Common.{arith}
use Rattle.st_learn.proofs.session.Session.verdict.Goals as goal

pub overflow_add-before : goal.overflow_add-before
overflow_add-before c = omega (arith, c.filter_count-before.ensures.few, c.in-Some.ensures.few)
