use Rattle.std.proofs.Common.{Option, ℕ, subst}
use Rattle.st_threads.specs.Ending.{EndsCall}
use Rattle.st_threads.proofs.ending.make_dying.Goals as goal

pub returns-clause-kept : goal.returns-clause-kept
returns-clause-kept c = subst (λ (drawing : Option ℕ). EndsCall drawing c.args.workers.now c.end_call.new.workers) c.drawing_held.ensures c.end_call.ensures.kept
