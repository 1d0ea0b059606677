use Rattle.std.proofs.Common.{sym, ◌∙◌}
use Rattle.st_glob.specs.Glob.{glob}
use Rattle.st_glob.proofs.Runs.{run-here}
use Rattle.st_glob.proofs.pattern.glob_after_run.Goals as goal

pub returns-in-Whole : goal.returns-in-Whole
returns-in-Whole c = sym (c.loop-after.invariant ∙ run-here (glob c.loop-after.items.now) c.loop-after.rest.now c.in-Whole.ensures.is)
