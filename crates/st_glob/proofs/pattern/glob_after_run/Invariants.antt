use Rattle.std.proofs.Common.{◌≡◌, ◌+◌, length}
use Rattle.st_glob.specs.Glob.{matches_after_run, glob}
use Rattle.st_glob.proofs.pattern.glob_after_run.Given as goal

abbrev pub invariant-loop-after : goal.invariant-loop-after
invariant-loop-after l = matches_after_run (glob l.pattern) l.text ≡ matches_after_run (glob l.items) l.rest

abbrev pub decreases-loop-after : goal.decreases-loop-after
decreases-loop-after l = length l.items + length l.rest
