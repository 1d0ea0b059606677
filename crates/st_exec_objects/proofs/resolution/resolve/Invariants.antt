use Rattle.std.proofs.Common.{◌≡◌, ◌≢◌, []}
use Rattle.st_base.specs.declared.errno.Errno.{Errno}
use Rattle.st_model.specs.Walk.{most_lookups, resolve}
use Rattle.st_resolve.specs.Walk.{walk_from, walk_step}
use Rattle.st_resolve.specs.declared.walk.WalkStep.TheVariants as step
use Rattle.st_exec_objects.proofs.Resolutions.{end_of, looks_of}
use Rattle.st_exec_objects.proofs.resolution.resolve.Given as goal

abbrev pub invariant-loop-walk : goal.invariant-loop-walk
invariant-loop-walk l = record {
  ends : end_of (most_lookups l.tree l.text) l.tree (walk_from l.walk) ≡ resolve l.tree l.cwd l.text l.follow;
  goes_on : (errno : Errno) → walk_step (walk_from l.walk []) ≢ step.Fault errno;
}

abbrev pub decreases-loop-walk : goal.decreases-loop-walk
decreases-loop-walk l = looks_of (most_lookups l.tree l.text) l.tree (walk_from l.walk)
