use Rattle.std.proofs.Common.{◌≡◌}
use Rattle.st_audit.specs.LearntText.{learnt_so_far}
use Rattle.st_learn.specs.Sessions.{version_of}
use Rattle.st_audit.proofs.learnt.print_learnt.Given as goal

-- the first of the policies that were changed are printed
abbrev pub invariant-loop-row : goal.invariant-loop-row
invariant-loop-row l = l.out ≡ learnt_so_far l.policies (version_of l.session.reloads) l.session.changed l.session.filters l.row l.emulation
