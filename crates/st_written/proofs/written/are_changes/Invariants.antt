use Rattle.std.specs.Prelude.{◌↔◌}
use Rattle.std.proofs.Common.{drop}
use Rattle.st_written.specs.Written.{AreChanges}
use Rattle.st_written.proofs.written.are_changes.Given as goal

-- all changes are those of written entries exactly if those that are left are
abbrev pub invariant-loop-change : goal.invariant-loop-change
invariant-loop-change l = AreChanges (drop l.change-index l.changes) ↔ AreChanges l.changes
