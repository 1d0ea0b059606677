use Rattle.std.proofs.Common.{◌≡◌, ◌-◌}
use Rattle.st_readtrace.specs.Changes.{changes_from}
use Rattle.st_fields.proofs.Loops.{with_front}
use Rattle.st_readtrace.proofs.changes.read_changes.Given as goal

-- the changes so far and those of the rest are all changes
abbrev pub invariant-loop : goal.invariant-loop
invariant-loop l = with_front l.changes (changes_from (l.most - l.counter) l.fields) ≡ changes_from l.most l.fn.fields
