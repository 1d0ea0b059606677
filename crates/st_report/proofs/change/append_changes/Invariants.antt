use Rattle.std.proofs.Common.{◌≡◌, ◌++◌, take}
use Rattle.st_report.specs.ChangeText.{changes_fields}
use Rattle.st_report.proofs.change.append_changes.Given as goal

-- the changes so far are appended to the text
abbrev pub invariant-loop-change : goal.invariant-loop-change
invariant-loop-change l = l.text ≡ l.initial.text ++ changes_fields (take l.change-index l.changes)
