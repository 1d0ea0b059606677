use Rattle.std.proofs.Common.{◌≡◌, ◌++◌, take}
use Rattle.st_audit.specs.LearntText.{rows_text}
use Rattle.st_audit.proofs.learnt.append_filters.Given as goal

-- the rows so far are appended to the text
abbrev pub invariant-loop-filter : goal.invariant-loop-filter
invariant-loop-filter l = l.out ≡ l.initial.out ++ rows_text (take l.filter-index l.filter-items) l.emulation
