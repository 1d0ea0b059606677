use Rattle.std.proofs.Common.{◌≡◌, ℕ, take}
use Rattle.st_audit.specs.Ledger.{row_in}
use Rattle.st_audit.specs.Rows.{row_after}
use Rattle.st_audit.proofs.process.note_rows.Given as goal

-- the map has been updated by the changes so far
abbrev pub invariant-loop-change : goal.invariant-loop-change
invariant-loop-change l =
    (p : ℕ) → row_in l.input l.rows p ≡ row_after (row_in l.input l.initial.rows l.pid) l.pid p (row_in l.input l.initial.rows p) (take l.change-index l.changes)
