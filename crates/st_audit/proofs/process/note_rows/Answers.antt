use Rattle.std.proofs.Common.{rules, sym}
use Rattle.st_audit.specs.Ledger.{row_in}
use Rattle.st_audit.proofs.Rows.{rows_left}
use Rattle.st_audit.proofs.process.note_rows.Goals as goal

pub returns-then-not-changes_some : goal.returns-then-not-changes_some
returns-then-not-changes_some c = λ p.
    sym (rows_left (row_in c.args.input.now c.args.rows.now c.args.pid) c.args.pid p (row_in c.args.input.now c.args.rows.now p) c.args.changes.now (search rules))
