use Rattle.std.proofs.Common.{ap, ◌∙◌}
use Rattle.std.proofs.lemmas.Result.{on_ok_weaker}
use Rattle.st_audit.specs.Ledger.{row_in}
use Rattle.st_audit.specs.Rows.{row_after}
use Rattle.st_audit.proofs.Following.{made_by, rows_noted}
use Rattle.st_audit.proofs.ledger.note_processes.Goals as goal

pub returns-in_ok-note_rows-in-Used-clause-rows : goal.returns-in_ok-note_rows-in-Used-clause-rows
returns-in_ok-note_rows-in-Used-clause-rows c =
    let by = made_by c.args.entry.now c.in-Used.tid c.in-Used.changes c.in-Used.is in
    on_ok_weaker c.note_owners.result (λ noted. rows_noted c.args.input.now c.args.owners.now c.args.rows.now c.note_rows.new.rows c.args.entry.now c.in-Used.tid c.owner_of-pid.result c.in-Used.changes
    by.0 by.1 c.owner_of-pid.ensures
    (λ p. c.in_ok-note_rows-in-Used.ensures p ∙ ap (row_after (row_in c.args.input.now c.args.rows.now c.owner_of-pid.result) c.owner_of-pid.result p (row_in c.args.input.now c.args.rows.now p)) c.as_slice.ensures))
    c.note_owners.ensures
