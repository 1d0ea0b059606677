use Rattle.std.proofs.lemmas.Result.{on_ok_weaker}
use Rattle.st_audit.proofs.Following.{followed}
use Rattle.st_audit.proofs.ledger.Ledger.note.Goals as goal

pub returns : goal.returns
returns c =
    on_ok_weaker c.note_answer.result (λ answers h is.
    followed c.args.input.now c.args.self.now (record {
      owners = c.note_processes.new.owners;
      rows = c.note_processes.new.rows;
      entered = c.note_entered.new.entered;
      answers = c.note_answer.new.answers;
    }) c.args.entry.now h (record {
      owners = c.in_ok-note_processes.ensures.owners;
      rows = c.in_ok-note_processes.ensures.rows;
      entered = c.in_ok-note_entered.ensures;
      answers = answers;
    }) is) c.note_answer.ensures
