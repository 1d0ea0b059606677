use Rattle.std.proofs.Common.{rules}
use Rattle.st_trace_replay.proofs.Lines.{other_entry}
use Rattle.st_trace_replay.proofs.text.compare_entry.Goals as goal

pub returns-in-Ok-Some : goal.returns-in-Ok-Some
returns-in-Ok-Some c =
    other_entry c.args.reader.now c.next_entry.new.self c.in-Ok-Some.entry c.args.added.now c.lines.result (search rules) (λ same. search rules) c.lines.ensures
