use Rattle.std.proofs.Common.{rules, ◌≡◌, ◌+◌, Some, sym, ◌∙◌}
use Rattle.std.proofs.lemmas.Result.{IfOk-weaker}
use Rattle.st_readtrace.specs.Lines.{IsLineOf}
use Rattle.st_trace_replay.specs.Movers.{mover_of_line}
use Rattle.st_trace_replay.specs.Steps.{IsCompared, IsNextLine}
use Rattle.st_trace_replay.proofs.Lines.{compared, no_mover, not_enabled}
use Rattle.st_trace_replay.proofs.text.replay_line.Goals as goal

pub returns-in-Err-NotInGrammar : goal.returns-in-Err-NotInGrammar
returns-in-Err-NotInGrammar c =
    no_mover c.args.reader.now c.args.reader.now c.args.replay.now c.args.replay.now c.in-Some.line.now (c.lines.result + 1) (search rules) (search rules) (search rules)

pub returns-then-is_written : goal.returns-then-is_written
returns-then-is_written c =
    let line : IsLineOf (Some c.in-Some.line.now) c.args.reader.now.text = search rules in
    let told : mover_of_line c.in-Some.line.now ≡ Some c.in-Ok.mover = search rules in
    IfOk-weaker c.compare_line.result (λ next. IsCompared next c.args.reader.now c.compare_line.new.reader c.in-Some-added.entry)
    (λ next. IsNextLine next c.args.reader.now c.compare_line.new.reader c.args.replay.now c.advance.new.self)
    (λ next is. compared c.args.reader.now c.compare_line.new.reader c.args.replay.now c.advance.new.self c.in-Some.line.now c.in-Ok.mover line told c.advance.ensures.only next c.in-Some-added.entry (sym c.in_ok-advance.ensures.added ∙ c.in-Some-added.is)
    c.in_ok-advance.ensures.trace c.in_ok-advance.ensures.lawful is)
    c.compare_line.ensures

pub returns-else-is_written : goal.returns-else-is_written
returns-else-is_written c =
    let line : IsLineOf (Some c.in-Some.line.now) c.args.reader.now.text = search rules in
    let told : mover_of_line c.in-Some.line.now ≡ Some c.in-Ok.mover = search rules in
    IfOk-weaker c.compare_entry.result (λ next. IsCompared next c.args.reader.now c.compare_entry.new.reader c.in-Some-added.entry)
    (λ next. IsNextLine next c.args.reader.now c.compare_entry.new.reader c.args.replay.now c.advance.new.self)
    (λ next is. compared c.args.reader.now c.compare_entry.new.reader c.args.replay.now c.advance.new.self c.in-Some.line.now c.in-Ok.mover line told c.advance.ensures.only next c.in-Some-added.entry (sym c.in_ok-advance.ensures.added ∙ c.in-Some-added.is)
    c.in_ok-advance.ensures.trace c.in_ok-advance.ensures.lawful is)
    c.compare_entry.ensures

pub returns-in-None : goal.returns-in-None
returns-in-None c =
    not_enabled c.args.reader.now c.args.reader.now c.args.replay.now c.args.replay.now c.in-Some.line.now c.in-Ok.mover (search rules) (search rules) c.advance.ensures.only (c.lines-in-None.result + 1) (search rules) (search rules)
