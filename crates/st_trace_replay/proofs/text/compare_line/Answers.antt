use Rattle.std.proofs.Common.{rules, ◌≡◌, ◌+◌, true, false, ◌∙◌, sym}
use Rattle.std.proofs.lemmas.Slice.Eq.{bytes_eq-Decides}
use Rattle.st_report.specs.TraceText.{entry_text}
use Rattle.st_trace_replay.proofs.Lines.{other_line, printed_line}
use Rattle.st_trace_replay.proofs.text.compare_line.Goals as goal

pub returns-then-is_same_text : goal.returns-then-is_same_text
returns-then-is_same_text c =
    let printed : c.bytes.result.now ≡ entry_text c.args.added.now = search rules in
    let same : c.bytes.result.now ≡ c.args.line.now = (bytes_eq-Decides c.bytes.result.now c.args.line.now).0 (sym c.is_same_text.ensures ∙ c.if-is_same_text.true) in
    printed_line c.args.reader.now c.skip_line.new.self c.args.line.now c.bytes.result.now c.args.added.now c.requires.line c.requires.written printed same c.skip_line.ensures

pub returns-else-is_same_text : goal.returns-else-is_same_text
returns-else-is_same_text c =
    let printed : c.bytes.result.now ≡ entry_text c.args.added.now = search rules in
    other_line c.args.reader.now c.args.reader.now c.args.line.now c.bytes.result.now c.args.added.now (c.lines.result + 1) c.requires.line printed
    (λ same. let clash : true ≡ false = sym ((bytes_eq-Decides c.bytes.result.now c.args.line.now).1 same) ∙ sym c.is_same_text.ensures ∙ c.if-is_same_text.false in cc) (search rules)
