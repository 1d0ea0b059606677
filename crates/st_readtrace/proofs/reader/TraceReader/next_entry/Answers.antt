use Rattle.std.proofs.Common.{◌≢◌, ◌∙◌, [], length, ap, sym}
use Rattle.std.proofs.lemmas.Bool.{eqb-false}
use Rattle.st_readtrace.proofs.NextLine.{not_taken}
use Rattle.st_readtrace.proofs.reader.TraceReader.next_entry.Goals as goal

pub returns-in_err-entry : goal.returns-in_err-entry
returns-in_err-entry c =
    let full : length c.self.inside.rest.now ≢ 0 = eqb-false (length c.self.inside.rest.now) 0 (sym c.is_empty.ensures ∙ c.if-is_empty.false) in
    let some : c.self.inside.rest.now ≢ [] = λ e. full (ap length e) in
    not_taken c.in_err-entry.field-0.0 c.from_residual.result c.self.inside.rest.now c.self.inside.lines c.args.self.now c.from_residual.ensures.0 c.from_residual.ensures.1 some c.in_err-entry.ensures c.self.view_is
