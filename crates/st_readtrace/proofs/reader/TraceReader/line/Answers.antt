use Rattle.std.proofs.Common.{◌≢◌, ◌∙◌, ℕ, length, take, Some, ap, subst, sym}
use Rattle.std.proofs.lemmas.Bool.{eqb-false}
use Rattle.st_readtrace.specs.Lines.{IsLineOf, Unread}
use Rattle.st_readtrace.proofs.Closings.{line_at}
use Rattle.st_readtrace.proofs.reader.TraceReader.line.Goals as goal

pub returns : goal.returns
returns c =
    let full : length c.self.inside.rest.now ≢ 0 = eqb-false (length c.self.inside.rest.now) 0 (sym c.is_empty.ensures ∙ c.if-is_empty.false) in
    subst (λ (u : Unread). IsLineOf (Some (take c.line_len.result c.self.inside.rest.now)) u.text) c.self.view_is
    (line_at c.self.inside.rest.now (take c.line_len.result c.self.inside.rest.now) (λ e. full (ap length e)) (ap (λ (n : ℕ). take n c.self.inside.rest.now) c.line_len.ensures.is))
