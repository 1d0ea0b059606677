use Rattle.std.proofs.Common.{◌≡◌, ◌+◌, Some, subst, sym}
use Rattle.st_readtrace.specs.Lines.{IsLineOf, Unread, after_first_line, closed}
use Rattle.st_readtrace.proofs.Closings.{skipped}
use Rattle.st_readtrace.proofs.reader.TraceReader.skip_line.Goals as goal

pub returns : goal.returns
returns c =
    let after = c.after_line-self-inside.result.now in
    let line : IsLineOf (Some c.args.line.now) (closed c.self.inside.rest.now) = subst (λ (u : Unread). IsLineOf (Some c.args.line.now) u.text) (sym c.self.view_is) c.requires in
    subst (λ (u : Unread). record { text = closed after; lines = c.self.inside.lines + 1 } ≡ record { text = after_first_line u.text; lines = u.lines + 1 }) c.self.view_is
    (λ k. record { text = skipped c.self.inside.rest.now c.args.line.now after line c.after_line-self-inside.ensures k; lines = c.self.inside.lines + 1 })
