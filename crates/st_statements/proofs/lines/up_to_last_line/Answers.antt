use Rattle.std.proofs.Common.{sym, ◌∙◌, arith}
use Rattle.st_statements.proofs.LastLines.{with_last, without_last}
use Rattle.st_statements.proofs.lines.up_to_last_line.Goals as goal

pub returns-then-ends_line : goal.returns-then-ends_line
returns-then-ends_line c =
    sym (with_last c.args.tokens.now c.loop-end.end _ c.loop-end-test.true c.loop-end.invariant.within (sym c.ends_line.ensures ∙ c.if-ends_line.true)) ∙ c.loop-end.invariant.rest

pub loop-end-preserved : goal.loop-end-preserved
loop-end-preserved c = record {
  within = omega (arith, c.loop-end.invariant.within);
  rest = without_last c.args.tokens.now c.loop-end.end _ c.loop-end-test.true c.loop-end.invariant.within (sym c.ends_line.ensures ∙ c.if-ends_line.false) ∙ c.loop-end.invariant.rest;
}
