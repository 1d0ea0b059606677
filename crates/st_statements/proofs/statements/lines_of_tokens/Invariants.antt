use Rattle.std.proofs.Common.{◌≡◌, ◌++◌, length}
use Rattle.st_lex.specs.Rows.{rows}
use Rattle.st_statements.specs.Statements.{script_lines_from}
use Rattle.st_statements.specs.declared.statement.OpenBody.TheVariants.{NoBody}
use Rattle.st_statements.proofs.statements.lines_of_tokens.Given as goal

-- the lines so far, followed by those of the rest, are the lines of all rows
abbrev pub invariant-loop-row : goal.invariant-loop-row
invariant-loop-row l = l.lines.items ++ script_lines_from l.text l.body (rows l.rest) ≡ script_lines_from l.text NoBody (rows l.tokens)

abbrev pub decreases-loop-row : goal.decreases-loop-row
decreases-loop-row l = length l.rest
