use Rattle.std.proofs.Common.{◌≡◌, ◌≤◌, length, take}
use Rattle.st_statements.specs.Lines.{up_to_last_line}
use Rattle.st_statements.proofs.lines.up_to_last_line.Given as goal

-- no token after the first `end` ones ends a line
abbrev pub invariant-loop-end : goal.invariant-loop-end
invariant-loop-end l = record {
  within : l.end ≤ length l.tokens;
  rest : up_to_last_line (take l.end l.tokens) ≡ up_to_last_line l.tokens;
}

abbrev pub decreases-loop-end : goal.decreases-loop-end
decreases-loop-end l = l.end
