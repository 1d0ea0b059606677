use Rattle.std.proofs.Common.{◌≡◌, length}
use Rattle.st_grammar.specs.Reading.{as_reading, read_from}
use Rattle.st_grammar.proofs.Between.{IsReached}
use Rattle.st_policy.proofs.reader.read_all.Given as goal

-- the tokens that are left, read after those read so far, give the answer
abbrev pub invariant-loop-token : goal.invariant-loop-token
invariant-loop-token l = record {
  rest : read_from l.env l.text l.initial.lexer.fault (as_reading l.initial.reader l.initial.set) l.initial.lexer.tokens ≡ read_from l.env l.text l.lexer.fault (as_reading l.reader l.set) l.lexer.tokens;
  reached : IsReached l.env l.initial.set (as_reading l.reader l.set);
}

abbrev pub decreases-loop-token : goal.decreases-loop-token
decreases-loop-token l = length l.lexer.tokens
