use Rattle.std.proofs.Common.{◌≡◌, length}
use Rattle.st_lex.specs.Tokens.{lexed_text}
use Rattle.st_lex.proofs.Skips.{before}
use Rattle.st_lex.proofs.lexer.tokens.Given as goal

-- the tokens so far, followed by the tokens of the rest, are all tokens
abbrev pub invariant-loop-token : goal.invariant-loop-token
invariant-loop-token l = record {
  same : lexed_text l.text ≡ before l.tokens l.lexer;
}

abbrev pub decreases-loop-token : goal.decreases-loop-token
decreases-loop-token l = length l.lexer.tokens
