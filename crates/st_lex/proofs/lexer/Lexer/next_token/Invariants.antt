use Rattle.std.proofs.Common.{◌≡◌, ◌+◌, ◌-◌, ◌<◌, ◌≤◌, ◌^◌, length, drop}
use Rattle.st_lex.specs.Tokens.{tokens_from}
use Rattle.st_lex.proofs.lexer.Lexer.next_token.Given as goal

-- the tokens from here on are the tokens that remain, since only gaps were passed
abbrev pub invariant-loop-at : goal.invariant-loop-at
invariant-loop-at l = record {
  same : l.fn.self ≡ tokens_from 0 l.at l.self-inside.line (drop l.at l.self-inside.text.now);
  stays : l.fn.self ≡ tokens_from 0 l.self-inside.at l.self-inside.line (drop l.self-inside.at l.self-inside.text.now);
  place : l.at ≤ length l.self-inside.text.now;
  following : l.self-inside.at ≤ l.at;
  line : l.self-inside.line ≤ l.self-inside.at + 1;
  small : length l.self-inside.text.now < 2 ^ 32;
}

abbrev pub decreases-loop-at : goal.decreases-loop-at
decreases-loop-at l = length l.self-inside.text.now - l.at
