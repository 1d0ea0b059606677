use Rattle.std.proofs.Common.{◌≡◌, ◌∷◌, length}
use Rattle.st_grammar.specs.OneFilter.{filter_from, filter_of_tokens}
use Rattle.st_grammar.proofs.OneFilters.{InFilter}
use Rattle.st_policy.proofs.one_filter.rest_of_filter.Given as goal

-- the tokens that are left, read after those read so far, give the answer; and those read so far begin a filter
abbrev pub invariant-loop-token : goal.invariant-loop-token
invariant-loop-token l = record {
  rest : filter_of_tokens l.env l.text l.initial.lexer.fault (l.first ∷ l.initial.lexer.tokens) ≡ filter_from l.env l.text l.lexer.fault l.reader l.lexer.tokens;
  within : InFilter l.env l.reader;
}

abbrev pub decreases-loop-token : goal.decreases-loop-token
decreases-loop-token l = length l.lexer.tokens
