-- Texts that are cut after one of their tokens.
use Rattle.std.specs.Prelude.{ℕ, ◌+◌, List, [], ◌∷◌}
use Rattle.st_lex.specs.declared.token.Token.{Token}

-- the offset after the last of some tokens; this offset if there are none
abbrev pub end_of_tokens : ℕ → List Token → ℕ
end_of_tokens at [] = at
end_of_tokens at (token ∷ tokens) = end_of_tokens (token.at + token.len) tokens
