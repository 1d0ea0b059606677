-- Rows: the lines of a text that have a token.
use Rattle.std.specs.Prelude.{ℕ, ◌+◌, ◌≡◌, ◌<◌, Bool, true, false, not, List, [], ◌∷◌, length, take, drop, All}
use Rattle.std.specs.List.{filter, slice_split}
use Rattle.st_lex.specs.declared.token.Token.{Token}
use Rattle.st_lex.specs.declared.token.TokenKind.{TokenKind}
use Rattle.st_lex.specs.declared.token.TokenKind.TheVariants.{Line}

-- whether a token of this kind ends a line
abbrev pub is_line : TokenKind → Bool
is_line Line = true
is_line _ = false

-- whether a token ends a line
abbrev pub ends_line : Token → Bool
ends_line token = is_line token.kind

-- whether a token doesn't end a line
abbrev pub is_in_line : Token → Bool
is_in_line token = not (ends_line token)

-- the lists of tokens between the tokens that end a line
abbrev pub lines : List Token → List (List Token)
lines tokens = slice_split ends_line tokens

-- whether a line has a token
abbrev pub has_token : List Token → Bool
has_token [] = false
has_token (token ∷ tokens) = true

-- the lines that have a token
abbrev pub rows : List Token → List (List Token)
rows tokens = filter has_token (lines tokens)

-- `row` is the first row of the tokens, and `following` are the tokens after its line
pub record IsNextRow (tokens row following : List Token) : Type 0 where
  pub first : rows tokens ≡ row ∷ rows following
  pub has_token : has_token row ≡ true
  pub one_line : All (λ token. ends_line token ≡ false) row
  pub parts : (blank : ℕ) × (row ≡ take (length row) (drop blank tokens)) × (following ≡ drop (blank + length row + 1) tokens)
  pub shorter : length following < length tokens
