-- Tokens as slices of their text.
use Rattle.std.specs.Prelude.{ℕ, ◌+◌, ◌≡◌, ◌<◌, ◌≤◌, false, ◌==◌, List, [], ◌∷◌, length, take, drop, slice_index, count_by, All}
use Rattle.std.specs.List.{prefix_len}
use Rattle.st_lex.specs.declared.token.Token.{Token}
use Rattle.st_lex.specs.declared.token.TokenKind.TheVariants.{Word, Quoted}
use Rattle.st_lex.specs.Quoted.{newline, quote_mark}
use Rattle.st_lex.specs.Tokens.{is_word_byte}

-- the number of newlines among bytes
abbrev pub newlines : List ℕ → ℕ
newlines bytes = count_by (λ b. b == newline) bytes

-- the byte before an offset, or zero at offset zero
abbrev pub byte_before : List ℕ → ℕ → ℕ
byte_before text at = slice_index (0 ∷ text) at

-- the token is the longest run of word bytes from its offset, and no word byte is directly before it
pub record IsWholeWord (text : List ℕ) (token : Token) : Type 0 where
  pub longest : prefix_len is_word_byte (drop token.at text) ≡ token.len
  pub starts : is_word_byte (byte_before text token.at) ≡ false

-- the token begins with a quote and ends with another quote
pub record IsBetweenQuotes (text : List ℕ) (token : Token) : Type 0 where
  pub two : 2 ≤ token.len
  pub first : slice_index text token.at ≡ quote_mark
  pub last : byte_before text (token.at + token.len) ≡ quote_mark

-- the token is a non-empty slice of the text, its line is the line of its first byte, and it has the form of its kind
pub record IsTokenOf (text : List ℕ) (token : Token) : Type 0 where
  pub some : 0 < token.len
  pub within : token.at + token.len ≤ length text
  pub on_line : token.line ≡ newlines (take token.at text) + 1
  pub whole_word : token.kind ≡ Word → IsWholeWord text token
  pub between_quotes : token.kind ≡ Quoted → IsBetweenQuotes text token

-- each token begins at or after the end of the previous token
abbrev pub AreTokensInOrder : ℕ → List Token → Type 0
AreTokensInOrder end [] = Unit {0}
AreTokensInOrder end (token ∷ tokens) = (end ≤ token.at) × AreTokensInOrder (token.at + token.len) tokens

-- the tokens are slices of the text, in its order
pub record AreSlices (text : List ℕ) (tokens : List Token) : Type 0 where
  pub each : All (IsTokenOf text) tokens
  pub in_order : AreTokensInOrder 0 tokens
