-- The bytes of tokens, and tests of their kinds.
use Rattle.std.specs.Prelude.{ℕ, ◌-◌, Bool, true, false, not, ◌&&◌, ◌==◌, if◌then◌else◌, List, take, drop, length, nat_le, Option, Some, None}
use Rattle.std.specs.List.{list_any}
use Rattle.std.specs.Str.{bytes_eq}
use Rattle.st_lex.specs.declared.token.Token.{Token}
use Rattle.st_lex.specs.declared.token.TokenKind.{TokenKind}
use Rattle.st_lex.specs.declared.token.TokenKind.TheVariants.{Word, Quoted, Colon, Comma}
use Rattle.st_lex.specs.Quoted.{backslash}

-- the bytes of a token in its text
abbrev pub text_of_token : List ℕ → Token → List ℕ
text_of_token text token = take token.len (drop token.at text)

-- whether a token of this kind is a Word
abbrev pub is_word : TokenKind → Bool
is_word Word = true
is_word _ = false

-- whether a token of this kind is a quoted text
abbrev pub is_quoted : TokenKind → Bool
is_quoted Quoted = true
is_quoted _ = false

-- whether a token of this kind is a colon
abbrev pub is_colon : TokenKind → Bool
is_colon Colon = true
is_colon _ = false

-- whether a token of this kind is a comma
abbrev pub is_comma : TokenKind → Bool
is_comma Comma = true
is_comma _ = false

-- whether a token is this Word
abbrev pub is_keyword : List ℕ → List ℕ → Token → Bool
is_keyword text word token = is_word token.kind && bytes_eq (text_of_token text token) word

-- the bytes between the quotes
abbrev pub inside : List ℕ → List ℕ
inside bytes = take (length bytes - 2) (drop 1 bytes)

-- whether a quoted text has both its quotes and no backslash
abbrev pub is_plain : List ℕ → Bool
is_plain bytes = not (list_any (λ b. b == backslash) bytes) && nat_le 2 (length bytes)

-- the bytes between the quotes, if the token is a quoted text without a backslash
abbrev pub plain_quoted : List ℕ → Token → Option (List ℕ)
plain_quoted text token =
    if is_quoted token.kind && is_plain (text_of_token text token) then Some (inside (text_of_token text token)) else None
