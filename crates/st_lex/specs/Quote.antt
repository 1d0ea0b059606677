-- The canonical quoted form of bytes.
use Rattle.std.specs.Prelude.{ℕ, ◌+◌, ◌-◌, ◌/◌, ◌%◌, ◌<◌, ◌==◌, ◌||◌, if◌then◌else◌, nat_lt, List, [], ◌∷◌, ◌++◌, length, None, codes}
use Rattle.std.specs.List.{flat_map}
use Rattle.st_lex.specs.declared.token.Lexed.{Lexed}
use Rattle.st_lex.specs.declared.token.TokenKind.TheVariants.{Quoted}
use Rattle.st_lex.specs.Quoted.{quote_mark, backslash}

-- the lower-case hexadecimal digit of a number below 16: '0' to '9', then 'a' to 'f'
abbrev pub hex_digit : ℕ → ℕ
hex_digit n = if nat_lt n 10 then 48 + n else 97 + (n - 10)

-- the escape of a byte: `\x` and two hexadecimal digits
abbrev pub escaped_byte : ℕ → List ℕ
escaped_byte b = codes "\\x" ++ (hex_digit (b / 16) ∷ hex_digit (b % 16) ∷ [])

-- a byte as it is spelled between quotes: a quote and a backslash get a backslash before them, `$` and bytes that aren't printable
-- are escaped
abbrev pub quoted_byte : ℕ → List ℕ
quoted_byte b =
    if (b == quote_mark) || (b == backslash) then backslash ∷ b ∷ []
    else (if (b == 36) || (nat_lt b 0x20 || nat_lt 0x7e b) then escaped_byte b
    else b ∷ [])

-- bytes as they are spelled between the quotes
abbrev pub quoted_bytes : List ℕ → List ℕ
quoted_bytes bytes = flat_map quoted_byte bytes

-- bytes in their canonical quoted form
abbrev pub quoted : List ℕ → List ℕ
quoted bytes = (quote_mark ∷ quoted_bytes bytes) ++ quote_mark ∷ []

-- bytes that a quoted text can hold
abbrev pub AreBytes : List ℕ → Type 0
AreBytes [] = Unit {0}
AreBytes (b ∷ bs) = (0 < b) × (b < 256) × AreBytes bs

-- the result of the lexer for a text that is a single quoted token
abbrev pub one_token : List ℕ → Lexed
one_token text = record { tokens = record { kind = Quoted; at = 0; len = length text; line = 1 } ∷ []; fault = None }
