-- The content of a quoted text: names are replaced by their texts, and escapes by their bytes.
use Rattle.std.specs.Prelude.{ℕ, zero, suc, ◌+◌, ◌-◌, ◌*◌, Bool, ◌==◌, ◌||◌, ◌&&◌, not, nat_eq, if◌then◌else◌, List, [], ◌∷◌, ◌++◌, length, Option, None, Some, codes}
use Rattle.std.specs.Char.{digit_value, is_digit}
use Rattle.std.specs.List.{starts_with}
use Rattle.st_lex.specs.declared.unquoted.Dollars.{Dollars}
use Rattle.st_lex.specs.Quoted.{quote_mark, backslash}
use Rattle.st_lex.specs.Text.{inside}

-- a name, and the text that replaces it
pub record Named : Type 0 where
  pub name : List ℕ
  pub text : List ℕ

-- `$HOME`, `$USER` and `$CWD`, each with the text that replaces it
abbrev pub dollar_names : Dollars → List Named
dollar_names dollars =
    record { name = codes "$HOME"; text = dollars.home }
    ∷ record { name = codes "$USER"; text = dollars.user }
    ∷ record { name = codes "$CWD"; text = dollars.cwd }
    ∷ []

-- the text that the front of some bytes spells, and the number of bytes that spell it
pub record Spelling : Type 0 where
  pub text : List ℕ
  pub len : ℕ

-- the byte that two hexadecimal digits of either case spell
abbrev pub byte_of_hex : ℕ → ℕ → Option ℕ
byte_of_hex high low = if is_digit high 16 && is_digit low 16 then Some (digit_value high * 16 + digit_value low) else None

-- the byte of an escape of four bytes, or a backslash if it begins no escape
abbrev pub escape_or_backslash : Option ℕ → Spelling
escape_or_backslash None = record { text = backslash ∷ []; len = 1 }
escape_or_backslash (Some b) = record { text = b ∷ []; len = 4 }

-- a backslash and `x`, by the bytes after them
abbrev pub byte_escape : List ℕ → Spelling
byte_escape [] = escape_or_backslash None
byte_escape (high ∷ []) = escape_or_backslash None
byte_escape (high ∷ low ∷ rest) = escape_or_backslash (byte_of_hex high low)

-- a backslash, by the bytes after it: `\"` is a quote, `\\` a backslash
abbrev pub escape : List ℕ → Spelling
escape [] = escape_or_backslash None
escape (b ∷ bs) =
    if (b == quote_mark) || (b == backslash) then record { text = b ∷ []; len = 2 }
    else (if b == 120 then byte_escape bs
    else escape_or_backslash None)

-- what the front of bytes spells if names aren't replaced: an escape, or a byte that spells itself
abbrev pub plain_front : List ℕ → Spelling
plain_front [] = record { text = []; len = 0 }
plain_front (b ∷ bs) = if b == backslash then escape bs else record { text = b ∷ []; len = 1 }

-- what the front of bytes spells: the text of the first name that is there, otherwise an escape or a byte
abbrev pub named_front : List Named → List ℕ → Spelling
named_front [] bytes = plain_front bytes
named_front (named ∷ others) bytes =
    if starts_with nat_eq bytes named.name then record { text = named.text; len = length named.name }
    else named_front others bytes

-- the text that bytes spell, after the first `skip` bytes that still belong to the previous front
abbrev pub unquoted_from : List Named → ℕ → List ℕ → List ℕ
unquoted_from names skip [] = []
unquoted_from names (suc skip) (b ∷ bs) = unquoted_from names skip bs
unquoted_from names zero (b ∷ bs) =
    (named_front names (b ∷ bs)).text ++ unquoted_from names ((named_front names (b ∷ bs)).len - 1) bs

-- whether a byte can begin neither an escape nor a name
abbrev pub is_plain_byte : ℕ → Bool
is_plain_byte b = not ((b == backslash) || (b == 36))

-- the content of a quoted text, with the three names replaced
abbrev pub unquoted : Dollars → List ℕ → List ℕ
unquoted dollars source = unquoted_from (dollar_names dollars) 0 (inside source)

-- the content of a quoted text in which names aren't replaced
abbrev pub unquoted_plain : List ℕ → List ℕ
unquoted_plain source = unquoted_from [] 0 (inside source)

-- the three names with their texts, if texts are given
abbrev pub names_in : Option Dollars → List Named
names_in None = []
names_in (Some dollars) = dollar_names dollars
