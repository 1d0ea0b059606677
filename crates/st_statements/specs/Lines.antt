-- The lines of a text that are read: all of them, or those above its first lexical fault.
use Rattle.std.specs.Prelude.{ℕ, ◌+◌, ◌-◌, ◌^◌, min, if◌then◌else◌, List, [], ◌∷◌, take, Option, Some, None}
use Rattle.std.specs.List.{list_any}
use Rattle.st_lex.specs.declared.token.LexFault.{LexFault}
use Rattle.st_lex.specs.declared.token.Lexed.{Lexed}
use Rattle.st_lex.specs.declared.token.Token.{Token}
use Rattle.st_lex.specs.Quoted.{place_of}
use Rattle.st_lex.specs.Rows.{ends_line}
use Rattle.st_lex.specs.Slices.{newlines}

-- a number in 32 bits: a larger one becomes the largest of 32 bits
abbrev pub saturated : ℕ → ℕ
saturated n = min n (2 ^ 32 - 1)

-- the tokens up to the last that ends a line
abbrev pub up_to_last_line : List Token → List Token
up_to_last_line [] = []
up_to_last_line (token ∷ tokens) = if list_any ends_line (token ∷ tokens) then token ∷ up_to_last_line tokens else []

-- the tokens of whole lines: all of them, but not those of a line with a lexical fault
abbrev pub whole_lines : List Token → Option LexFault → List Token
whole_lines tokens None = tokens
whole_lines tokens (Some fault) = up_to_last_line tokens

-- the tokens that are read
abbrev pub tokens_before_fault_line : Lexed → List Token
tokens_before_fault_line lexed = whole_lines lexed.tokens lexed.fault

-- the line of an offset of a text, counted from 1
abbrev pub line_at : List ℕ → ℕ → ℕ
line_at text place = saturated (newlines (take place text) + 1)

-- the line of a lexical fault, if there is one
abbrev pub line_of_fault : List ℕ → Option LexFault → Option ℕ
line_of_fault text None = None
line_of_fault text (Some fault) = Some (line_at text (place_of fault))

-- the line of a row
abbrev pub line_of_row : List Token → ℕ
line_of_row [] = 0
line_of_row (token ∷ tokens) = token.line
