-- Quoted texts: where a quoted text ends, and the first fault inside it.
use Rattle.std.specs.Prelude.{ℕ, ◌+◌, Bool, false, ◌==◌, ◌&&◌, ◌||◌, not, if◌then◌else◌, List, [], ◌∷◌, Option, None, Some}
use Rattle.std.specs.Char.{is_ascii_hexdigit}
use Rattle.st_lex.specs.declared.token.LexFault.{LexFault}
use Rattle.st_lex.specs.declared.token.LexFault.TheVariants.{BadByte, OpenQuote, BadEscape}

-- the byte of a newline
abbrev pub newline : ℕ
newline = 10

-- the byte `"`
abbrev pub quote_mark : ℕ
quote_mark = 34

-- the byte `\`
abbrev pub backslash : ℕ
backslash = 92

-- a count, if there is one, increased by some bytes
abbrev pub count_after : ℕ → Option ℕ → Option ℕ
count_after k None = None
count_after k (Some n) = Some (k + n)

-- the number of bytes after the opening quote, up to and including the closing quote; none if a newline or the end comes first
abbrev pub closing_len : List ℕ → Option ℕ
closing_len [] = None
closing_len (b ∷ []) = if b == quote_mark then Some 1 else None
closing_len (b ∷ c ∷ cs) =
    if b == quote_mark then Some 1
    else (if b == newline then None
    else (if b == backslash then (if c == newline then None else count_after 2 (closing_len cs))
    else count_after 1 (closing_len (c ∷ cs))))

-- whether a byte neither closes a quoted text, nor begins an escape, nor is a fault in it
abbrev pub is_inner_byte : ℕ → Bool
is_inner_byte b = not ((b == 0) || (b == newline) || (b == quote_mark) || (b == backslash))

-- a fault with its offset increased by some bytes
abbrev pub shifted_fault : ℕ → LexFault → LexFault
shifted_fault k (BadByte at) = BadByte (k + at)
shifted_fault k (OpenQuote at) = OpenQuote (k + at)
shifted_fault k (BadEscape at) = BadEscape (k + at)

-- the offset of a fault
abbrev pub place_of : LexFault → ℕ
place_of (BadByte at) = at
place_of (OpenQuote at) = at
place_of (BadEscape at) = at

-- a fault, if there is one, with its offset increased by some bytes
abbrev pub optional_fault_after : ℕ → Option LexFault → Option LexFault
optional_fault_after k None = None
optional_fault_after k (Some fault) = Some (shifted_fault k fault)

-- whether the bytes after `\x` begin with two hexadecimal digits that spell a byte other than zero
abbrev pub is_byte_escape : List ℕ → Bool
is_byte_escape [] = false
is_byte_escape (h ∷ []) = false
is_byte_escape (h ∷ l ∷ rest) = (is_ascii_hexdigit h && is_ascii_hexdigit l) && not ((h == 48) && (l == 48))

-- the first fault of a closed quoted text, with its offset from the byte after the opening quote
abbrev pub inner_fault : List ℕ → Option LexFault
inner_fault [] = None
inner_fault (b ∷ []) = if b == 0 then Some (BadByte 0) else None
inner_fault (b ∷ c ∷ cs) =
    if b == quote_mark then None
    else (if b == 0 then Some (BadByte 0)
    else (if b == backslash then (if c == 0 then Some (BadByte 1)
    else (if (c == 120) && not (is_byte_escape cs) then Some (BadEscape 0)
    else optional_fault_after 2 (inner_fault cs)))
    else optional_fault_after 1 (inner_fault (c ∷ cs))))
