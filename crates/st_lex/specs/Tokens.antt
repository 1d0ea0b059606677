-- The tokens of a text.
use Rattle.std.specs.Prelude.{ℕ, zero, suc, ◌+◌, ◌-◌, ◌<◌, ◌≤◌, Bool, ◌==◌, ◌||◌, not, if◌then◌else◌, List, [], ◌∷◌, Option, None, Some, Result, Ok, Err, ◌≡◌, codes}
use Rattle.std.specs.List.{prefix_len, list_any}
use Rattle.std.specs.Char.{is_ascii_alphanumeric}
use Rattle.st_lex.specs.declared.token.Token.{Token}
use Rattle.st_lex.specs.declared.token.TokenKind.{TokenKind}
use Rattle.st_lex.specs.declared.token.TokenKind.TheVariants.{Word, Quoted, Colon, Comma, Open, Close, OpenBracket, CloseBracket, Equal, NotEqual, Less, Greater, Line}
use Rattle.st_lex.specs.declared.token.LexFault.{LexFault}
use Rattle.st_lex.specs.declared.token.LexFault.TheVariants.{BadByte, OpenQuote}
use Rattle.st_lex.specs.declared.token.Lexed.{Lexed}
use Rattle.st_lex.specs.declared.token.Front.{Front}
use Rattle.st_lex.specs.declared.token.Front.TheVariants.{Gap, Piece, Broken}
use Rattle.st_lex.specs.Quoted.{newline, quote_mark, closing_len, inner_fault, shifted_fault, place_of}

-- whether a byte is a space, a tab or a carriage return
abbrev pub is_blank : ℕ → Bool
is_blank b = (b == 32) || ((b == 9) || (b == 13))

-- whether a byte can be in a Word: a letter, a digit, or one of `_-./+~%`
abbrev pub is_word_byte : ℕ → Bool
is_word_byte b = is_ascii_alphanumeric b || list_any (λ c. b == c) (codes "_-./+~%")

-- whether a byte isn't a newline
abbrev pub is_no_newline : ℕ → Bool
is_no_newline b = not (b == newline)

-- the kind of the one-byte token that this byte is, if it is one
abbrev pub sign_of : ℕ → Option TokenKind
sign_of b =
    if b == newline then Some Line
    else (if b == 58 then Some Colon
    else (if b == 44 then Some Comma
    else (if b == 40 then Some Open
    else (if b == 41 then Some Close
    else (if b == 91 then Some OpenBracket
    else (if b == 93 then Some CloseBracket
    else (if b == 61 then Some Equal
    else (if b == 60 then Some Less
    else (if b == 62 then Some Greater
    else None)))))))))

-- the front of a byte that is a sign, or that begins no token
abbrev pub sign_front : Option TokenKind → Front
sign_front None = Broken (BadByte 0)
sign_front (Some kind) = Piece kind 1

-- the front that `!` and the bytes after it form: the sign `!=`, or no token
abbrev pub not_equal_front : List ℕ → Front
not_equal_front [] = Broken (BadByte 0)
not_equal_front (b ∷ bs) = if b == 61 then Piece NotEqual 2 else Broken (BadByte 0)

-- the front that begins with a quote, by the number of bytes up to the closing quote and the first fault inside
abbrev pub quoted_front : Option ℕ → Option LexFault → Front
quoted_front None inside = Broken (OpenQuote 0)
quoted_front (Some n) None = Piece Quoted (1 + n)
quoted_front (Some n) (Some fault) = Broken (shifted_fault 1 fault)

-- what is at the front of a text that isn't empty: a gap, a token or a fault
abbrev pub front_of : List ℕ → Front
front_of [] = Gap 0
front_of (b ∷ bs) =
    if is_blank b then Gap 1
    else (if b == 35 then Gap (1 + prefix_len is_no_newline bs)
    else (if is_word_byte b then Piece Word (1 + prefix_len is_word_byte bs)
    else (if b == quote_mark then quoted_front (closing_len bs) (inner_fault bs)
    else (if b == 33 then not_equal_front bs
    else sign_front (sign_of b)))))

-- a gap or a token has at least one byte and at most the `n` bytes of the text; a fault's offset is within the text
abbrev pub IsFrontWithin : ℕ → Front → Type 0
IsFrontWithin n (Gap k) = (0 < k) × (k ≤ n)
IsFrontWithin n (Piece kind k) = (0 < k) × (k ≤ n)
IsFrontWithin n (Broken fault) = place_of fault < n

-- the line of the bytes after a token of this kind on this line
abbrev pub line_after : TokenKind → ℕ → ℕ
line_after Line line = line + 1
line_after _ line = line

-- the tokens with one more token before them
abbrev pub with_token : Token → Lexed → Lexed
with_token token lexed = record { tokens = token ∷ lexed.tokens; fault = lexed.fault }

-- the tokens of the rest of a text, from this offset and line, after the first `skip` bytes that still belong to a token or a gap
abbrev pub tokens_from : ℕ → ℕ → ℕ → List ℕ → Lexed
tokens_from skip at line [] = record { tokens = []; fault = None }
tokens_from (suc skip) at line (b ∷ bs) = tokens_from skip (at + 1) line bs
tokens_from zero at line (b ∷ bs) =
    elim (front_of (b ∷ bs)) [
      | Gap k ↦ tokens_from (k - 1) (at + 1) line bs
      | Piece kind k ↦ with_token (record { kind = kind; at = at; len = k; line = line }) (tokens_from (k - 1) (at + 1) (line_after kind line) bs)
      | Broken fault ↦ record { tokens = []; fault = Some (shifted_fault at fault) }
    ]

-- the tokens of a text up to its first fault, and that fault
abbrev pub lexed_text : List ℕ → Lexed
lexed_text text = tokens_from 0 0 1 text

-- the result of reading the next token, by the tokens that remain before and after it
abbrev pub IsNextToken : Result (Option Token) LexFault → Lexed → Lexed → Type 0
IsNextToken (Ok (Some token)) old new = old ≡ with_token token new
IsNextToken (Ok None) old new = (old ≡ record { tokens = []; fault = None }) × (new ≡ old)
IsNextToken (Err fault) old new = (old ≡ record { tokens = []; fault = Some fault }) × (new ≡ old)
