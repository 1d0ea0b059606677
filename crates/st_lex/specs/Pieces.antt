-- Texts that are printed piece by piece, and the tokens as which they are read.
use Rattle.std.specs.Prelude.{ℕ, ◌≡◌, Bool, true, false, List, [], ◌∷◌, map, None, codes}
use Rattle.std.specs.List.{flat_map, list_all}
use Rattle.st_lex.specs.declared.token.Token.{Token}
use Rattle.st_lex.specs.declared.token.TokenKind.{TokenKind}
use Rattle.st_lex.specs.declared.token.TokenKind.TheVariants.{Word, Quoted, Colon, Comma, Open, Close, OpenBracket, CloseBracket, Equal, NotEqual, Less, Greater, Line}
use Rattle.st_lex.specs.Quote.{quoted, AreBytes}
use Rattle.st_lex.specs.Quoted.{newline}
use Rattle.st_lex.specs.Text.{text_of_token}
use Rattle.st_lex.specs.Tokens.{is_word_byte, lexed_text}

-- a part of a text as it is printed
pub data Piece : Type 0 where
  PlainWord : List ℕ → Piece
  -- bytes that are printed in their quoted form
  QuotedText : List ℕ → Piece
  -- a sign; a newline is a sign too
  Sign : TokenKind → Piece
  Space : Piece

-- whether a token of this kind is a sign
abbrev pub is_sign : TokenKind → Bool
is_sign Word = false
is_sign Quoted = false
is_sign _ = true

-- the bytes of a sign; empty for a kind that isn't a sign
abbrev pub sign_bytes : TokenKind → List ℕ
sign_bytes Word = []
sign_bytes Quoted = []
sign_bytes Colon = codes ":"
sign_bytes Comma = codes ","
sign_bytes Open = codes "("
sign_bytes Close = codes ")"
sign_bytes OpenBracket = codes "["
sign_bytes CloseBracket = codes "]"
sign_bytes Equal = codes "="
sign_bytes NotEqual = codes "!="
sign_bytes Less = codes "<"
sign_bytes Greater = codes ">"
sign_bytes Line = newline ∷ []

-- the bytes as which a piece is printed
abbrev pub piece_bytes : Piece → List ℕ
piece_bytes (PlainWord bytes) = bytes
piece_bytes (QuotedText bytes) = quoted bytes
piece_bytes (Sign kind) = sign_bytes kind
piece_bytes Space = codes " "

-- the text as which pieces are printed
abbrev pub print : List Piece → List ℕ
print pieces = flat_map piece_bytes pieces

-- whether bytes can be printed as a Word
abbrev pub is_word_text : List ℕ → Bool
is_word_text [] = false
is_word_text (b ∷ bs) = list_all is_word_byte (b ∷ bs)

-- the first piece isn't a Word
abbrev pub BeginsWithoutWord : List Piece → Type 0
BeginsWithoutWord [] = Unit {0}
BeginsWithoutWord (PlainWord bytes ∷ pieces) = ⊥
BeginsWithoutWord (_ ∷ pieces) = Unit {0}

-- each piece can be read back, and no Word directly follows a Word
abbrev pub CanBeReadBack : List Piece → Type 0
CanBeReadBack [] = Unit {0}
CanBeReadBack (PlainWord bytes ∷ pieces) = (is_word_text bytes ≡ true) × BeginsWithoutWord pieces × CanBeReadBack pieces
CanBeReadBack (QuotedText bytes ∷ pieces) = AreBytes bytes × CanBeReadBack pieces
CanBeReadBack (Sign kind ∷ pieces) = (is_sign kind ≡ true) × CanBeReadBack pieces
CanBeReadBack (Space ∷ pieces) = CanBeReadBack pieces

-- a token's kind and its bytes
pub record SpelledToken : Type 0 where
  pub kind : TokenKind
  pub text : List ℕ

-- the kind and the bytes of a token of a text
abbrev pub spelled_token : List ℕ → Token → SpelledToken
spelled_token text token = record { kind = token.kind; text = text_of_token text token }

-- the kinds and the bytes of the tokens of a text, in order
abbrev pub spelled_tokens : List ℕ → List Token → List SpelledToken
spelled_tokens text tokens = map (spelled_token text) tokens

-- the tokens that the pieces represent: one for each piece that isn't a space
abbrev pub piece_tokens : List Piece → List SpelledToken
piece_tokens [] = []
piece_tokens (PlainWord bytes ∷ pieces) = record { kind = Word; text = bytes } ∷ piece_tokens pieces
piece_tokens (QuotedText bytes ∷ pieces) = record { kind = Quoted; text = quoted bytes } ∷ piece_tokens pieces
piece_tokens (Sign kind ∷ pieces) = record { kind = kind; text = sign_bytes kind } ∷ piece_tokens pieces
piece_tokens (Space ∷ pieces) = piece_tokens pieces

-- the text has no fault, and its tokens are of these kinds and bytes, in order
pub record IsReadAs (text : List ℕ) (tokens : List SpelledToken) : Type 0 where
  pub faultless : (lexed_text text).fault ≡ None
  pub in_order : spelled_tokens text (lexed_text text).tokens ≡ tokens
