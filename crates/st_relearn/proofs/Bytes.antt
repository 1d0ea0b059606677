-- The text that is written consists of bytes, so policies that can be written are policies that were read.
use Rattle.std.proofs.Common.{◌==◌, ◌↔◌, ◌<◌, ◌+◌, ◌-◌, ◌/◌, ◌%◌, ◌||◌, ℕ, Bool, true, false, cond, nat_lt, List, [], ◌∷◌, arith}
use Rattle.std.proofs.lemmas.List.Elements.{All-from_recursion}
use Rattle.st_filter.specs.declared.set.BinaryPolicy.{BinaryPolicy}
use Rattle.st_lex.specs.Pieces.{Piece, PlainWord, QuotedText, Sign, Space, CanBeReadBack, print, sign_bytes}
use Rattle.st_lex.specs.Quote.{AreBytes, escaped_byte, hex_digit, quoted, quoted_byte, quoted_bytes}
use Rattle.st_lex.specs.Quoted.{backslash, quote_mark}
use Rattle.st_lex.specs.declared.token.TokenKind.{TokenKind}
use Rattle.st_lex.specs.declared.token.TokenKind.TheVariants as kind
use Rattle.st_printing.specs.Canon.{canon, set_pieces}
use Rattle.st_reread.specs.Readable.{AreTextBytes, After, HasPlainDollars, HasSmallIds, Nothing, WasRead}
use Rattle.st_grammar.specs.declared.env.Env.{Env}
use Rattle.st_relearn.specs.Writable.{AreWritable}
use Rattle.st_base.proofs.Each.{each-append}
use Rattle.st_relearn.proofs.Texts.{AreSmall}
use Rattle.st_relearn.proofs.Writing.{read_is_writable, well_written, word_text, written_is_read}

abbrev IsByte : ℕ → Type 0
IsByte b = b < 256

text_small : (bs : List ℕ) → AreBytes bs → AreSmall bs
text_small [] plain = tt
text_small (b ∷ bs) plain = (plain.1, text_small bs plain.2)

hex_small : (n : ℕ) → n < 16 → IsByte (hex_digit n)
hex_small n low = by (nat_lt n 10) where
  by : (b : Bool) → IsByte (cond b (48 + n) (97 + (n - 10)))
  by true = omega (arith, low)
  by false = omega (arith, low)

byte_small : (b : ℕ) → IsByte b → AreSmall (quoted_byte b)
byte_small b small = by ((b == quote_mark) || (b == backslash)) ((b == 36) || (nat_lt b 0x20 || nat_lt 0x7e b)) where
  by : (m e : Bool) → AreSmall (cond m (backslash ∷ b ∷ []) (cond e (escaped_byte b) (b ∷ [])))
  by true e = (omega arith, (small, tt))
  by false true = (omega arith, (omega arith, (hex_small (b / 16) (omega (arith, small)), (hex_small (b % 16) (omega arith), tt))))
  by false false = (small, tt)

bytes_small : (bs : List ℕ) → AreBytes bs → AreSmall (quoted_bytes bs)
bytes_small [] plain = tt
bytes_small (b ∷ bs) plain = each-append IsByte (quoted_byte b) (quoted_bytes bs) (byte_small b plain.1) (bytes_small bs plain.2)

quoted_small : (bs : List ℕ) → AreBytes bs → AreSmall (quoted bs)
quoted_small bs plain = (omega arith, each-append IsByte (quoted_bytes bs) (quote_mark ∷ []) (bytes_small bs plain) (omega arith, tt))

sign_small : (k : TokenKind) → AreSmall (sign_bytes k)
sign_small kind.Word = tt
sign_small kind.Quoted = tt
sign_small kind.NotEqual = (omega arith, (omega arith, tt))
sign_small _ = (omega arith, tt)

pieces_small : (ps : List Piece) → CanBeReadBack ps → AreSmall (print ps)
pieces_small [] well = tt
pieces_small (PlainWord word ∷ ps) well = each-append IsByte word (print ps) (text_small word (word_text word well.0)) (pieces_small ps well.2)
pieces_small (QuotedText text ∷ ps) well = each-append IsByte (quoted text) (print ps) (quoted_small text well.0) (pieces_small ps well.1)
pieces_small (Sign k ∷ ps) well = each-append IsByte (sign_bytes k) (print ps) (sign_small k) (pieces_small ps well.1)
pieces_small (Space ∷ ps) well = (omega arith, pieces_small ps well)

-- policies that can be written were read, namely from the text that is written
writable_is_read : (env : Env) (set : List BinaryPolicy) → AreWritable env set → WasRead env set
writable_is_read env set w =
    let bytes : AreTextBytes (canon set env.emulation) = All-from_recursion IsByte (canon set env.emulation) (pieces_small (set_pieces set env.emulation) (well_written env set w)) in
    After (canon set env.emulation) [] set bytes Nothing (written_is_read env set w)

pub exactly_read : (env : Env) (set : List BinaryPolicy) → HasPlainDollars env → HasSmallIds env → WasRead env set ↔ AreWritable env set
exactly_read env set plain small = ((λ was. read_is_writable env set was plain small), writable_is_read env set)
