-- Examples of texts and the tokens that the definitions give for them.
use Rattle.std.proofs.Common.{◌≡◌, ℕ, true, List, [], ◌∷◌, ◌++◌, None, Some, refl, arith, codes, map}
use Rattle.st_lex.specs.declared.token.Token.{Token}
use Rattle.st_lex.specs.declared.token.TokenKind.{TokenKind}
use Rattle.st_lex.specs.declared.token.TokenKind.TheVariants.{Word, Quoted, Colon, Comma, NotEqual, Line}
use Rattle.st_lex.specs.declared.token.LexFault.TheVariants.{BadByte, OpenQuote, BadEscape}
use Rattle.st_lex.specs.Tokens.{lexed_text}
use Rattle.st_lex.specs.Quote.{quoted}
use Rattle.st_lex.specs.declared.unquoted.Dollars.{Dollars}
use Rattle.st_lex.specs.Unquote.{unquoted, unquoted_plain}
use Rattle.st_lex.specs.Pieces.{PlainWord, QuotedText, Sign, Space, print, is_word_text, IsReadAs}
use Rattle.st_lex.proofs.Pieces.{print_is_read}

abbrev kinds : List ℕ → List TokenKind
kinds text = map (λ (t : Token). t.kind) (lexed_text text).tokens

header : kinds (codes "Policy:/b,Emulation:native") ≡ Word ∷ Colon ∷ Word ∷ Comma ∷ Word ∷ Colon ∷ Word ∷ []
header = refl

comment : lexed_text (codes "a # \"!$" ++ 0 ∷ 10 ∷ []) ≡ record { tokens = record { kind = Word; at = 0; len = 1; line = 1 } ∷ record { kind = Line; at = 8; len = 1; line = 1 } ∷ []; fault = None }
comment = refl

close_by : kinds (codes "eq\"/a\"then") ≡ Word ∷ Quoted ∷ Word ∷ []
close_by = refl

escape : (lexed_text (codes "a \"b\\x4\"")).fault ≡ Some (BadEscape 4)
escape = refl

zero_escape : (lexed_text (codes "\"\\x00\"")).fault ≡ Some (BadEscape 1)
zero_escape = refl

zero_inside : (lexed_text (34 ∷ 92 ∷ 0 ∷ 34 ∷ [])).fault ≡ Some (BadByte 2)
zero_inside = refl

open_quote : (lexed_text (codes "a \"b\\" ++ 10 ∷ 34 ∷ [])).fault ≡ Some (OpenQuote 2)
open_quote = refl

lone_mark : lexed_text (codes "!=!") ≡ record { tokens = record { kind = NotEqual; at = 0; len = 2; line = 1 } ∷ []; fault = Some (BadByte 2) }
lone_mark = refl

printed : quoted (codes "a$\"\\" ++ 7 ∷ []) ≡ codes "\"a\\x24\\\"\\\\\\x07\""
printed = refl

abbrev dollars : Dollars
dollars = record { home = codes "/h"; user = codes "\\x41"; cwd = codes "\"" }

unquoted_names : unquoted dollars (codes "\"$HOME/$USER$CWD$X\"") ≡ codes "/h/\\x41\"$X"
unquoted_names = refl

unquoted_escapes : unquoted dollars (codes "\"\\$HOME\\x24HOME\\x2Fb\\\"\\\\\\n\"") ≡ codes "\\/h$HOME/b\"\\\\n"
unquoted_escapes = refl

unquoted_broken : unquoted dollars (codes "\"\\x2$HOME\"") ≡ codes "\\x2/h"
unquoted_broken = refl

plain_dollar : unquoted_plain (codes "\"$HOME\\x7e\"") ≡ codes "$HOME~"
plain_dollar = refl

line_of_pieces : print (PlainWord (codes "a") ∷ Sign Colon ∷ Space ∷ QuotedText (codes "b$") ∷ Sign NotEqual ∷ PlainWord (codes "7") ∷ Sign Line ∷ []) ≡ codes "a: \"b\\x24\"!=7" ++ 10 ∷ []
line_of_pieces = refl

-- a line of pieces with any Word
line_read : (w : List ℕ) → is_word_text w ≡ true → IsReadAs (w ++ codes ": \"b\\x24\"!=7") (record { kind = Word; text = w } ∷ record { kind = Colon; text = codes ":" } ∷ record { kind = Quoted; text = codes "\"b\\x24\"" } ∷ record { kind = NotEqual; text = codes "!=" } ∷ record { kind = Word; text = codes "7" } ∷ [])
line_read w is = print_is_read (PlainWord w ∷ Sign Colon ∷ Space ∷ QuotedText (codes "b$") ∷ Sign NotEqual ∷ PlainWord (codes "7") ∷ []) (is, tt, (refl, ((omega arith, omega arith, (omega arith, omega arith, tt)), (refl, (refl, tt, tt)))))
