-- The symbols of a text.
use Rattle.std.proofs.Common.{◌≡◌, ◌<◌, true, List, [], ◌∷◌, map, ℕ, refl, ap, ◌∙◌}
use Rattle.std.specs.List.{AllByRecursion}
use Rattle.std.proofs.lemmas.List.Elements.{recursion_from_All}
use Rattle.st_grammar.proofs.Common.{AreBytes, is_word_text, lexed_text, Piece, print, spelled_tokens, CanBeReadBack, Symbol, symbol_by, symbol_of, symbols_in, Token, TokenKind, unquoted}
use Rattle.st_grammar.specs.declared.env.Env.{Env}
use Rattle.st_lex.specs.declared.token.TokenKind.TheVariants as kind
use Rattle.st_lex.specs.Text.{text_of_token, inside}
use Rattle.st_lex.proofs.Holdings.{holds_bytes}
use Rattle.st_lex.proofs.Wholes.{IsWholeToken, words_whole, HasInside, quotes_inside}
use Rattle.st_lex.proofs.Pieces.{print_is_read}
use Rattle.st_reread.specs.Readable.{AreTextBytes, HasPlainDollars}
use Rattle.st_reread.proofs.Symbols.{spelled_symbol, piece_symbols, IsPrintable, ArePrintable}

pub spelled-symbols : (text : List ℕ) (tokens : List Token) → map (symbol_of text) tokens ≡ map spelled_symbol (spelled_tokens text tokens)
spelled-symbols text [] = refl
spelled-symbols text (t ∷ ts) = ap (λ (us : List Symbol). symbol_of text t ∷ us) (spelled-symbols text ts)

-- pieces that are printed have the symbols that they are read as
pub symbols_in-print : (pieces : List Piece) → CanBeReadBack pieces → symbols_in (print pieces) ≡ piece_symbols pieces
symbols_in-print pieces well = spelled-symbols (print pieces) (lexed_text (print pieces)).tokens ∙ ap (map spelled_symbol) (print_is_read pieces well).in_order

-- ---- the symbols of a text can be printed

printable_by : (env : Env) (k : TokenKind) (bytes : List ℕ) → (k ≡ kind.Word → is_word_text bytes ≡ true) → (k ≡ kind.Quoted → AreBytes (unquoted env.dollars bytes)) → IsPrintable env (symbol_by k bytes)
printable_by env kind.Word bytes word quoted = word refl
printable_by env kind.Quoted bytes word quoted = quoted refl
printable_by env _ bytes word quoted = tt

printable_tokens : (env : Env) (text : List ℕ) (tokens : List Token) → HasPlainDollars env → AllByRecursion (IsWholeToken text) tokens → AllByRecursion (HasInside text) tokens → ArePrintable env (map (symbol_of text) tokens)
printable_tokens env text [] plain words quotes = tt
printable_tokens env text (t ∷ ts) plain words quotes = (
  printable_by env t.kind (text_of_token text t) words.0 (λ e. holds_bytes env.dollars (inside (text_of_token text t)) plain.home plain.user plain.cwd (quotes.0 e)),
  printable_tokens env text ts plain words.1 quotes.1,
)

pub printable_symbols : (env : Env) (text : List ℕ) → HasPlainDollars env → AreTextBytes text → ArePrintable env (symbols_in text)
printable_symbols env text plain bytes =
    printable_tokens env text (lexed_text text).tokens plain (words_whole text) (quotes_inside text (recursion_from_All (λ b. b < 256) text bytes))
