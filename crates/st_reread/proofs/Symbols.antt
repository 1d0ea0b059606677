-- The symbols of pieces, and what the symbols of a text are.
use Rattle.std.proofs.Common.{◌≡◌, true, List, [], ◌∷◌, ◌++◌, map, ap, ◌∙◌}
use Rattle.std.proofs.lemmas.List.{map-append}
use Rattle.st_grammar.proofs.Common.{AreBytes, is_word_text, Piece, piece_tokens, Quoted, Symbol, symbol_by, unquoted, Word}
use Rattle.st_grammar.specs.declared.env.Env.{Env}
use Rattle.st_lex.specs.Pieces.{SpelledToken}
use Rattle.st_lex.proofs.Pieces.{piece_tokens-append}

abbrev pub spelled_symbol : SpelledToken → Symbol
spelled_symbol token = symbol_by token.kind token.text

-- the symbols that pieces are read as
abbrev pub piece_symbols : List Piece → List Symbol
piece_symbols pieces = map spelled_symbol (piece_tokens pieces)

pub piece_symbols-append : (ps qs : List Piece) → piece_symbols (ps ++ qs) ≡ piece_symbols ps ++ piece_symbols qs
piece_symbols-append ps qs = ap (map spelled_symbol) (piece_tokens-append ps qs) ∙ map-append spelled_symbol (piece_tokens ps) (piece_tokens qs)

-- a word can be printed as a Word, and the content of a quoted text can be quoted
abbrev pub IsPrintable : Env → Symbol → Type 0
IsPrintable env (Word w) = is_word_text w ≡ true
IsPrintable env (Quoted source) = AreBytes (unquoted env.dollars source)
IsPrintable env _ = Unit {0}

abbrev pub ArePrintable : Env → List Symbol → Type 0
ArePrintable env [] = Unit {0}
ArePrintable env (s ∷ ts) = IsPrintable env s × ArePrintable env ts

-- the symbols of both parts can be printed
pub ArePrintable-parts : (env : Env) (ts us : List Symbol) → ArePrintable env (ts ++ us) → ArePrintable env ts × ArePrintable env us
ArePrintable-parts env [] us p = (tt, p)
ArePrintable-parts env (t ∷ ts) us p =
    let rest : ArePrintable env ts × ArePrintable env us = ArePrintable-parts env ts us p.1 in
    ((p.0, rest.0), rest.1)

pub ArePrintable-append : (env : Env) (ts us : List Symbol) → ArePrintable env ts → ArePrintable env us → ArePrintable env (ts ++ us)
ArePrintable-append env [] us p q = q
ArePrintable-append env (t ∷ ts) us p q = (p.0, ArePrintable-append env ts us p.1 q)
