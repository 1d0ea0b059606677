-- Texts that are printed piece by piece are read as their pieces.
use Rattle.std.proofs.Common.{◌≡◌, ℕ, ◌+◌, true, List, [], ◌∷◌, ◌++◌, length, None, refl, ap, sym, ◌∙◌, append_assoc}
use Rattle.std.proofs.lemmas.List.{length-append}
use Rattle.std.proofs.lemmas.Grind.{flat_map-append}
use Rattle.st_lex.specs.declared.token.Token.{Token}
use Rattle.st_lex.specs.declared.token.TokenKind.{TokenKind}
use Rattle.st_lex.specs.declared.token.TokenKind.TheVariants.{Word, Quoted, Colon, Comma, Open, Close, OpenBracket, CloseBracket, Equal, NotEqual, Less, Greater, Line}
use Rattle.st_lex.specs.declared.token.Lexed.{Lexed}
use Rattle.st_lex.specs.Quote.{quoted}
use Rattle.st_lex.specs.Tokens.{line_after, with_token, tokens_from, lexed_text}
use Rattle.st_lex.specs.Pieces.{Piece, PlainWord, QuotedText, Sign, Space, is_sign, sign_bytes, piece_bytes, print, BeginsWithoutWord, CanBeReadBack, SpelledToken, spelled_tokens, piece_tokens, IsReadAs}
use Rattle.st_lex.proofs.Fronts.{EndsWord, text_of_part, word_first, quoted_first, sign_first, space_first}

-- the token of some bytes at an offset and a line
abbrev pub token_at : TokenKind → List ℕ → ℕ → ℕ → Token
token_at kind bytes at line = record { kind = kind; at = at; len = length bytes; line = line }

-- the tokens of pieces that are printed from an offset and a line
abbrev pub tokens_at : ℕ → ℕ → List Piece → List Token
tokens_at at line [] = []
tokens_at at line (PlainWord bytes ∷ pieces) = token_at Word bytes at line ∷ tokens_at (at + length bytes) line pieces
tokens_at at line (QuotedText bytes ∷ pieces) = token_at Quoted (quoted bytes) at line ∷ tokens_at (at + length (quoted bytes)) line pieces
tokens_at at line (Sign kind ∷ pieces) = token_at kind (sign_bytes kind) at line ∷ tokens_at (at + length (sign_bytes kind)) (line_after kind line) pieces
tokens_at at line (Space ∷ pieces) = tokens_at (at + 1) line pieces

-- a sign doesn't begin with a word byte
sign_ends : (kind : TokenKind) (rest : List ℕ) → is_sign kind ≡ true → EndsWord (sign_bytes kind ++ rest)
sign_ends Word rest is = absurd (cc)
sign_ends Quoted rest is = absurd (cc)
sign_ends Colon rest is = refl
sign_ends Comma rest is = refl
sign_ends Open rest is = refl
sign_ends Close rest is = refl
sign_ends OpenBracket rest is = refl
sign_ends CloseBracket rest is = refl
sign_ends Equal rest is = refl
sign_ends NotEqual rest is = refl
sign_ends Less rest is = refl
sign_ends Greater rest is = refl
sign_ends Line rest is = refl

-- no word continues into the text of such pieces
ends_word : (pieces : List Piece) → BeginsWithoutWord pieces → CanBeReadBack pieces → EndsWord (print pieces)
ends_word [] apart well = tt
ends_word (PlainWord bytes ∷ pieces) apart well = absurd apart
ends_word (QuotedText bytes ∷ pieces) apart well = refl
ends_word (Sign kind ∷ pieces) apart well = sign_ends kind (print pieces) well.0
ends_word (Space ∷ pieces) apart well = refl

-- the tokens of a text of pieces, with their offsets and lines
pub tokens_from-print : (pieces : List Piece) (at line : ℕ) → CanBeReadBack pieces → tokens_from 0 at line (print pieces) ≡ record { tokens = tokens_at at line pieces; fault = None }
tokens_from-print [] at line well = refl
tokens_from-print (PlainWord bytes ∷ pieces) at line well =
    word_first bytes (print pieces) at line well.0 (ends_word pieces well.1 well.2) ∙ ap (with_token (token_at Word bytes at line)) (tokens_from-print pieces (at + length bytes) line well.2)
tokens_from-print (QuotedText bytes ∷ pieces) at line well =
    quoted_first bytes (print pieces) at line well.0 ∙ ap (with_token (token_at Quoted (quoted bytes) at line)) (tokens_from-print pieces (at + length (quoted bytes)) line well.1)
tokens_from-print (Sign kind ∷ pieces) at line well =
    sign_first kind (print pieces) at line well.0 ∙ ap (with_token (token_at kind (sign_bytes kind) at line)) (tokens_from-print pieces (at + length (sign_bytes kind)) (line_after kind line) well.1)
tokens_from-print (Space ∷ pieces) at line well = space_first (print pieces) at line ∙ tokens_from-print pieces (at + 1) line well

-- pieces after a prefix and a part are read in the same way, however prefix and part are joined
spelled_after : (front part : List ℕ) (pieces : List Piece) (line : ℕ) → spelled_tokens ((front ++ part) ++ print pieces) (tokens_at (length (front ++ part)) line pieces) ≡ piece_tokens pieces → spelled_tokens (front ++ (part ++ print pieces)) (tokens_at (length front + length part) line pieces) ≡ piece_tokens pieces
spelled_after front part pieces line e =
    ap (λ (text : List ℕ). spelled_tokens text (tokens_at (length front + length part) line pieces)) (sym (append_assoc front part (print pieces)))
    ∙ ap (λ (n : ℕ). spelled_tokens ((front ++ part) ++ print pieces) (tokens_at n line pieces)) (sym (length-append front part))
    ∙ e

spelled_part : (front part : List ℕ) (kind : TokenKind) (pieces : List Piece) (line next : ℕ) → spelled_tokens ((front ++ part) ++ print pieces) (tokens_at (length (front ++ part)) next pieces) ≡ piece_tokens pieces → spelled_tokens (front ++ (part ++ print pieces)) (token_at kind part (length front) line ∷ tokens_at (length front + length part) next pieces) ≡ record { kind = kind; text = part } ∷ piece_tokens pieces
spelled_part front part kind pieces line next e =
    let text : List ℕ = front ++ (part ++ print pieces) in
    let T : List ℕ → List SpelledToken = λ bytes. record { kind = kind; text = bytes } ∷ spelled_tokens text (tokens_at (length front + length part) next pieces) in
    ap T (text_of_part front part (print pieces) (token_at kind part (length front) line) refl refl)
    ∙ ap (λ (more : List SpelledToken). record { kind = kind; text = part } ∷ more) (spelled_after front part pieces next e)

pub spelled-tokens_at : (front : List ℕ) (pieces : List Piece) (line : ℕ) → spelled_tokens (front ++ print pieces) (tokens_at (length front) line pieces) ≡ piece_tokens pieces
spelled-tokens_at front [] line = refl
spelled-tokens_at front (PlainWord bytes ∷ pieces) line = spelled_part front bytes Word pieces line line (spelled-tokens_at (front ++ bytes) pieces line)
spelled-tokens_at front (QuotedText bytes ∷ pieces) line = spelled_part front (quoted bytes) Quoted pieces line line (spelled-tokens_at (front ++ quoted bytes) pieces line)
spelled-tokens_at front (Sign kind ∷ pieces) line = spelled_part front (sign_bytes kind) kind pieces line (line_after kind line) (spelled-tokens_at (front ++ sign_bytes kind) pieces (line_after kind line))
spelled-tokens_at front (Space ∷ pieces) line = spelled_after front (32 ∷ []) pieces line (spelled-tokens_at (front ++ 32 ∷ []) pieces line)

-- the text of pieces for which `CanBeReadBack` holds is read as these pieces
pub print_is_read : (pieces : List Piece) → CanBeReadBack pieces → IsReadAs (print pieces) (piece_tokens pieces)
print_is_read pieces well =
    let e : lexed_text (print pieces) ≡ record { tokens = tokens_at 0 1 pieces; fault = None } = tokens_from-print pieces 0 1 well in
    record {
      faultless = ap (λ (lexed : Lexed). lexed.fault) e;
      in_order = ap (λ (lexed : Lexed). spelled_tokens (print pieces) lexed.tokens) e ∙ spelled-tokens_at [] pieces 1;
    }

-- the text of two lists of pieces, one after the other, is the text of both
pub print-append : (ps qs : List Piece) → print (ps ++ qs) ≡ print ps ++ print qs
print-append ps qs = flat_map-append piece_bytes ps qs

pub piece_tokens-append : (ps qs : List Piece) → piece_tokens (ps ++ qs) ≡ piece_tokens ps ++ piece_tokens qs
piece_tokens-append [] qs = refl
piece_tokens-append (PlainWord bytes ∷ ps) qs = ap (λ (more : List SpelledToken). record { kind = Word; text = bytes } ∷ more) (piece_tokens-append ps qs)
piece_tokens-append (QuotedText bytes ∷ ps) qs = ap (λ (more : List SpelledToken). record { kind = Quoted; text = quoted bytes } ∷ more) (piece_tokens-append ps qs)
piece_tokens-append (Sign kind ∷ ps) qs = ap (λ (more : List SpelledToken). record { kind = kind; text = sign_bytes kind } ∷ more) (piece_tokens-append ps qs)
piece_tokens-append (Space ∷ ps) qs = piece_tokens-append ps qs

StandApart-append : (ps qs : List Piece) → BeginsWithoutWord ps → BeginsWithoutWord qs → BeginsWithoutWord (ps ++ qs)
StandApart-append [] qs p q = q
StandApart-append (PlainWord bytes ∷ ps) qs p q = absurd p
StandApart-append (QuotedText bytes ∷ ps) qs p q = tt
StandApart-append (Sign kind ∷ ps) qs p q = tt
StandApart-append (Space ∷ ps) qs p q = tt

-- `CanBeReadBack` holds of two lists of pieces together if it holds of each and the second doesn't begin with a Word
pub StandWell-append : (ps qs : List Piece) → CanBeReadBack ps → CanBeReadBack qs → BeginsWithoutWord qs → CanBeReadBack (ps ++ qs)
StandWell-append [] qs p q apart = q
StandWell-append (PlainWord bytes ∷ ps) qs p q apart = (p.0, StandApart-append ps qs p.1 apart, StandWell-append ps qs p.2 q apart)
StandWell-append (QuotedText bytes ∷ ps) qs p q apart = (p.0, StandWell-append ps qs p.1 q apart)
StandWell-append (Sign kind ∷ ps) qs p q apart = (p.0, StandWell-append ps qs p.1 q apart)
StandWell-append (Space ∷ ps) qs p q apart = StandWell-append ps qs p q apart

between : (ps qs : List Piece) (last : Piece) → BeginsWithoutWord (ps ++ last ∷ []) → BeginsWithoutWord ((ps ++ last ∷ []) ++ qs)
between [] qs (PlainWord bytes) p = absurd p
between [] qs (QuotedText bytes) p = tt
between [] qs (Sign kind) p = tt
between [] qs Space p = tt
between (PlainWord bytes ∷ ps) qs last p = absurd p
between (QuotedText bytes ∷ ps) qs last p = tt
between (Sign kind ∷ ps) qs last p = tt
between (Space ∷ ps) qs last p = tt

-- after a quoted text, a sign or a space, as at a line's end, any second list for which `CanBeReadBack` holds can follow
pub StandWell-after : (ps qs : List Piece) (last : Piece) → CanBeReadBack (ps ++ last ∷ []) → BeginsWithoutWord (last ∷ []) → CanBeReadBack qs → CanBeReadBack ((ps ++ last ∷ []) ++ qs)
StandWell-after [] qs (PlainWord bytes) p apart q = absurd apart
StandWell-after [] qs (QuotedText bytes) p apart q = (p.0, q)
StandWell-after [] qs (Sign kind) p apart q = (p.0, q)
StandWell-after [] qs Space p apart q = q
StandWell-after (PlainWord bytes ∷ ps) qs last p apart q = (p.0, between ps qs last p.1, StandWell-after ps qs last p.2 apart q)
StandWell-after (QuotedText bytes ∷ ps) qs last p apart q = (p.0, StandWell-after ps qs last p.1 apart q)
StandWell-after (Sign kind ∷ ps) qs last p apart q = (p.0, StandWell-after ps qs last p.1 apart q)
StandWell-after (Space ∷ ps) qs last p apart q = StandWell-after ps qs last p apart q
