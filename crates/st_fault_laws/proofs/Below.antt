-- The tokens of a text below another one: its own tokens, moved by the other's bytes and lines.
use Rattle.std.proofs.Common.{zero, suc, ◌≡◌, ℕ, ◌+◌, ◌-◌, List, [], ◌∷◌, ◌++◌, length, take, drop, map, Some, refl, ap, sym, ◌∙◌, arith}
use Rattle.std.proofs.lemmas.List.{drop-drop}
use Rattle.st_emulation.specs.Words.{word_of}
use Rattle.st_emulation.specs.declared.emulation.Emulation.{Emulation}
use Rattle.st_emulation.specs.declared.emulation.Emulation.TheVariants.{Native, Linux}
use Rattle.st_grammar.proofs.Common.{shifted_fault, Lexed, lexed_text, LexFault, optional_fault_after, symbol_by, symbol_of, Token, TokenKind}
use Rattle.st_lex.specs.declared.token.TokenKind.TheVariants.{Word, Colon, Comma, Line}
use Rattle.st_lex.specs.declared.token.Front.{Front}
use Rattle.st_lex.specs.declared.token.Front.TheVariants.{Gap, Piece, Broken}
use Rattle.st_lex.specs.Tokens.{front_of, line_after, with_token, tokens_from}
use Rattle.st_lex.proofs.Distances.{moved-moved}
use Rattle.st_lex.proofs.Fronts.{drop_front}
use Rattle.st_lex.proofs.Skips.{before, by_front, tokens_from-front}
use Rattle.st_fault_laws.specs.FilterFault.{header}

-- a token, moved by this many bytes and lines
abbrev pub moved_token : ℕ → ℕ → Token → Token
moved_token n lines t = record { kind = t.kind; at = n + t.at; len = t.len; line = lines + t.line }

abbrev pub moved_tokens : ℕ → ℕ → List Token → List Token
moved_tokens n lines ts = map (moved_token n lines) ts

abbrev pub moved_text : ℕ → ℕ → Lexed → Lexed
moved_text n lines lexed = record { tokens = moved_tokens n lines lexed.tokens; fault = optional_fault_after n lexed.fault }

line-moved : (kind : TokenKind) (lines line : ℕ) → line_after kind (lines + line) ≡ lines + line_after kind line
line-moved kind lines line = grind arith

by-moved : (n lines : ℕ) (bs : List ℕ) → ((skip at line to next : ℕ) → to ≡ n + at → next ≡ lines + line → tokens_from skip to next bs ≡ moved_text n lines (tokens_from skip at line bs)) → (at line to next : ℕ) → to ≡ n + at → next ≡ lines + line → (f : Front) → by_front to next bs f ≡ moved_text n lines (by_front at line bs f)
unfolding by_front
by-moved n lines bs ih at line to next e l (Gap k) = ih (k - 1) (at + 1) line (to + 1) next (omega (arith, e)) l
by-moved n lines bs ih at line to next e l (Piece kind k) =
    let T : ℕ → ℕ → Token = λ (a b : ℕ). record { kind = kind; at = a; len = k; line = b } in
    let rest : Lexed = tokens_from (k - 1) (at + 1) (line_after kind line) bs in
    let later : tokens_from (k - 1) (to + 1) (line_after kind next) bs ≡ moved_text n lines rest = ih (k - 1) (at + 1) (line_after kind line) (to + 1) (line_after kind next) (omega (arith, e)) (ap (line_after kind) l ∙ line-moved kind lines line) in
    ap (with_token (T to next)) later
    ∙ ap (λ (a : ℕ). with_token (T a next) (moved_text n lines rest)) e
    ∙ ap (λ (b : ℕ). with_token (T (n + at) b) (moved_text n lines rest)) l
by-moved n lines bs ih at line to next e l (Broken fault) =
    ap (λ (f : LexFault). record { tokens = []; fault = Some f }) (ap (λ (a : ℕ). shifted_fault a fault) e ∙ sym (moved-moved n at fault))

-- bytes that are read from an offset and a line moved so far
pub from-moved : (n lines : ℕ) (bs : List ℕ) (skip at line to next : ℕ) → to ≡ n + at → next ≡ lines + line → tokens_from skip to next bs ≡ moved_text n lines (tokens_from skip at line bs)
from-moved n lines [] skip at line to next e l = refl
from-moved n lines (b ∷ bs) (suc skip) at line to next e l = from-moved n lines bs skip (at + 1) line (to + 1) next (omega (arith, e)) l
from-moved n lines (b ∷ bs) zero at line to next e l =
    tokens_from-front to next b bs ∙ by-moved n lines bs (from-moved n lines bs) at line to next e l (front_of (b ∷ bs)) ∙ ap (moved_text n lines) (sym (tokens_from-front at line b bs))

-- a token of a text below another is the same symbol as in the text alone
pub symbol-moved : (above text : List ℕ) (lines : ℕ) (t : Token) → symbol_of (above ++ text) (moved_token (length above) lines t) ≡ symbol_of text t
symbol-moved above text lines t =
    ap (λ (bytes : List ℕ). symbol_by t.kind (take t.len bytes)) (sym (drop-drop t.at (length above) (above ++ text)) ∙ ap (drop t.at) (drop_front above text))

-- ---- below the header

abbrev pub header_tokens : Emulation → List Token
header_tokens emulation =
    record { kind = Word; at = 0; len = 6; line = 1 }
    ∷ record { kind = Colon; at = 6; len = 1; line = 1 }
    ∷ record { kind = Word; at = 8; len = 2; line = 1 }
    ∷ record { kind = Comma; at = 10; len = 1; line = 1 }
    ∷ record { kind = Word; at = 12; len = 9; line = 1 }
    ∷ record { kind = Colon; at = 21; len = 1; line = 1 }
    ∷ record { kind = Word; at = 23; len = length (word_of emulation); line = 1 }
    ∷ record { kind = Line; at = 23 + length (word_of emulation); len = 1; line = 1 }
    ∷ []

header-read : (emulation : Emulation) (text : List ℕ) → lexed_text (header emulation ++ text) ≡ before (header_tokens emulation) (tokens_from 0 (length (header emulation)) 2 text)
header-read Native text = refl
header-read Linux text = refl

-- the tokens of the text follow the header's tokens
pub below-header : (emulation : Emulation) (text : List ℕ) → lexed_text (header emulation ++ text) ≡ before (header_tokens emulation) (moved_text (length (header emulation)) 1 (lexed_text text))
below-header Native text = header-read Native text ∙ ap (before (header_tokens Native)) (from-moved (length (header Native)) 1 text 0 0 1 (length (header Native)) 2 refl refl)
below-header Linux text = header-read Linux text ∙ ap (before (header_tokens Linux)) (from-moved (length (header Linux)) 1 text 0 0 1 (length (header Linux)) 2 refl refl)
