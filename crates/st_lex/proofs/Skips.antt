-- The tokens of a text, front by front.
use Rattle.std.proofs.Common.{zero, suc, ◌≡◌, ℕ, ◌+◌, ◌-◌, ◌<◌, ◌≤◌, List, [], ◌∷◌, ◌++◌, length, take, drop, get_or, Some, refl, ap, sym, ◌∙◌, arith}
use Rattle.std.proofs.lemmas.List.{drop_more, drop-drop, take_rest, length-drop}
use Rattle.st_lex.specs.declared.token.Token.{Token}
use Rattle.st_lex.specs.declared.token.TokenKind.{TokenKind}
use Rattle.st_lex.specs.declared.token.LexFault.{LexFault}
use Rattle.st_lex.specs.declared.token.Lexed.{Lexed}
use Rattle.st_lex.specs.declared.token.Front.{Front}
use Rattle.st_lex.specs.declared.token.Front.TheVariants.{Gap, Piece, Broken}
use Rattle.st_lex.specs.Quoted.{shifted_fault}
use Rattle.st_lex.specs.Tokens.{front_of, line_after, with_token, tokens_from}

-- skipped bytes only increase the offset
pub tokens_from-skip : (k at line : ℕ) (bytes : List ℕ) → k ≤ length bytes → tokens_from k at line bytes ≡ tokens_from 0 (at + k) line (drop k bytes)
tokens_from-skip zero at line bytes h = let e : at ≡ at + 0 = omega arith in ap (λ (a : ℕ). tokens_from 0 a line bytes) e
tokens_from-skip (suc k) at line [] h = absurd (omega arith)
tokens_from-skip (suc k) at line (b ∷ bs) h =
    let e : at + 1 + k ≡ at + suc k = omega arith in
    tokens_from-skip k (at + 1) line bs (omega arith) ∙ ap (λ (a : ℕ). tokens_from 0 a line (drop k bs)) e

-- the tokens of a text by what is at its front
unfoldable pub by_front : ℕ → ℕ → List ℕ → Front → Lexed
by_front at line bs (Gap k) = tokens_from (k - 1) (at + 1) line bs
by_front at line bs (Piece kind k) = with_token (record { kind = kind; at = at; len = k; line = line }) (tokens_from (k - 1) (at + 1) (line_after kind line) bs)
by_front at line bs (Broken fault) = record { tokens = []; fault = Some (shifted_fault at fault) }

pub tokens_from-front : (at line b : ℕ) (bs : List ℕ) → tokens_from 0 at line (b ∷ bs) ≡ by_front at line bs (front_of (b ∷ bs))
unfolding by_front
tokens_from-front at line b bs = refl

skip_front : (k at line b : ℕ) (bs : List ℕ) → 0 < k → k ≤ length bs + 1 → tokens_from (k - 1) (at + 1) line bs ≡ tokens_from 0 (at + k) line (drop k (b ∷ bs))
skip_front zero at line b bs p h = absurd (omega arith)
skip_front (suc k) at line b bs p h =
    let d : suc k - 1 ≡ k = omega arith in
    let e : at + 1 + k ≡ at + suc k = omega arith in
    ap (λ (n : ℕ). tokens_from n (at + 1) line bs) d ∙ tokens_from-skip k (at + 1) line bs (omega arith) ∙ ap (λ (a : ℕ). tokens_from 0 a line (drop k bs)) e

pub tokens_from-gap : (k at line b : ℕ) (bs : List ℕ) → Gap k ≡ front_of (b ∷ bs) → 0 < k → k ≤ length bs + 1 → tokens_from 0 at line (b ∷ bs) ≡ tokens_from 0 (at + k) line (drop k (b ∷ bs))
unfolding by_front
tokens_from-gap k at line b bs e p h = tokens_from-front at line b bs ∙ ap (by_front at line bs) (sym e) ∙ skip_front k at line b bs p h

pub tokens_from-piece : (kind : TokenKind) (k at line b : ℕ) (bs : List ℕ) → Piece kind k ≡ front_of (b ∷ bs) → 0 < k → k ≤ length bs + 1 → tokens_from 0 at line (b ∷ bs) ≡ with_token (record { kind = kind; at = at; len = k; line = line }) (tokens_from 0 (at + k) (line_after kind line) (drop k (b ∷ bs)))
unfolding by_front
tokens_from-piece kind k at line b bs e p h =
    tokens_from-front at line b bs ∙ ap (by_front at line bs) (sym e) ∙ ap (with_token (record { kind = kind; at = at; len = k; line = line })) (skip_front k at (line_after kind line) b bs p h)

pub tokens_from-broken : (fault : LexFault) (at line b : ℕ) (bs : List ℕ) → Broken fault ≡ front_of (b ∷ bs) → tokens_from 0 at line (b ∷ bs) ≡ record { tokens = []; fault = Some (shifted_fault at fault) }
unfolding by_front
tokens_from-broken fault at line b bs e = tokens_from-front at line b bs ∙ ap (by_front at line bs) (sym e)

-- the tokens with further tokens before them
abbrev pub before : List Token → Lexed → Lexed
before ts lexed = record { tokens = ts ++ lexed.tokens; fault = lexed.fault }

-- the text after the byte at an offset, in the form in which slices give it
abbrev pub text_after : List ℕ → ℕ → List ℕ
text_after text at = take (length text - (at + 1)) (drop (at + 1) text)

parted : (text : List ℕ) (at : ℕ) → at < length text → drop at text ≡ get_or text at 0 ∷ text_after text at
parted text at h = drop_more text at 0 h ∙ ap (λ (xs : List ℕ). get_or text at 0 ∷ xs) (sym (take_rest text (at + 1)))

pub length-following : (text : List ℕ) (at : ℕ) → at < length text → at + (length (text_after text at) + 1) ≡ length text
length-following text at h =
    let e : length (text_after text at) ≡ length text - (at + 1) = ap length (take_rest text (at + 1)) ∙ length-drop (at + 1) text in
    omega arith

dropped : (k at : ℕ) (text : List ℕ) → at < length text → drop k (get_or text at 0 ∷ text_after text at) ≡ drop (at + k) text
dropped k at text h = ap (drop k) (sym (parted text at h)) ∙ drop-drop k at text

pub gap_at : (k at line : ℕ) (text : List ℕ) → at < length text → Gap k ≡ front_of (get_or text at 0 ∷ text_after text at) → 0 < k → k ≤ length (text_after text at) + 1 → tokens_from 0 at line (drop at text) ≡ tokens_from 0 (at + k) line (drop (at + k) text)
gap_at k at line text h e p q =
    ap (tokens_from 0 at line) (parted text at h) ∙ tokens_from-gap k at line (get_or text at 0) (text_after text at) e p q ∙ ap (tokens_from 0 (at + k) line) (dropped k at text h)

pub piece_at : (kind : TokenKind) (k at line : ℕ) (text : List ℕ) → at < length text → Piece kind k ≡ front_of (get_or text at 0 ∷ text_after text at) → 0 < k → k ≤ length (text_after text at) + 1 → tokens_from 0 at line (drop at text) ≡ with_token (record { kind = kind; at = at; len = k; line = line }) (tokens_from 0 (at + k) (line_after kind line) (drop (at + k) text))
piece_at kind k at line text h e p q =
    let t : Token = record { kind = kind; at = at; len = k; line = line } in
    ap (tokens_from 0 at line) (parted text at h) ∙ tokens_from-piece kind k at line (get_or text at 0) (text_after text at) e p q ∙ ap (λ (xs : List ℕ). with_token t (tokens_from 0 (at + k) (line_after kind line) xs)) (dropped k at text h)
