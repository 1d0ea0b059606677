-- The first token of a text, and how the text is read after it.
use Rattle.std.proofs.Common.{◌≡◌, ℕ, ◌+◌, true, false, List, [], ◌∷◌, ◌++◌, length, take, drop, Option, None, Some, refl, ap, sym, ◌∙◌, arith, nat_eq, append_assoc}
use Rattle.std.proofs.lemmas.Bool.{false_from_ne_true, and_parts}
use Rattle.std.specs.List.{prefix_len, list_all}
use Rattle.std.proofs.lemmas.List.{length-append}
use Rattle.st_lex.specs.declared.token.Token.{Token}
use Rattle.st_lex.specs.declared.token.TokenKind.{TokenKind}
use Rattle.st_lex.specs.declared.token.TokenKind.TheVariants.{Word, Quoted, Colon, Comma, Open, Close, OpenBracket, CloseBracket, Equal, NotEqual, Less, Greater, Line}
use Rattle.st_lex.specs.declared.token.Front.TheVariants.{Piece as TokenOf}
use Rattle.st_lex.specs.Quote.{quoted, quoted_bytes, AreBytes}
use Rattle.st_lex.specs.Quoted.{closing_len, count_after, inner_fault, optional_fault_after}
use Rattle.st_lex.specs.Text.{text_of_token}
use Rattle.st_lex.specs.Tokens.{is_blank, is_word_byte, front_of, quoted_front, line_after, with_token, tokens_from}
use Rattle.st_lex.specs.Pieces.{is_sign, sign_bytes, is_word_text}
use Rattle.st_lex.proofs.Prints.{Passes, passes_bytes}
use Rattle.st_lex.proofs.Runs.{blank_no_word, is_at}
use Rattle.st_lex.proofs.Scans.{closing_len-quote, inner_fault-quote}
use Rattle.st_lex.proofs.Skips.{tokens_from-piece}

-- the prefix of a list, and the rest after it
pub take_front : (xs ys : List ℕ) → take (length xs) (xs ++ ys) ≡ xs
take_front [] ys = refl
take_front (x ∷ xs) ys = ap (λ (zs : List ℕ). x ∷ zs) (take_front xs ys)

pub drop_front : (xs ys : List ℕ) → drop (length xs) (xs ++ ys) ≡ ys
drop_front [] ys = refl
drop_front (x ∷ xs) ys = drop_front xs ys

-- the bytes of a token whose offset and length are those of a part
pub text_of_part : (front part rest : List ℕ) (token : Token) → token.at ≡ length front → token.len ≡ length part → text_of_token (front ++ (part ++ rest)) token ≡ part
text_of_part front part rest token at len =
    ap (λ (n : ℕ). take n (drop token.at (front ++ (part ++ rest)))) len
    ∙ ap (λ (n : ℕ). take (length part) (drop n (front ++ (part ++ rest)))) at
    ∙ ap (take (length part)) (drop_front front (part ++ rest))
    ∙ take_front part rest

-- no word continues into these bytes
abbrev pub EndsWord : List ℕ → Type 0
EndsWord [] = Unit {0}
EndsWord (b ∷ bs) = is_word_byte b ≡ false

word_no_blank : (b : ℕ) → is_word_byte b ≡ true → is_blank b ≡ false
word_no_blank b w = false_from_ne_true (is_blank b) (λ e. let n : is_word_byte b ≡ false = (blank_no_word b e).0 in absurd (cc))

word_no_hash : (b : ℕ) → is_word_byte b ≡ true → nat_eq b 35 ≡ false
word_no_hash b w = false_from_ne_true (nat_eq b 35) (λ e. let n : is_word_byte b ≡ false = ap is_word_byte (is_at b 35 e) in absurd (cc))

front_of-word : (b : ℕ) (bs : List ℕ) → is_word_byte b ≡ true → front_of (b ∷ bs) ≡ TokenOf Word (1 + prefix_len is_word_byte bs)
front_of-word b bs w =
    let blank : is_blank b ≡ false = word_no_blank b w in
    let hash : nat_eq b 35 ≡ false = word_no_hash b w in
    rw (blank, hash, w) refl

prefix_len-ends : (rest : List ℕ) → EndsWord rest → prefix_len is_word_byte rest ≡ 0
prefix_len-ends [] e = refl
prefix_len-ends (b ∷ bs) e = rw e refl

prefix_len-word : (w rest : List ℕ) → list_all is_word_byte w ≡ true → EndsWord rest → prefix_len is_word_byte (w ++ rest) ≡ length w
prefix_len-word [] rest a e = prefix_len-ends rest e
prefix_len-word (b ∷ bs) rest a e =
    let h : is_word_byte b ≡ true = (and_parts (is_word_byte b) (list_all is_word_byte bs) a).0 in
    let t : prefix_len is_word_byte (bs ++ rest) ≡ length bs = prefix_len-word bs rest ((and_parts (is_word_byte b) (list_all is_word_byte bs) a).1) e in
    rw h (omega (arith, t))

-- a piece at the front of the text is its first token
piece_first : (kind : TokenKind) (b : ℕ) (bs rest : List ℕ) (at line : ℕ) → TokenOf kind (length (b ∷ bs)) ≡ front_of (b ∷ (bs ++ rest)) → tokens_from 0 at line ((b ∷ bs) ++ rest) ≡ with_token (record { kind = kind; at = at; len = length (b ∷ bs); line = line }) (tokens_from 0 (at + length (b ∷ bs)) (line_after kind line) rest)
piece_first kind b bs rest at line e =
    let k : ℕ = length (b ∷ bs) in
    let T : Token = record { kind = kind; at = at; len = k; line = line } in
    tokens_from-piece kind k at line b (bs ++ rest) e (omega arith) (omega (arith, length-append bs rest))
    ∙ ap (λ (xs : List ℕ). with_token T (tokens_from 0 (at + k) (line_after kind line) xs)) (drop_front (b ∷ bs) rest)

-- a Word at the front, with no word byte after it, is the first token
pub word_first : (w rest : List ℕ) (at line : ℕ) → is_word_text w ≡ true → EndsWord rest → tokens_from 0 at line (w ++ rest) ≡ with_token (record { kind = Word; at = at; len = length w; line = line }) (tokens_from 0 (at + length w) line rest)
word_first [] rest at line is e = absurd (cc)
word_first (b ∷ bs) rest at line is e =
    let all : (is_word_byte b ≡ true) × (list_all is_word_byte bs ≡ true) = and_parts (is_word_byte b) (list_all is_word_byte bs) is in
    let n : 1 + prefix_len is_word_byte (bs ++ rest) ≡ length (b ∷ bs) = omega (arith, prefix_len-word bs rest all.1 e) in
    piece_first Word b bs rest at line (sym (front_of-word b (bs ++ rest) all.0 ∙ ap (λ (k : ℕ). TokenOf Word k) n))

-- a quoted form at the front is the first token
pub quoted_first : (bytes rest : List ℕ) (at line : ℕ) → AreBytes bytes → tokens_from 0 at line (quoted bytes ++ rest) ≡ with_token (record { kind = Quoted; at = at; len = length (quoted bytes); line = line }) (tokens_from 0 (at + length (quoted bytes)) line rest)
quoted_first bytes rest at line a =
    let q : List ℕ = quoted_bytes bytes in
    let p : Passes q = passes_bytes bytes a in
    let cut : (q ++ 34 ∷ []) ++ rest ≡ q ++ (34 ∷ rest) = append_assoc q (34 ∷ []) rest in
    let c : closing_len ((q ++ 34 ∷ []) ++ rest) ≡ Some (length q + 1) = ap closing_len cut ∙ p.closes (34 ∷ rest) ∙ ap (count_after (length q)) (closing_len-quote rest) in
    let f : inner_fault ((q ++ 34 ∷ []) ++ rest) ≡ None = ap inner_fault cut ∙ p.faults (34 ∷ rest) ∙ ap (optional_fault_after (length q)) (inner_fault-quote rest) in
    let n : 1 + (length q + 1) ≡ length (34 ∷ (q ++ 34 ∷ [])) = omega (arith, length-append q (34 ∷ [])) in
    piece_first Quoted 34 (q ++ 34 ∷ []) rest at line
    (sym (ap (λ (o : Option ℕ). quoted_front o (inner_fault ((q ++ 34 ∷ []) ++ rest))) c ∙ ap (quoted_front (Some (length q + 1))) f ∙ ap (λ (k : ℕ). TokenOf Quoted k) n))

-- a sign at the front is the first token; a newline increases the line
pub sign_first : (kind : TokenKind) (rest : List ℕ) (at line : ℕ) → is_sign kind ≡ true → tokens_from 0 at line (sign_bytes kind ++ rest) ≡ with_token (record { kind = kind; at = at; len = length (sign_bytes kind); line = line }) (tokens_from 0 (at + length (sign_bytes kind)) (line_after kind line) rest)
sign_first Word rest at line is = absurd (cc)
sign_first Quoted rest at line is = absurd (cc)
sign_first Colon rest at line is = piece_first Colon 58 [] rest at line refl
sign_first Comma rest at line is = piece_first Comma 44 [] rest at line refl
sign_first Open rest at line is = piece_first Open 40 [] rest at line refl
sign_first Close rest at line is = piece_first Close 41 [] rest at line refl
sign_first OpenBracket rest at line is = piece_first OpenBracket 91 [] rest at line refl
sign_first CloseBracket rest at line is = piece_first CloseBracket 93 [] rest at line refl
sign_first Equal rest at line is = piece_first Equal 61 [] rest at line refl
sign_first NotEqual rest at line is = piece_first NotEqual 33 (61 ∷ []) rest at line refl
sign_first Less rest at line is = piece_first Less 60 [] rest at line refl
sign_first Greater rest at line is = piece_first Greater 62 [] rest at line refl
sign_first Line rest at line is = piece_first Line 10 [] rest at line refl

-- a space at the front is no token
pub space_first : (rest : List ℕ) (at line : ℕ) → tokens_from 0 at line (32 ∷ rest) ≡ tokens_from 0 (at + 1) line rest
space_first rest at line = refl
