-- The tokens of a text are slices of it, in its order, each with its line.
use Rattle.std.proofs.Common.{zero, suc, ◌≡◌, ℕ, ◌+◌, ◌-◌, ◌<◌, ◌≤◌, Bool, true, false, ◌&&◌, List, [], ◌∷◌, length, take, drop, get_or, refl, ap, sym, subst, ◌∙◌, arith}
use Rattle.std.specs.List.{prefix_len}
use Rattle.std.proofs.Math.Seq.{take-add}
use Rattle.std.proofs.lemmas.List.{drop-drop, get_or-drop, length-drop}
use Rattle.std.proofs.lemmas.List.Sums.{sum_by-append, prefix_len_passes}
use Rattle.st_lex.specs.declared.token.Token.{Token}
use Rattle.st_lex.specs.declared.token.TokenKind.{TokenKind}
use Rattle.st_lex.specs.declared.token.Lexed.{Lexed}
use Rattle.st_lex.specs.declared.token.Front.{Front}
use Rattle.st_lex.specs.declared.token.Front.TheVariants.{Gap, Piece, Broken}
use Rattle.st_lex.specs.Tokens.{front_of, is_word_byte, line_after, tokens_from, lexed_text, IsFrontWithin}
use Rattle.st_lex.specs.Slices.{newlines, byte_before, IsTokenOf, AreTokensInOrder, AreSlices}
use Rattle.st_lex.proofs.Runs.{Ends, IsPiece, Tells, front_tells}
use Rattle.st_lex.proofs.Skips.{by_front, tokens_from-front}
use Rattle.st_lex.proofs.Within.{front_of-within}

-- tokens of a text in order, each at or after this offset
abbrev Stands : List ℕ → ℕ → List Token → Type 0
Stands text end [] = Unit {0}
Stands text end (t ∷ ts) = (end ≤ t.at) × IsTokenOf text t × Stands text (t.at + t.len) ts

Stands-earlier : (text : List ℕ) (a b : ℕ) (ts : List Token) → a ≤ b → Stands text b ts → Stands text a ts
Stands-earlier text a b [] h s = tt
Stands-earlier text a b (t ∷ ts) h s = (omega (arith, s.0), s.1, s.2)

in_order : (text : List ℕ) (end : ℕ) (ts : List Token) → Stands text end ts → AreTokensInOrder end ts
in_order text end [] s = tt
in_order text end (t ∷ ts) s = (s.0, in_order text (t.at + t.len) ts s.2)

each : (text : List ℕ) (end : ℕ) (ts : List Token) → Stands text end ts → (k : ℕ) (d : Token) → k < length ts → IsTokenOf text (get_or ts k d)
each text end [] s k d h = absurd (omega arith)
each text end (t ∷ ts) s zero d h = s.1
each text end (t ∷ ts) s (suc k) d h = each text (t.at + t.len) ts s.2 k d (omega arith)

-- no word continues across this offset of the text
Bounds : List ℕ → ℕ → Type 0
Bounds text n = (is_word_byte (byte_before text n) && is_word_byte (get_or text n 0)) ≡ false

newlines-more : (text : List ℕ) (at k : ℕ) → newlines (take (at + k) text) ≡ newlines (take at text) + newlines (take k (drop at text))
newlines-more text at k = ap newlines (take-add at k text) ∙ sum_by-append _ (take at text) (take k (drop at text))

pub drop-next : (text : List ℕ) (at b : ℕ) (bs : List ℕ) → drop at text ≡ b ∷ bs → drop (at + 1) text ≡ bs
drop-next text at b bs e = sym (drop-drop 1 at text) ∙ ap (drop 1) e

get-at : (text : List ℕ) (at : ℕ) (bytes : List ℕ) (k : ℕ) → drop at text ≡ bytes → get_or bytes k 0 ≡ get_or text (at + k) 0
get-at text at bytes k e = ap (λ (xs : List ℕ). get_or xs k 0) (sym e) ∙ get_or-drop at text k 0

before-at : (text : List ℕ) (at : ℕ) (bytes : List ℕ) (k : ℕ) → drop at text ≡ bytes → 0 < k → get_or bytes (k - 1) 0 ≡ byte_before text (at + k)
before-at text at bytes k e h =
    let i : at + k ≡ suc (at + (k - 1)) = omega arith in
    get-at text at bytes (k - 1) e ∙ sym (ap (λ (n : ℕ). byte_before text n) i)

bounds_at : (text : List ℕ) (at : ℕ) (bytes : List ℕ) (k : ℕ) → drop at text ≡ bytes → 0 < k → Ends bytes k → Bounds text (at + k)
unfolding Bounds
bounds_at text at bytes k e h ends =
    ap (λ (x : ℕ). is_word_byte x && is_word_byte (get_or text (at + k) 0)) (sym (before-at text at bytes k e h))
    ∙ ap (λ (x : ℕ). is_word_byte (get_or bytes (k - 1) 0) && is_word_byte x) (sym (get-at text at bytes k e))
    ∙ ends

left_no : (x y : Bool) → (x && y) ≡ false → y ≡ true → x ≡ false
left_no false y e f = refl
left_no true y e f = absurd (cc)

line_after-more : (kind : TokenKind) (n : ℕ) → line_after kind (n + 1) ≡ n + line_after kind 0 + 1
line_after-more kind n = grind arith

length-at : (text : List ℕ) (at b : ℕ) (bs : List ℕ) → drop at text ≡ b ∷ bs → at + (length bs + 1) ≡ length text
length-at text at b bs e =
    let n : length text - at ≡ length (b ∷ bs) = sym (length-drop at text) ∙ ap length e in
    omega arith

-- a piece at the front of the rest of the text is a token of the text
piece_is : (text : List ℕ) (at line b : ℕ) (bs : List ℕ) (kind : TokenKind) (k : ℕ) → drop at text ≡ b ∷ bs → line ≡ newlines (take at text) + 1 → Bounds text at → 0 < k → k ≤ length bs + 1 → IsPiece (b ∷ bs) kind k → IsTokenOf text (record { kind = kind; at = at; len = k; line = line })
unfolding Bounds
piece_is text at line b bs kind k e l bound p q is =
    let n : at + (length bs + 1) ≡ length text = length-at text at b bs e in
    record {
      some = p;
      within = omega arith;
      on_line = l;
      whole_word = λ w.
          let run : prefix_len is_word_byte (drop at text) ≡ k = ap (prefix_len is_word_byte) e ∙ is.word w in
          let inside : 0 < prefix_len is_word_byte (drop at text) = omega arith in
          let zero_at : at + 0 ≡ at = omega arith in
          let first : is_word_byte (get_or text at 0) ≡ true = ap (λ (n : ℕ). is_word_byte (get_or text n 0)) (sym zero_at) ∙ ap is_word_byte (sym (get_or-drop at text 0 0)) ∙ prefix_len_passes is_word_byte (drop at text) 0 0 inside in
          record { longest = run; starts = left_no (is_word_byte (byte_before text at)) (is_word_byte (get_or text at 0)) bound first };
      between_quotes = λ w.
          let qs = is.quoted w in
          let zero_at : at + 0 ≡ at = omega arith in
          record {
            two = qs.0;
            first = ap (λ (n : ℕ). get_or text n 0) (sym zero_at) ∙ sym (get-at text at (b ∷ bs) 0 e) ∙ qs.1;
            last = sym (before-at text at (b ∷ bs) k e p) ∙ qs.2;
          };
    }

stands_front : (text : List ℕ) (at line b : ℕ) (bs : List ℕ) → ((skip at line : ℕ) → drop at text ≡ bs → skip ≤ length bs → line ≡ newlines (take (at + skip) text) + 1 → Bounds text (at + skip) → Stands text (at + skip) (tokens_from skip at line bs).tokens) → drop at text ≡ b ∷ bs → line ≡ newlines (take at text) + 1 → Bounds text at → (f : Front) → IsFrontWithin (length bs + 1) f → Tells (b ∷ bs) f → Stands text at (by_front at line bs f).tokens
unfolding by_front
stands_front text at line b bs ih e l bound (Gap k) w t =
    let p : 0 < k = w.0 in
    let q : k ≤ length bs + 1 = w.1 in
    let j : at + 1 + (k - 1) ≡ at + k = omega arith in
    let n : newlines (take (at + k) text) ≡ newlines (take at text) + newlines (take k (b ∷ bs)) = newlines-more text at k ∙ ap (λ (xs : List ℕ). newlines (take at text) + newlines (take k xs)) e in
    let m : newlines (take (at + 1 + (k - 1)) text) ≡ newlines (take (at + k) text) = ap (λ (x : ℕ). newlines (take x text)) j in
    Stands-earlier text at (at + 1 + (k - 1)) _ (omega arith)
    (ih (k - 1) (at + 1) line (drop-next text at b bs e) (omega arith) (omega (arith, n, m, l, t.lines)) (subst (Bounds text) (sym j) (bounds_at text at (b ∷ bs) k e p t.ends)))
stands_front text at line b bs ih e l bound (Piece kind k) w t =
    let p : 0 < k = w.0 in
    let q : k ≤ length bs + 1 = w.1 in
    let j : at + 1 + (k - 1) ≡ at + k = omega arith in
    let n : newlines (take (at + k) text) ≡ newlines (take at text) + newlines (take k (b ∷ bs)) = newlines-more text at k ∙ ap (λ (xs : List ℕ). newlines (take at text) + newlines (take k xs)) e in
    let m : newlines (take (at + 1 + (k - 1)) text) ≡ newlines (take (at + k) text) = ap (λ (x : ℕ). newlines (take x text)) j in
    let next : line_after kind line ≡ newlines (take at text) + line_after kind 0 + 1 = ap (line_after kind) l ∙ line_after-more kind (newlines (take at text)) in (
      omega arith,
      piece_is text at line b bs kind k e l bound p q t,
      subst (λ (x : ℕ). Stands text x (tokens_from (k - 1) (at + 1) (line_after kind line) bs).tokens) j
          (ih (k - 1) (at + 1) (line_after kind line) (drop-next text at b bs e) (omega arith) (omega (arith, n, m, next, t.lines)) (subst (Bounds text) (sym j) (bounds_at text at (b ∷ bs) k e p t.ends))),
    )
stands_front text at line b bs ih e l bound (Broken fault) w t = tt

stands : (text bytes : List ℕ) (skip at line : ℕ) → drop at text ≡ bytes → skip ≤ length bytes → line ≡ newlines (take (at + skip) text) + 1 → Bounds text (at + skip) → Stands text (at + skip) (tokens_from skip at line bytes).tokens
stands text [] skip at line e h l bound = tt
stands text (b ∷ bs) (suc skip) at line e h l bound =
    let j : at + 1 + skip ≡ at + suc skip = omega arith in
    subst (λ (x : ℕ). Stands text x (tokens_from skip (at + 1) line bs).tokens) j
    (stands text bs skip (at + 1) line (drop-next text at b bs e) (omega arith) (l ∙ ap (λ (x : ℕ). newlines (take x text) + 1) (sym j)) (subst (Bounds text) (sym j) bound))
stands text (b ∷ bs) zero at line e h l bound =
    let z : at + 0 ≡ at = omega arith in
    subst (λ (x : ℕ). Stands text x (tokens_from 0 at line (b ∷ bs)).tokens) (sym z)
    (subst (λ (x : Lexed). Stands text at x.tokens) (sym (tokens_from-front at line b bs))
    (stands_front text at line b bs (stands text bs) e (l ∙ ap (λ (x : ℕ). newlines (take x text) + 1) z) (subst (Bounds text) z bound) (front_of (b ∷ bs)) (front_of-within b bs) (front_tells b bs)))

pub lexed_text-slices : (text : List ℕ) → AreSlices text (lexed_text text).tokens
unfolding Bounds
lexed_text-slices text =
    let s : Stands text 0 (lexed_text text).tokens = stands text text 0 0 1 refl (omega arith) refl refl in
    record { each = each text 0 (lexed_text text).tokens s; in_order = in_order text 0 (lexed_text text).tokens s }
