-- Properties of the bytes at the front of a text: their newlines, and where words and quoted texts end.
use Rattle.std.proofs.Common.{suc, ◌≡◌, ℕ, ◌+◌, ◌-◌, ◌<◌, ◌≤◌, ◌≢◌, Bool, true, false, ◌&&◌, ◌||◌, List, [], ◌∷◌, length, take, get_or, Option, None, Some, refl, ap, sym, subst, ◌∙◌, arith, nat_eq, nat_lt, cond}
use Rattle.std.proofs.lemmas.Bool.{and_left, and_right, not-false}
use Rattle.std.specs.List.{prefix_len}
use Rattle.std.proofs.lemmas.List.Sums.{prefix_len_stops, sum_by-append}
use Rattle.std.proofs.lemmas.List.{get_or_past}
use Rattle.std.proofs.lemmas.Bool.Decides.{nat_tests}
use Rattle.st_lex.specs.declared.token.LexFault.{LexFault}
use Rattle.st_lex.specs.declared.token.LexFault.TheVariants.{BadByte}
use Rattle.st_lex.specs.declared.token.Front.{Front}
use Rattle.st_lex.specs.declared.token.Front.TheVariants.{Gap, Piece, Broken}
use Rattle.st_lex.specs.declared.token.TokenKind.{TokenKind}
use Rattle.st_lex.specs.declared.token.TokenKind.TheVariants.{Word, Quoted, Colon, Comma, Open, Close, OpenBracket, CloseBracket, Equal, NotEqual, Less, Greater, Line}
use Rattle.st_lex.specs.Quoted.{closing_len, count_after, inner_fault}
use Rattle.st_lex.specs.Slices.{newlines}
use Rattle.st_lex.proofs.Distances.{further-further}
use Rattle.st_lex.specs.Tokens.{front_of, is_blank, is_word_byte, is_no_newline, sign_of, sign_front, quoted_front, not_equal_front, line_after}

-- ---- properties of a front

-- no word continues across this offset
abbrev pub Ends : List ℕ → ℕ → Type 0
Ends bytes k = (is_word_byte (get_or bytes (k - 1) 0) && is_word_byte (get_or bytes k 0)) ≡ false

pub record IsGap (bytes : List ℕ) (k : ℕ) : Type 0 where
  pub lines : newlines (take k bytes) ≡ 0
  pub ends : Ends bytes k

pub record IsPiece (bytes : List ℕ) (kind : TokenKind) (k : ℕ) : Type 0 where
  pub lines : newlines (take k bytes) ≡ line_after kind 0
  pub ends : Ends bytes k
  pub word : kind ≡ Word → prefix_len is_word_byte bytes ≡ k
  pub quoted : kind ≡ Quoted → (2 ≤ k) × (get_or bytes 0 0 ≡ 34) × (get_or bytes (k - 1) 0 ≡ 34)

-- the property of the bytes at the front of a text, by its kind
abbrev pub Tells : List ℕ → Front → Type 0
Tells bytes (Gap k) = IsGap bytes k
Tells bytes (Piece kind k) = IsPiece bytes kind k
Tells bytes (Broken fault) = Unit {0}

-- ---- bytes, and runs of bytes

-- a property of a choice, from both cases of its test
pub tested : {A : Type 0} (P : A → Type 0) (b : Bool) (x y : A) → (b ≡ true → P x) → (b ≡ false → P y) → P (cond b x y)
tested P true x y f g = f refl
tested P false x y f g = g refl

either : (b : Bool) (P : Type 0) → (b ≡ true → P) → (b ≡ false → P) → P
either true P f g = f refl
either false P f g = g refl

newlines-one : (b : ℕ) → b ≢ 10 → newlines (b ∷ []) ≡ 0
newlines-one b n = grind (arith, nat_tests)

newlines-no : (b : ℕ) (bs : List ℕ) → b ≢ 10 → newlines (b ∷ bs) ≡ newlines bs
newlines-no b bs n =
    let e : newlines (b ∷ bs) ≡ newlines (b ∷ []) + newlines bs = sum_by-append _ (b ∷ []) bs in
    omega (arith, e, newlines-one b n)

pub prefix-yes : (p : ℕ → Bool) (b : ℕ) (bs : List ℕ) → p b ≡ true → prefix_len p (b ∷ bs) ≡ suc (prefix_len p bs)
prefix-yes p b bs e = rw e (omega arith)

pub prefix-no : (p : ℕ → Bool) (b : ℕ) (bs : List ℕ) → p b ≡ false → prefix_len p (b ∷ bs) ≡ 0
prefix-no p b bs e = rw e refl

newlines-run : (p : ℕ → Bool) → ((b : ℕ) → p b ≡ true → b ≢ 10) → (bs : List ℕ) → newlines (take (prefix_len p bs) bs) ≡ 0
newlines-run p h [] = refl
newlines-run p h (b ∷ bs) =
    let F : ℕ → ℕ = λ n. newlines (take n (b ∷ bs)) in
    either (p b) (F (prefix_len p (b ∷ bs)) ≡ 0)
    (λ e. ap F (prefix-yes p b bs e) ∙ newlines-no b (take (prefix_len p bs) bs) (h b e) ∙ newlines-run p h bs)
    (λ e. ap F (prefix-no p b bs e))

word_no_newline : (b : ℕ) → is_word_byte b ≡ true → b ≢ 10
word_no_newline b e n = let f : is_word_byte 10 ≡ true = subst (λ (x : ℕ). is_word_byte x ≡ true) n e in absurd (cc)

no_newline : (b : ℕ) → is_no_newline b ≡ true → b ≢ 10
no_newline b e n = let f : is_no_newline 10 ≡ true = subst (λ (x : ℕ). is_no_newline x ≡ true) n e in absurd (cc)

pub is_at : (b n : ℕ) → nat_eq b n ≡ true → b ≡ n
is_at b n e = grind (arith, nat_tests)

not_at : (b n : ℕ) → nat_eq b n ≡ false → b ≢ n
not_at b n e = grind (arith, nat_tests)

below : (a b : ℕ) → nat_lt a b ≡ true → a < b
below a b e = grind (arith, nat_tests)

not_below : (a b : ℕ) → nat_lt a b ≡ false → b ≤ a
not_below a b e = grind (arith, nat_tests)

-- a byte that equals a byte outside words is no word byte
no_word : (b n : ℕ) → b ≡ n → is_word_byte n ≡ false → is_word_byte b ≡ false
no_word b n e w = ap is_word_byte e ∙ w

from_or : (x y : Bool) (P : Type 0) → (x || y) ≡ true → (x ≡ true → P) → (y ≡ true → P) → P
from_or true y P e f g = f refl
from_or false y P e f g = g e

pub blank_no_word : (b : ℕ) → is_blank b ≡ true → (is_word_byte b ≡ false) × (b ≢ 10)
blank_no_word b e =
    let P : Type 0 = (is_word_byte b ≡ false) × (b ≢ 10) in
    from_or (nat_eq b 32) (nat_eq b 9 || nat_eq b 13) P e
    (λ x. let i : b ≡ 32 = is_at b 32 x in (no_word b 32 i refl, λ n. omega arith))
    (λ y. from_or (nat_eq b 9) (nat_eq b 13) P y
    (λ x. let i : b ≡ 9 = is_at b 9 x in (no_word b 9 i refl, λ n. omega arith))
    (λ x. let i : b ≡ 13 = is_at b 13 x in (no_word b 13 i refl, λ n. omega arith)))

-- after a run there is a byte that stops it, or nothing
stops : (p : ℕ → Bool) → ((b : ℕ) → p b ≡ false → is_word_byte b ≡ false) → (bs : List ℕ) → is_word_byte (get_or bs (prefix_len p bs) 0) ≡ false
stops p h bs =
    either (nat_lt (prefix_len p bs) (length bs)) (is_word_byte (get_or bs (prefix_len p bs) 0) ≡ false)
    (λ e. h (get_or bs (prefix_len p bs) 0) (prefix_len_stops p bs 0 (below (prefix_len p bs) (length bs) e)))
    (λ e. ap is_word_byte (get_or_past bs (prefix_len p bs) 0 (not_below (prefix_len p bs) (length bs) e)))

newline_no_word : (b : ℕ) → is_no_newline b ≡ false → is_word_byte b ≡ false
newline_no_word b e = no_word b 10 (is_at b 10 (not-false (nat_eq b 10) e)) refl

-- ---- gaps, words and signs

blank_tells : (b : ℕ) (bs : List ℕ) → is_blank b ≡ true → IsGap (b ∷ bs) 1
blank_tells b bs e = record {
  lines = newlines-no b [] ((blank_no_word b e).1);
  ends = and_left (is_word_byte b) (is_word_byte (get_or (b ∷ bs) 1 0)) ((blank_no_word b e).0);
}

comment_tells : (b : ℕ) (bs : List ℕ) → nat_eq b 35 ≡ true → IsGap (b ∷ bs) (1 + prefix_len is_no_newline bs)
comment_tells b bs e =
    let i : b ≡ 35 = is_at b 35 e in
    let n : b ≢ 10 = λ x. omega arith in
    let k : suc (prefix_len is_no_newline bs) ≡ 1 + prefix_len is_no_newline bs = omega arith in
    let whole : IsGap (b ∷ bs) (suc (prefix_len is_no_newline bs)) = record {
      lines = newlines-no b (take (prefix_len is_no_newline bs) bs) n ∙ newlines-run is_no_newline no_newline bs;
      ends = and_right _ (is_word_byte (get_or bs (prefix_len is_no_newline bs) 0)) (stops is_no_newline newline_no_word bs);
    } in
    subst (IsGap (b ∷ bs)) k whole

word_tells : (b : ℕ) (bs : List ℕ) → is_word_byte b ≡ true → IsPiece (b ∷ bs) Word (1 + prefix_len is_word_byte bs)
word_tells b bs e =
    let k : prefix_len is_word_byte (b ∷ bs) ≡ 1 + prefix_len is_word_byte bs = prefix-yes is_word_byte b bs e ∙ omega arith in
    let whole : IsPiece (b ∷ bs) Word (prefix_len is_word_byte (b ∷ bs)) = record {
      lines = newlines-run is_word_byte word_no_newline (b ∷ bs);
      ends = and_right _ (is_word_byte (get_or (b ∷ bs) (prefix_len is_word_byte (b ∷ bs)) 0)) (stops is_word_byte (λ x h. h) (b ∷ bs));
      word = λ _. refl;
      quoted = λ h. absurd (cc);
    } in
    subst (IsPiece (b ∷ bs) Word) k whole

sign_tells : (kind : TokenKind) (n b : ℕ) (bs : List ℕ) → is_word_byte n ≡ false → n ≢ 10 → line_after kind 0 ≡ 0 → kind ≢ Word → kind ≢ Quoted → nat_eq b n ≡ true → IsPiece (b ∷ bs) kind 1
sign_tells kind n b bs w l z nw nq e =
    let i : b ≡ n = is_at b n e in
    record {
      lines = newlines-no b [] (λ x. l (sym i ∙ x)) ∙ sym z;
      ends = and_left (is_word_byte b) (is_word_byte (get_or (b ∷ bs) 1 0)) (no_word b n i w);
      word = λ h. absurd (nw h);
      quoted = λ h. absurd (nq h);
    }

line_tells : (b : ℕ) (bs : List ℕ) → nat_eq b 10 ≡ true → IsPiece (b ∷ bs) Line 1
line_tells b bs e =
    let i : b ≡ 10 = is_at b 10 e in
    record {
      lines = ap (λ (x : ℕ). newlines (x ∷ [])) i;
      ends = and_left (is_word_byte b) (is_word_byte (get_or (b ∷ bs) 1 0)) (no_word b 10 i refl);
      word = λ h. absurd (cc);
      quoted = λ h. absurd (cc);
    }

signs_tell : (b : ℕ) (bs : List ℕ) → Tells (b ∷ bs) (sign_front (sign_of b))
signs_tell b bs =
    let P : Option TokenKind → Type 0 = λ o. Tells (b ∷ bs) (sign_front o) in
    tested P (nat_eq b 10) (Some Line) _ (line_tells b bs)
    (λ _. tested P (nat_eq b 58) (Some Colon) _ (sign_tells Colon 58 b bs refl (omega arith) refl (λ h. cc) (λ h. cc))
    (λ _. tested P (nat_eq b 44) (Some Comma) _ (sign_tells Comma 44 b bs refl (omega arith) refl (λ h. cc) (λ h. cc))
    (λ _. tested P (nat_eq b 40) (Some Open) _ (sign_tells Open 40 b bs refl (omega arith) refl (λ h. cc) (λ h. cc))
    (λ _. tested P (nat_eq b 41) (Some Close) _ (sign_tells Close 41 b bs refl (omega arith) refl (λ h. cc) (λ h. cc))
    (λ _. tested P (nat_eq b 91) (Some OpenBracket) _ (sign_tells OpenBracket 91 b bs refl (omega arith) refl (λ h. cc) (λ h. cc))
    (λ _. tested P (nat_eq b 93) (Some CloseBracket) _ (sign_tells CloseBracket 93 b bs refl (omega arith) refl (λ h. cc) (λ h. cc))
    (λ _. tested P (nat_eq b 61) (Some Equal) _ (sign_tells Equal 61 b bs refl (omega arith) refl (λ h. cc) (λ h. cc))
    (λ _. tested P (nat_eq b 60) (Some Less) _ (sign_tells Less 60 b bs refl (omega arith) refl (λ h. cc) (λ h. cc))
    (λ _. tested P (nat_eq b 62) (Some Greater) None (sign_tells Greater 62 b bs refl (omega arith) refl (λ h. cc) (λ h. cc)) (λ _. tt))))))))))

-- ---- quoted texts

-- the closing quote is the last byte, and no newline is before it
Closed : List ℕ → Option ℕ → Type 0
Closed bs None = Unit {0}
Closed bs (Some n) = (1 ≤ n) × (get_or bs (n - 1) 0 ≡ 34) × (newlines (take n bs) ≡ 0)

closed_here : (b : ℕ) (bs : List ℕ) → nat_eq b 34 ≡ true → Closed (b ∷ bs) (Some 1)
unfolding Closed
closed_here b bs e = (omega arith, is_at b 34 e, newlines-no b [] (λ n. let i : b ≡ 34 = is_at b 34 e in omega arith))

closed_more : (b : ℕ) (bs : List ℕ) (o : Option ℕ) → b ≢ 10 → Closed bs o → Closed (b ∷ bs) (count_after 1 o)
unfolding Closed
closed_more b bs None n h = tt
closed_more b bs (Some k) n h =
    let one : 1 ≤ k = h.0 in
    let at : 1 + k - 1 ≡ suc (k - 1) = omega arith in
    let front : 1 + k ≡ suc k = omega arith in (
      omega arith,
      ap (λ (x : ℕ). get_or (b ∷ bs) x 0) at ∙ h.1,
      ap (λ (x : ℕ). newlines (take x (b ∷ bs))) front ∙ newlines-no b (take k bs) n ∙ h.2,
    )

closed : (bs : List ℕ) → Closed bs (closing_len bs)
unfolding Closed
closed [] = tt
closed (b ∷ []) = tested (Closed (b ∷ [])) (nat_eq b 34) (Some 1) None (closed_here b []) (λ _. tt)
closed (b ∷ c ∷ cs) =
    let P : Option ℕ → Type 0 = Closed (b ∷ c ∷ cs) in
    let two : b ≢ 10 → c ≢ 10 → P (count_after 2 (closing_len cs)) = λ n m. subst P (further-further 1 1 (closing_len cs)) (closed_more b (c ∷ cs) (count_after 1 (closing_len cs)) n (closed_more c cs (closing_len cs) m (closed cs))) in
    let one : b ≢ 10 → P (count_after 1 (closing_len (c ∷ cs))) = λ n. closed_more b (c ∷ cs) (closing_len (c ∷ cs)) n (closed (c ∷ cs)) in
    tested P (nat_eq b 34) (Some 1) _ (closed_here b (c ∷ cs))
    (λ _. tested P (nat_eq b 10) None _ (λ _. tt)
    (λ n. tested P (nat_eq b 92) _ _
    (λ _. tested P (nat_eq c 10) None _ (λ _. tt) (λ m. two (not_at b 10 n) (not_at c 10 m)))
    (λ _. one (not_at b 10 n))))

quoted_tells : (b : ℕ) (bs : List ℕ) (o : Option ℕ) (f : Option LexFault) → b ≡ 34 → Closed bs o → Tells (b ∷ bs) (quoted_front o f)
unfolding Closed
quoted_tells b bs None f i h = tt
quoted_tells b bs (Some k) (Some fault) i h = tt
quoted_tells b bs (Some k) None i h =
    let one : 1 ≤ k = h.0 in
    let at : 1 + k - 1 ≡ suc (k - 1) = omega arith in
    let front : 1 + k ≡ suc k = omega arith in
    let last : get_or (b ∷ bs) (1 + k - 1) 0 ≡ 34 = ap (λ (x : ℕ). get_or (b ∷ bs) x 0) at ∙ h.1 in
    record {
      lines = ap (λ (x : ℕ). newlines (take x (b ∷ bs))) front ∙ newlines-no b (take k bs) (λ n. omega arith) ∙ h.2;
      ends = and_left _ _ (no_word _ 34 last refl);
      word = λ e. absurd (cc);
      quoted = λ _. (omega arith, i, last);
    }

-- ---- every front

not_equal_tells : (b : ℕ) (bs : List ℕ) → b ≡ 33 → Tells (b ∷ bs) (not_equal_front bs)
not_equal_tells b [] i = tt
not_equal_tells b (c ∷ cs) i =
    tested (Tells (b ∷ c ∷ cs)) (nat_eq c 61) (Piece NotEqual 2) (Broken (BadByte 0))
    (λ e. let j : c ≡ 61 = is_at c 61 e in record {
      lines = newlines-no b (c ∷ []) (λ n. omega arith) ∙ newlines-no c [] (λ n. omega arith);
      ends = and_left (is_word_byte c) _ (no_word c 61 j refl);
      word = λ h. absurd (cc);
      quoted = λ h. absurd (cc);
    })
    (λ _. tt)

-- no word continues across the end of a front; a front has the newlines of its kind, and is a whole word or between quotes if it
-- is a Word or a quoted text
pub front_tells : (b : ℕ) (bs : List ℕ) → Tells (b ∷ bs) (front_of (b ∷ bs))
front_tells b bs =
    let P : Front → Type 0 = Tells (b ∷ bs) in
    tested P (is_blank b) (Gap 1) _ (blank_tells b bs)
    (λ _. tested P (nat_eq b 35) (Gap (1 + prefix_len is_no_newline bs)) _ (comment_tells b bs)
    (λ _. tested P (is_word_byte b) (Piece Word (1 + prefix_len is_word_byte bs)) _ (word_tells b bs)
    (λ _. tested P (nat_eq b 34) (quoted_front (closing_len bs) (inner_fault bs)) _ (λ e. quoted_tells b bs (closing_len bs) (inner_fault bs) (is_at b 34 e) (closed bs))
    (λ _. tested P (nat_eq b 33) (not_equal_front bs) (sign_front (sign_of b)) (λ e. not_equal_tells b bs (is_at b 33 e)) (λ _. signs_tell b bs)))))
