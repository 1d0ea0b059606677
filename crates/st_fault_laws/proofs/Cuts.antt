-- A text that is cut after one of its tokens, and continues with a blank, has the tokens up to the cut.
use Rattle.std.proofs.Common.{zero, suc, ◌≡◌, ℕ, ◌+◌, ◌-◌, ◌<◌, ◌≤◌, ◌≢◌, Bool, true, false, List, [], ◌∷◌, ◌++◌, length, take, drop, Option, None, Some, refl, ap, sym, subst, ◌∙◌, arith, nat_eq}
use Rattle.std.proofs.lemmas.Bool.Decides.{nat_tests}
use Rattle.std.specs.List.{prefix_len}
use Rattle.st_grammar.proofs.Common.{Lexed, lexed_text, LexFault, optional_fault_after, piece_tokens, print, Space, spelled_tokens, CanBeReadBack, Token, TokenKind}
use Rattle.st_lex.specs.Quoted.{closing_len, count_after, inner_fault, is_byte_escape}
use Rattle.std.proofs.lemmas.List.{drop-append-le, drop-take, length-append, length-drop, length-take-le, map-append, take-append-le, take-take}
use Rattle.st_lex.specs.declared.token.LexFault.TheVariants.{BadByte}
use Rattle.st_fault_laws.specs.Cuts.{end_of_tokens}
use Rattle.st_lex.specs.Pieces.{IsReadAs, Piece as TextPiece, SpelledToken, spelled_token}
use Rattle.st_lex.specs.Text.{text_of_token}
use Rattle.st_lex.proofs.Pieces.{spelled-tokens_at, tokens_at, tokens_from-print}
use Rattle.st_lex.proofs.Skips.{before, tokens_from-broken, tokens_from-gap, tokens_from-piece}
use Rattle.st_lex.proofs.Within.{front_of-within}
use Rattle.st_lex.specs.declared.token.Front.{Front}
use Rattle.st_lex.specs.declared.token.Front.TheVariants.{Gap, Piece, Broken}
use Rattle.st_lex.specs.declared.token.TokenKind.TheVariants.{Word, NotEqual}
use Rattle.st_lex.specs.Tokens.{IsFrontWithin, front_of, line_after, tokens_from, with_token, is_blank, is_no_newline, is_word_byte, not_equal_front, quoted_front, sign_front, sign_of}
use Rattle.st_lex.proofs.Runs.{tested}
use Rattle.st_lex.proofs.Insides.{hex_byte_is, closing_len-one}
use Rattle.st_lex.proofs.Scans.{closing_len-plain, closing_len-quote, closing_len-newline, closing_len-pair, inner_fault-plain, inner_fault-pair, inner_fault-quote, inner_fault-zero, inner_fault-escape}

-- ---- runs

-- a run that ends at the cut, or before it, keeps its length
pub prefix_cut : (p : ℕ → Bool) (bs ys : List ℕ) (m : ℕ) → prefix_len p bs ≤ m → m ≤ length bs → (prefix_len p bs ≡ m → prefix_len p ys ≡ 0) → prefix_len p (take m bs ++ ys) ≡ prefix_len p bs
prefix_cut p [] ys zero h within stop = stop refl
prefix_cut p [] ys (suc m) h within stop = absurd (omega arith)
prefix_cut p (b ∷ bs) ys zero h within stop = let none : prefix_len p (b ∷ bs) ≡ 0 = omega (arith, h) in stop none ∙ sym none
prefix_cut p (b ∷ bs) ys (suc m) h within stop = by (p b) refl (prefix_cut p bs ys m) where
  by : (t : Bool) → p b ≡ t → (prefix_len p bs ≤ m → m ≤ length bs → (prefix_len p bs ≡ m → prefix_len p ys ≡ 0) → prefix_len p (take m bs ++ ys) ≡ prefix_len p bs) →
      prefix_len p (b ∷ (take m bs ++ ys)) ≡ prefix_len p (b ∷ bs)
  by false e rest = rw e refl
  by true e rest =
      let inside : 1 + prefix_len p bs ≤ suc m = rw e at h in
      let ends : 1 + prefix_len p bs ≡ suc m → prefix_len p ys ≡ 0 = rw e at stop in
      let same : prefix_len p (take m bs ++ ys) ≡ prefix_len p bs = rest (omega (arith, inside)) (omega (arith, within)) (λ x. ends (omega (arith, x))) in
      rw e (ap (λ (n : ℕ). 1 + n) same)

-- ---- quoted texts

-- a count that continues after some bytes is their number and the count of the rest
following : (k c : ℕ) (o : Option ℕ) → count_after k o ≡ Some c → (m : ℕ) × (k + m ≡ c) × (o ≡ Some m)
following k c None e = absurd (cc)
following k c (Some m) e = (m, cc, refl)

no_fault : (k : ℕ) (o : Option LexFault) → optional_fault_after k o ≡ None → o ≡ None
no_fault k None e = refl
no_fault k (Some fault) e = absurd (cc)

-- the bytes close a quoted text without a fault, at this length
pub record ClosesAt (bs : List ℕ) (c : ℕ) : Type 0 where
  pub closes : closing_len bs ≡ Some c
  pub faultless : inner_fault bs ≡ None

-- a byte is this byte, or it isn't
byte_is : (b n : ℕ) (P : Type 0) → (b ≡ n → P) → (b ≢ n → P) → P
byte_is b n P same other = by (nat_eq b n) refl where
  by : (t : Bool) → nat_eq b n ≡ t → P
  by true e = same (grind (arith, nat_tests))
  by false e = other (grind (arith, nat_tests))

quote_first : (zs : List ℕ) → ClosesAt (34 ∷ zs) 1
quote_first zs = record { closes = closing_len-quote zs; faultless = inner_fault-quote zs }

plain_first : (b c : ℕ) (zs : List ℕ) → b ≢ 34 → b ≢ 10 → b ≢ 92 → b ≢ 0 → ClosesAt zs c → ClosesAt (b ∷ zs) (1 + c)
plain_first b c zs q n s z rest = record {
  closes = closing_len-plain b zs q n s ∙ ap (count_after 1) rest.closes;
  faultless = inner_fault-plain b zs q z s ∙ ap (optional_fault_after 1) rest.faultless;
}

pair_first : (b c : ℕ) (zs : List ℕ) → b ≢ 10 → b ≢ 0 → (b ≡ 120 → is_byte_escape zs ≡ true) → ClosesAt zs c → ClosesAt (92 ∷ b ∷ zs) (2 + c)
pair_first b c zs n z x rest = record {
  closes = closing_len-pair b zs n ∙ ap (count_after 2) rest.closes;
  faultless = inner_fault-pair b zs z x ∙ ap (optional_fault_after 2) rest.faultless;
}

-- an escape is before the end of the quoted text
escape_kept : (cs ys : List ℕ) (c m : ℕ) → closing_len cs ≡ Some c → c ≤ m → is_byte_escape cs ≡ true → is_byte_escape (take m cs ++ ys) ≡ true
escape_kept [] ys c m e h x = absurd (cc)
escape_kept (h ∷ []) ys c m e i x = absurd (cc)
escape_kept (h ∷ l ∷ rest) ys c m e i x =
    let digits = hex_byte_is h l x in
    let one = following 1 c (closing_len (l ∷ rest)) (sym (closing_len-plain h (l ∷ rest) (λ z. omega (arith, digits.0.low)) (λ z. omega (arith, digits.0.low)) digits.0.no_mark) ∙ e) in
    let two = following 1 one.0 (closing_len rest) (sym (closing_len-plain l rest (λ z. omega (arith, digits.1.low)) (λ z. omega (arith, digits.1.low)) digits.1.no_mark) ∙ one.2) in
    let long : 2 ≤ m = omega (arith, one.1, two.1) in
    cut m long where
      cut : (m : ℕ) → 2 ≤ m → is_byte_escape (take m (h ∷ l ∷ rest) ++ ys) ≡ true
      cut zero long = absurd (omega (arith, long))
      cut (suc zero) long = absurd (omega (arith, long))
      cut (suc (suc m)) long = x

-- the bytes after the closing quote don't matter
pub Kept : List ℕ → List ℕ → Type 0
Kept bs ys = (c m : ℕ) → ClosesAt bs c → c ≤ m → ClosesAt (take m bs ++ ys) c

kept_quote : (bs ys : List ℕ) → Kept (34 ∷ bs) ys
unfolding Kept
kept_quote bs ys c zero h i = let one : Some 1 ≡ Some c = sym (closing_len-quote bs) ∙ h.closes in let same : 1 ≡ c = cc in absurd (omega (arith, same, i))
kept_quote bs ys c (suc m) h i = let one : Some 1 ≡ Some c = sym (closing_len-quote bs) ∙ h.closes in let same : 1 ≡ c = cc in subst (ClosesAt (34 ∷ (take m bs ++ ys))) same (quote_first (take m bs ++ ys))

kept_plain : (b : ℕ) (bs ys : List ℕ) → b ≢ 34 → b ≢ 10 → b ≢ 92 → b ≢ 0 → Kept bs ys → Kept (b ∷ bs) ys
unfolding Kept
kept_plain b bs ys q n s z ih c zero h i =
    let less = following 1 c (closing_len bs) (sym (closing_len-plain b bs q n s) ∙ h.closes) in absurd (omega (arith, less.1, i))
kept_plain b bs ys q n s z ih c (suc m) h i =
    let less = following 1 c (closing_len bs) (sym (closing_len-plain b bs q n s) ∙ h.closes) in
    let faultless = no_fault 1 (inner_fault bs) (sym (inner_fault-plain b bs q z s) ∙ h.faultless) in
    subst (ClosesAt (b ∷ (take m bs ++ ys))) less.1 (plain_first b less.0 (take m bs ++ ys) q n s z (ih less.0 m (record { closes = less.2; faultless = faultless }) (omega (arith, less.1, i))))

kept_pair : (b : ℕ) (bs ys : List ℕ) → b ≢ 10 → b ≢ 0 → (b ≡ 120 → is_byte_escape bs ≡ true) → Kept bs ys → Kept (92 ∷ b ∷ bs) ys
unfolding Kept
kept_pair b bs ys n z x ih c m h i =
    let less = following 2 c (closing_len bs) (sym (closing_len-pair b bs n) ∙ h.closes) in
    let faultless = no_fault 2 (inner_fault bs) (sym (inner_fault-pair b bs z x) ∙ h.faultless) in
    cut m less.0 less.1 less.2 faultless i where
      cut : (m d : ℕ) → 2 + d ≡ c → closing_len bs ≡ Some d → inner_fault bs ≡ None → c ≤ m → ClosesAt (take m (92 ∷ b ∷ bs) ++ ys) c
      cut zero d same closes faultless i = absurd (omega (arith, same, i))
      cut (suc zero) d same closes faultless i = absurd (omega (arith, same, i))
      cut (suc (suc m)) d same closes faultless i =
          let inside : d ≤ m = omega (arith, same, i) in
          subst (ClosesAt (92 ∷ b ∷ (take m bs ++ ys))) same
          (pair_first b d (take m bs ++ ys) n z (λ e. escape_kept bs ys d m closes inside (x e)) (ih d m (record { closes = closes; faultless = faultless }) inside))

never : (bs ys : List ℕ) → ((c : ℕ) → ClosesAt bs c → ⊥) → Kept bs ys
unfolding Kept
never bs ys none c m h i = absurd (none c h)

kept_mark : (b : ℕ) (bs ys : List ℕ) → Kept bs ys → Kept (92 ∷ b ∷ bs) ys
kept_mark b bs ys ih =
    let P : Type 0 = Kept (92 ∷ b ∷ bs) ys in
    byte_is b 10 P (λ e. never (92 ∷ b ∷ bs) ys (λ c h. let none : closing_len (92 ∷ 10 ∷ bs) ≡ Some c = subst (λ (x : ℕ). closing_len (92 ∷ x ∷ bs) ≡ Some c) e h.closes in cc))
    (λ n. byte_is b 0 P (λ e. never (92 ∷ b ∷ bs) ys (λ c h. let none : inner_fault (92 ∷ 0 ∷ bs) ≡ None = subst (λ (x : ℕ). inner_fault (92 ∷ x ∷ bs) ≡ None) e h.faultless in cc))
    (λ z. by_escape (is_byte_escape bs) refl n z)) where
      by_escape : (t : Bool) → is_byte_escape bs ≡ t → b ≢ 10 → b ≢ 0 → Kept (92 ∷ b ∷ bs) ys
      by_escape true x n z = kept_pair b bs ys n z (λ _. x) ih
      by_escape false x n z =
          byte_is b 120 (Kept (92 ∷ b ∷ bs) ys)
          (λ e. never (92 ∷ b ∷ bs) ys (λ c h. let none : inner_fault (92 ∷ 120 ∷ bs) ≡ None = subst (λ (y : ℕ). inner_fault (92 ∷ y ∷ bs) ≡ None) e h.faultless in let bad = inner_fault-escape bs x in cc))
          (λ e. kept_pair b bs ys n z (λ same. absurd (e same)) ih)

kept_first : (b c : ℕ) (cs ys : List ℕ) → Kept cs ys → Kept (c ∷ cs) ys → Kept (b ∷ c ∷ cs) ys
kept_first b c cs ys pair rest =
    let P : Type 0 = Kept (b ∷ c ∷ cs) ys in
    byte_is b 34 P (λ e. subst (λ (x : ℕ). Kept (x ∷ c ∷ cs) ys) (sym e) (kept_quote (c ∷ cs) ys))
    (λ q. byte_is b 10 P (λ e. never (b ∷ c ∷ cs) ys (λ d h. let none : closing_len (10 ∷ c ∷ cs) ≡ Some d = subst (λ (x : ℕ). closing_len (x ∷ c ∷ cs) ≡ Some d) e h.closes in let no = closing_len-newline (c ∷ cs) in cc))
    (λ n. byte_is b 92 P (λ e. subst (λ (x : ℕ). Kept (x ∷ c ∷ cs) ys) (sym e) (kept_mark c cs ys pair))
    (λ s. byte_is b 0 P (λ e. never (b ∷ c ∷ cs) ys (λ d h. let none : inner_fault (0 ∷ c ∷ cs) ≡ None = subst (λ (x : ℕ). inner_fault (x ∷ c ∷ cs) ≡ None) e h.faultless in let bad = inner_fault-zero (c ∷ cs) in cc))
    (λ z. kept_plain b (c ∷ cs) ys q n s z rest))))

pub closes_kept : (bs ys : List ℕ) → Kept bs ys
closes_kept [] ys = never [] ys (λ c h. let none = h.closes in cc)
closes_kept (b ∷ []) ys =
    byte_is b 34 (Kept (b ∷ []) ys) (λ e. subst (λ (x : ℕ). Kept (x ∷ []) ys) (sym e) (kept_quote [] ys))
    (λ q. never (b ∷ []) ys (λ c h. let none = closing_len-one b q in let some = h.closes in cc))
closes_kept (b ∷ c ∷ cs) ys = kept_first b c cs ys (closes_kept cs ys) (closes_kept (c ∷ cs) ys)

-- ---- the beginnings of bytes

-- a gap or a token at the beginning of the whole bytes is at the beginning of the cut bytes too, if it ends before the cut
abbrev pub Stays : List ℕ → ℕ → Front → Type 0
Stays cut m (Gap k) = k ≤ m → front_of cut ≡ Gap k
Stays cut m (Piece kind k) = k ≤ m + 1 → front_of cut ≡ Piece kind k
Stays cut m (Broken fault) = Unit {0}

stays_so : (cut : List ℕ) (m : ℕ) (front : Front) → front_of cut ≡ front → Stays cut m front
stays_so cut m (Gap k) e = λ _. e
stays_so cut m (Piece kind k) e = λ _. e
stays_so cut m (Broken fault) e = tt

module _ (b : ℕ) (bs more : List ℕ) (m : ℕ) (within : m ≤ length bs) where
  rest : List ℕ
  rest = take m bs ++ 32 ∷ more

  cut : List ℕ
  cut = b ∷ rest

  stays_quoted : (o : Option ℕ) (f : Option LexFault) → closing_len bs ≡ o → inner_fault bs ≡ f → front_of cut ≡ quoted_front (closing_len rest) (inner_fault rest) → Stays cut m (quoted_front o f)
  unfolding Kept rest
  stays_quoted None f e g is = tt
  stays_quoted (Some c) (Some fault) e g is = tt
  stays_quoted (Some c) None e g is = λ fits.
      let kept = closes_kept bs (32 ∷ more) c m (record { closes = e; faultless = g }) (omega (arith, fits)) in
      is ∙ ap (λ (o : Option ℕ). quoted_front o (inner_fault rest)) kept.closes ∙ ap (quoted_front (Some c)) kept.faultless

  stays_not_equal : front_of cut ≡ not_equal_front rest → Stays cut m (not_equal_front bs)
  unfolding rest
  stays_not_equal is = by bs m refl refl where
    by : (cs : List ℕ) (n : ℕ) → bs ≡ cs → m ≡ n → Stays cut m (not_equal_front cs)
    by [] n e f = tt
    by (c ∷ cs) zero e f = tested (Stays cut m) (nat_eq c 61) (Piece NotEqual 2) (Broken (BadByte 0)) (λ same fits. absurd (omega (arith, f, fits))) (λ _. tt)
    by (c ∷ cs) (suc n) e f =
        let parts : take m bs ++ 32 ∷ more ≡ c ∷ (take n cs ++ 32 ∷ more) = ap (λ (k : ℕ). take k bs ++ 32 ∷ more) f ∙ ap (λ (xs : List ℕ). take (suc n) xs ++ 32 ∷ more) e in
        tested (Stays cut m) (nat_eq c 61) (Piece NotEqual 2) (Broken (BadByte 0)) (λ same fits. is ∙ ap not_equal_front parts ∙ rw same refl) (λ _. tt)

  front_stays : Stays cut m (front_of (b ∷ bs))
  unfolding cut rest
  front_stays =
      let P : Front → Type 0 = Stays cut m in
      tested P (is_blank b) (Gap 1) _ (λ e. stays_so cut m (Gap 1) (rw e refl))
      (λ f. tested P (nat_eq b 35) (Gap (1 + prefix_len is_no_newline bs)) _
      (λ e fits. rw (f, e) (ap (λ (n : ℕ). Gap (1 + n)) (prefix_cut is_no_newline bs (32 ∷ more) m (omega (arith, fits)) within (λ same. absurd (omega (arith, fits, same))))))
      (λ g. tested P (is_word_byte b) (Piece Word (1 + prefix_len is_word_byte bs)) _
      (λ e fits. rw (f, g, e) (ap (λ (n : ℕ). Piece Word (1 + n)) (prefix_cut is_word_byte bs (32 ∷ more) m (omega (arith, fits)) within (λ _. refl))))
      (λ h. tested P (nat_eq b 34) (quoted_front (closing_len bs) (inner_fault bs)) _
      (λ e. stays_quoted (closing_len bs) (inner_fault bs) refl refl (rw (f, g, h, e) refl))
      (λ i. tested P (nat_eq b 33) (not_equal_front bs) (sign_front (sign_of b))
      (λ e. stays_not_equal (rw (f, g, h, i, e) refl))
      (λ j. stays_so cut m (sign_front (sign_of b)) (rw (f, g, h, i, j) refl))))))

-- ---- texts

drop_cut : (k n : ℕ) (xs ys : List ℕ) → k ≤ n → n ≤ length xs → drop k (take n xs ++ ys) ≡ take (n - k) (drop k xs) ++ ys
drop_cut k n xs ys h i =
    let size : length (take n xs) ≡ n = length-take-le n xs i in
    let parts : k + (n - k) ≡ n = omega arith in
    drop-append-le k (take n xs) ys (omega (arith, size)) ∙ ap (λ (j : ℕ). drop k (take j xs) ++ ys) (sym parts) ∙ ap (λ (zs : List ℕ). zs ++ ys) (drop-take k (n - k) xs)

-- the last of some tokens, if there is one, ends past this offset
abbrev pub IsPast : ℕ → List Token → Type 0
IsPast at [] = Unit {0}
IsPast at (t ∷ ts) = at < end_of_tokens at (t ∷ ts)

-- no token ends past this offset
abbrev pub EndBefore : ℕ → List Token → Type 0
EndBefore end [] = Unit {0}
EndBefore end (t ∷ ts) = (t.at + t.len ≤ end) × EndBefore end ts

-- the tokens of bytes that are cut after these tokens, and continue with other bytes
record Cut (at line : ℕ) (bytes : List ℕ) (kept : List Token) (ys : List ℕ) : Type 0 where
  from : at ≤ end_of_tokens at kept
  to : end_of_tokens at kept ≤ at + length bytes
  past : IsPast at kept
  ends : EndBefore (end_of_tokens at kept) kept
  next : ℕ
  same : tokens_from 0 at line (take (end_of_tokens at kept - at) bytes ++ ys) ≡ before kept (tokens_from 0 (end_of_tokens at kept) next ys)

cut_none : (at line : ℕ) (bytes ys : List ℕ) → Cut at line bytes [] ys
cut_none at line bytes ys =
    let none : at - at ≡ 0 = omega arith in
    record { from = omega arith; to = omega arith; past = tt; ends = tt; next = line; same = ap (λ (n : ℕ). tokens_from 0 at line (take n bytes ++ ys)) none }

-- the bytes after the first gap or token, if the text is cut at this end
module _ (b : ℕ) (bs more : List ℕ) (k at end : ℕ) (some : 0 < k) (from : at + k ≤ end) (to : end ≤ at + length (b ∷ bs)) where
  tail : List ℕ
  tail = 32 ∷ more

  first_cut : take (end - at) (b ∷ bs) ++ tail ≡ b ∷ (take (end - at - 1) bs ++ tail)
  first_cut = let n : end - at ≡ suc (end - at - 1) = omega (arith, some, from) in ap (λ (j : ℕ). take j (b ∷ bs) ++ tail) n

  after_cut : drop k (b ∷ (take (end - at - 1) bs ++ tail)) ≡ take (end - (at + k)) (drop k (b ∷ bs)) ++ tail
  after_cut =
      let n : end - at - k ≡ end - (at + k) = omega (arith, from) in
      ap (drop k) (sym first_cut) ∙ drop_cut k (end - at) (b ∷ bs) tail (omega (arith, from)) (omega (arith, to)) ∙ ap (λ (j : ℕ). take j (drop k (b ∷ bs)) ++ tail) n

  stays : Stays (b ∷ (take (end - at - 1) bs ++ tail)) (end - at - 1) (front_of (b ∷ bs))
  unfolding tail cut rest
  stays = front_stays b bs more (end - at - 1) (omega (arith, to))

  long : k ≤ length (take (end - at - 1) bs ++ tail) + 1
  unfolding tail
  long =
      let size : length (take (end - at - 1) bs) ≡ end - at - 1 = length-take-le (end - at - 1) bs (omega (arith, to)) in
      omega (arith, length-append (take (end - at - 1) bs) (32 ∷ more), size, from)

module _ (at line b : ℕ) (bs more : List ℕ) where
  cut_gap : (k : ℕ) (t : Token) (ts : List Token) → Gap k ≡ front_of (b ∷ bs) → 0 < k → k ≤ length bs + 1 → Cut (at + k) line (drop k (b ∷ bs)) (t ∷ ts) (32 ∷ more) → Cut at line (b ∷ bs) (t ∷ ts) (32 ∷ more)
  unfolding tail
  cut_gap k t ts is some fits c =
      let end : ℕ = end_of_tokens at (t ∷ ts) in
      let size : length (drop k (b ∷ bs)) ≡ length (b ∷ bs) - k = length-drop k (b ∷ bs) in
      let from : at + k ≤ end = c.from in
      let past : at + k < end = c.past in
      let to : end ≤ at + length (b ∷ bs) = omega (arith, c.to, size, fits) in
      let front : front_of (b ∷ (take (end - at - 1) bs ++ 32 ∷ more)) ≡ Gap k = subst (Stays (b ∷ (take (end - at - 1) bs ++ 32 ∷ more)) (end - at - 1)) (sym is) (stays b bs more k at end some from to) (omega (arith, past)) in
      record {
        from = omega (arith, from);
        to = to;
        past = omega (arith, past);
        ends = c.ends;
        next = c.next;
        same = ap (tokens_from 0 at line) (first_cut b bs more k at end some from to)
            ∙ tokens_from-gap k at line b (take (end - at - 1) bs ++ 32 ∷ more) (sym front) some (long b bs more k at end some from to)
            ∙ ap (tokens_from 0 (at + k) line) (after_cut b bs more k at end some from to)
            ∙ c.same;
      }

  cut_piece : (kind : TokenKind) (k : ℕ) (ts : List Token) → Piece kind k ≡ front_of (b ∷ bs) → 0 < k → k ≤ length bs + 1 → Cut (at + k) (line_after kind line) (drop k (b ∷ bs)) ts (32 ∷ more) →
      Cut at line (b ∷ bs) (record { kind = kind; at = at; len = k; line = line } ∷ ts) (32 ∷ more)
  unfolding tail
  cut_piece kind k ts is some fits c =
      let end : ℕ = end_of_tokens (at + k) ts in
      let size : length (drop k (b ∷ bs)) ≡ length (b ∷ bs) - k = length-drop k (b ∷ bs) in
      let from : at + k ≤ end = c.from in
      let to : end ≤ at + length (b ∷ bs) = omega (arith, c.to, size, fits) in
      let front : front_of (b ∷ (take (end - at - 1) bs ++ 32 ∷ more)) ≡ Piece kind k = subst (Stays (b ∷ (take (end - at - 1) bs ++ 32 ∷ more)) (end - at - 1)) (sym is) (stays b bs more k at end some from to) (omega (arith, from)) in
      let t : Token = record { kind = kind; at = at; len = k; line = line } in
      record {
        from = omega (arith, from);
        to = to;
        past = omega (arith, from, some);
        ends = (from, c.ends);
        next = c.next;
        same = ap (tokens_from 0 at line) (first_cut b bs more k at end some from to)
            ∙ tokens_from-piece kind k at line b (take (end - at - 1) bs ++ 32 ∷ more) (sym front) some (long b bs more k at end some from to)
            ∙ ap (λ (xs : List ℕ). with_token t (tokens_from 0 (at + k) (line_after kind line) xs)) (after_cut b bs more k at end some from to)
            ∙ ap (with_token t) c.same;
      }

  cut_by : (t : Token) (ts after : List Token) (front : Front) → front ≡ front_of (b ∷ bs) → IsFrontWithin (length bs + 1) front → (tokens_from 0 at line (b ∷ bs)).tokens ≡ t ∷ (ts ++ after) →
      ((at line k : ℕ) (kept : List Token) → 0 < k → (tokens_from 0 at line (drop k (b ∷ bs))).tokens ≡ kept ++ after → Cut at line (drop k (b ∷ bs)) kept (32 ∷ more)) → Cut at line (b ∷ bs) (t ∷ ts) (32 ∷ more)
  cut_by t ts after (Broken fault) is within e ih =
      let none : [] ≡ t ∷ (ts ++ after) = ap (λ (lexed : Lexed). lexed.tokens) (sym (tokens_from-broken fault at line b bs is)) ∙ e in absurd (cc)
  cut_by t ts after (Gap k) is within e ih =
      cut_gap k t ts is within.0 within.1 (ih (at + k) line k (t ∷ ts) within.0 (ap (λ (lexed : Lexed). lexed.tokens) (sym (tokens_from-gap k at line b bs is within.0 within.1)) ∙ e))
  cut_by t ts after (Piece kind k) is within e ih =
      let token : Token = record { kind = kind; at = at; len = k; line = line } in
      let both : token ∷ (tokens_from 0 (at + k) (line_after kind line) (drop k (b ∷ bs))).tokens ≡ t ∷ (ts ++ after) = ap (λ (lexed : Lexed). lexed.tokens) (sym (tokens_from-piece kind k at line b bs is within.0 within.1)) ∙ e in
      let head : token ≡ t = cc in
      let tail : (tokens_from 0 (at + k) (line_after kind line) (drop k (b ∷ bs))).tokens ≡ ts ++ after = cc in
      subst (λ (x : Token). Cut at line (b ∷ bs) (x ∷ ts) (32 ∷ more)) head (cut_piece kind k ts is within.0 within.1 (ih (at + k) (line_after kind line) k ts within.0 tail))

cut_from : (fuel at line : ℕ) (bytes : List ℕ) (kept after : List Token) (more : List ℕ) → length bytes ≤ fuel → (tokens_from 0 at line bytes).tokens ≡ kept ++ after → Cut at line bytes kept (32 ∷ more)
cut_from fuel at line bytes [] after more h e = cut_none at line bytes (32 ∷ more)
cut_from fuel at line [] (t ∷ ts) after more h e = absurd (cc)
cut_from zero at line (b ∷ bs) (t ∷ ts) after more h e = absurd (omega (arith, h))
cut_from (suc fuel) at line (b ∷ bs) (t ∷ ts) after more h e =
    cut_by at line b bs more t ts after (front_of (b ∷ bs)) refl (front_of-within b bs) e
    (λ at' line' k kept some. cut_from fuel at' line' (drop k (b ∷ bs)) kept after more (let size = length-drop k (b ∷ bs) in omega (arith, h, size, some)))

-- the bytes of a token that ends at the cut, or before it
kept_token : (t : Token) (end : ℕ) (text ys : List ℕ) → t.at + t.len ≤ end → end ≤ length text → text_of_token (take end text ++ ys) t ≡ text_of_token text t
kept_token t end text ys h i =
    let size : length (drop t.at text) ≡ length text - t.at = length-drop t.at text in
    let cut_size : length (take (end - t.at) (drop t.at text)) ≡ end - t.at = length-take-le (end - t.at) (drop t.at text) (omega (arith, size, i)) in
    ap (take t.len) (drop_cut t.at end text ys (omega (arith, h)) i)
    ∙ take-append-le t.len (take (end - t.at) (drop t.at text)) ys (omega (arith, cut_size, h))
    ∙ take-take t.len (end - t.at) (drop t.at text) (omega (arith, h))

kept_tokens : (ts : List Token) (end : ℕ) (text ys : List ℕ) → EndBefore end ts → end ≤ length text → spelled_tokens (take end text ++ ys) ts ≡ spelled_tokens text ts
kept_tokens [] end text ys h i = refl
kept_tokens (t ∷ ts) end text ys h i =
    let T : List ℕ → List SpelledToken = λ bytes. record { kind = t.kind; text = bytes } ∷ spelled_tokens (take end text ++ ys) ts in
    ap T (kept_token t end text ys h.0 i) ∙ ap (λ (more : List SpelledToken). spelled_token text t ∷ more) (kept_tokens ts end text ys h.1 i)

-- a text that is cut after one of its tokens, and continues with a blank and pieces, is read as its tokens up to the cut, then the pieces
pub cut_is_read : (text : List ℕ) (kept after : List Token) (pieces : List TextPiece) → (lexed_text text).tokens ≡ kept ++ after → CanBeReadBack pieces → IsReadAs (take (end_of_tokens 0 kept) text ++ print (Space ∷ pieces)) (spelled_tokens text kept ++ piece_tokens pieces)
cut_is_read text kept after pieces e well =
    let c = cut_from (length text) 0 1 text kept after (print pieces) (omega arith) e in
    let end : ℕ = end_of_tokens 0 kept in
    let cut : List ℕ = take end text ++ print (Space ∷ pieces) in
    let size : length (take end text) ≡ end = length-take-le end text (omega (arith, c.to)) in
    let at_end : end - 0 ≡ end = omega arith in
    let read : lexed_text cut ≡ record { tokens = kept ++ tokens_at end c.next (Space ∷ pieces); fault = None } =
    ap (λ (n : ℕ). lexed_text (take n text ++ print (Space ∷ pieces))) (sym at_end) ∙ c.same ∙ ap (before kept) (tokens_from-print (Space ∷ pieces) end c.next well) in
    let after_it : spelled_tokens cut (tokens_at end c.next (Space ∷ pieces)) ≡ piece_tokens pieces =
    ap (λ (n : ℕ). spelled_tokens cut (tokens_at n c.next (Space ∷ pieces))) (sym size) ∙ spelled-tokens_at (take end text) (Space ∷ pieces) c.next in
    record {
      faultless = ap (λ (lexed : Lexed). lexed.fault) read;
      in_order = ap (λ (lexed : Lexed). spelled_tokens cut lexed.tokens) read
          ∙ map-append (spelled_token cut) kept (tokens_at end c.next (Space ∷ pieces))
          ∙ ap (λ (more : List SpelledToken). more ++ spelled_tokens cut (tokens_at end c.next (Space ∷ pieces))) (kept_tokens kept end text (print (Space ∷ pieces)) c.ends (omega (arith, c.to)))
          ∙ ap (λ (more : List SpelledToken). spelled_tokens text kept ++ more) after_it;
    }
