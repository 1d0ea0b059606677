-- The contents of quoted texts are bytes that can be quoted.
use Rattle.std.proofs.Common.{zero, suc, ◌≡◌, ℕ, ◌+◌, ◌-◌, ◌*◌, ◌<◌, ◌≢◌, Bool, true, false, cond, ◌==◌, ◌||◌, nat_eq, List, [], ◌∷◌, ◌++◌, length, take, drop, codes, None, refl, ap, sym, subst, ◌∙◌, arith, take-append-drop}
use Rattle.std.specs.Char.{digit_value}
use Rattle.std.specs.List.{AllByRecursion, starts_with}
use Rattle.std.proofs.lemmas.Bool.Decides.{nat_tests}
use Rattle.std.proofs.lemmas.Slice.Eq.{bytes_eq-Decides}
use Rattle.st_lex.specs.declared.unquoted.Dollars.{Dollars}
use Rattle.st_lex.specs.Quote.{AreBytes}
use Rattle.st_lex.specs.Unquote.{Named, Spelling, escape_or_backslash, byte_escape, plain_front, named_front, dollar_names, unquoted_from}
use Rattle.st_lex.proofs.Insides.{IsPlainByte, IsHexByte, IsInside, Nothing, Plain, Marked, Escaped, Lone}
use Rattle.st_lex.proofs.Unquotes.{AreApart, dollars_apart, hex_byte-some}

AreBytes-append : (xs ys : List ℕ) → AreBytes xs → AreBytes ys → AreBytes (xs ++ ys)
AreBytes-append [] ys a b = b
AreBytes-append (x ∷ xs) ys a b = (a.0, a.1, AreBytes-append xs ys a.2 b)

-- no backslash is among the first `k` bytes
abbrev pub NoMarks : ℕ → List ℕ → Type 0
NoMarks zero bs = Unit {0}
NoMarks (suc k) [] = Unit {0}
NoMarks (suc k) (b ∷ bs) = (b ≢ 92) × NoMarks k bs

-- the text can be quoted, and the name has no backslash
pub record IsPlainName (named : Named) : Type 0 where
  pub bytes : AreBytes named.text
  pub no_marks : (rest : List ℕ) → NoMarks (length named.name - 1) (drop 1 (named.name ++ rest))

-- the text that a front spells can be quoted, and no backslash is among the bytes that spell it after the first byte
pub record IsPlainFront (front : Spelling) (bs : List ℕ) : Type 0 where
  pub bytes : AreBytes front.text
  pub no_marks : NoMarks (front.len - 1) bs

named_by : (named : Named) (b : ℕ) (bs : List ℕ) (front : Spelling) (t : Bool) → starts_with nat_eq (b ∷ bs) named.name ≡ t → IsPlainName named → IsPlainFront front bs → IsPlainFront (cond t (record { text = named.text; len = length named.name }) front) bs
named_by named b bs front false e is other = other
named_by named b bs front true e is other =
    let n : ℕ = length named.name in
    let front_is : named.name ≡ take n (b ∷ bs) = (bytes_eq-Decides named.name (take n (b ∷ bs))).0 e in
    let whole : named.name ++ drop n (b ∷ bs) ≡ b ∷ bs = ap (λ (xs : List ℕ). xs ++ drop n (b ∷ bs)) front_is ∙ take-append-drop n (b ∷ bs) in
    record {
      bytes = is.bytes;
      no_marks = subst (λ (xs : List ℕ). NoMarks (n - 1) (drop 1 xs)) whole (is.no_marks (drop n (b ∷ bs)));
    }

plain_byte : (b : ℕ) (bs : List ℕ) → IsPlainByte b → IsPlainFront (plain_front (b ∷ bs)) bs
plain_byte b bs p =
    let m : nat_eq b 92 ≡ false = grind (arith, nat_tests, p.no_mark) in
    rw m (record { bytes = (p.some, p.byte, tt); no_marks = tt })

named_plain : (names : List Named) (b : ℕ) (bs : List ℕ) → AllByRecursion IsPlainName names → IsPlainByte b → IsPlainFront (named_front names (b ∷ bs)) bs
named_plain [] b bs all p = plain_byte b bs p
named_plain (named ∷ others) b bs all p =
    named_by named b bs (named_front others (b ∷ bs)) (starts_with nat_eq (b ∷ bs) named.name) refl all.0 (named_plain others b bs all.1 p)

-- ---- after a backslash

marked_front : (names : List Named) (b : ℕ) (bs : List ℕ) → AreApart names → ((b == 34) || (b == 92)) ≡ true → named_front names (92 ∷ b ∷ bs) ≡ record { text = b ∷ []; len = 2 }
marked_front names b bs apart m = apart 92 (b ∷ bs) (λ e. omega arith) ∙ rw m refl

escaped_front : (names : List Named) (h l : ℕ) (bs : List ℕ) → AreApart names → IsHexByte h l → named_front names (92 ∷ 120 ∷ h ∷ l ∷ bs) ≡ record { text = (digit_value h * 16 + digit_value l) ∷ []; len = 4 }
escaped_front names h l bs apart hex = apart 92 (120 ∷ h ∷ l ∷ bs) (λ e. omega arith) ∙ ap escape_or_backslash (hex_byte-some h l hex.high hex.low)

lone_by : (b : ℕ) (bs : List ℕ) (m x : Bool) → ((b == 34) || (b == 92)) ≡ m → nat_eq b 120 ≡ x → b ≢ 120 → IsPlainByte b → cond m (record { text = b ∷ []; len = 2 }) (cond x (byte_escape bs) (escape_or_backslash None)) ≡ record { text = 92 ∷ []; len = 1 }
lone_by b bs true x e f n p = absurd (grind (arith, nat_tests, p.no_quote, p.no_mark))
lone_by b bs false true e f n p = absurd (grind (arith, nat_tests))
lone_by b bs false false e f n p = refl

lone_front : (names : List Named) (b : ℕ) (bs : List ℕ) → AreApart names → b ≢ 120 → IsPlainByte b → named_front names (92 ∷ b ∷ bs) ≡ record { text = 92 ∷ []; len = 1 }
lone_front names b bs apart n p = apart 92 (b ∷ bs) (λ e. omega arith) ∙ lone_by b bs ((b == 34) || (b == 92)) (nat_eq b 120) refl refl n p

-- the text of a front comes before the text of the rest
put_first : (names : List Named) (b : ℕ) (bs : List ℕ) (front : Spelling) → named_front names (b ∷ bs) ≡ front → AreBytes (front.text ++ unquoted_from names (front.len - 1) bs) → AreBytes (unquoted_from names 0 (b ∷ bs))
put_first names b bs front e a = subst (λ (f : Spelling). AreBytes (f.text ++ unquoted_from names (f.len - 1) bs)) (sym e) a

plain_first : (names : List Named) (b : ℕ) (bs : List ℕ) → AllByRecursion IsPlainName names → IsPlainByte b → ((k : ℕ) → NoMarks k bs → AreBytes (unquoted_from names k bs)) → AreBytes (unquoted_from names 0 (b ∷ bs))
plain_first names b bs all p rest =
    let f : IsPlainFront (named_front names (b ∷ bs)) bs = named_plain names b bs all p in
    AreBytes-append (named_front names (b ∷ bs)).text _ f.bytes (rest ((named_front names (b ∷ bs)).len - 1) f.no_marks)

-- the bytes inside a quoted text spell bytes that can be quoted
holds : (names : List Named) {bs : List ℕ} → AreApart names → AllByRecursion IsPlainName names → IsInside bs → (k : ℕ) → NoMarks k bs → AreBytes (unquoted_from names k bs)
holds names apart all Nothing k marks = tt
holds names apart all (Plain b bs p is) zero marks = plain_first names b bs all p (holds names apart all is)
holds names apart all (Plain b bs p is) (suc k) marks = holds names apart all is k marks.1
holds names apart all (Marked b bs some small m is) zero marks =
    put_first names 92 (b ∷ bs) _ (marked_front names b bs apart m) (some, small, holds names apart all is 0 tt)
holds names apart all (Marked b bs some small m is) (suc k) marks = absurd (marks.0 refl)
holds names apart all (Escaped h l bs hex is) zero marks =
    let byte : digit_value h * 16 + digit_value l < 256 = omega (arith, hex.high, hex.low) in
    put_first names 92 (120 ∷ h ∷ l ∷ bs) _ (escaped_front names h l bs apart hex) (hex.some, byte, holds names apart all is 2 (hex.high_mark, (hex.low_mark, tt)))
holds names apart all (Escaped h l bs hex is) (suc k) marks = absurd (marks.0 refl)
holds names apart all (Lone b bs n p is) zero marks =
    put_first names 92 (b ∷ bs) _ (lone_front names b bs apart n p) (omega arith, omega arith, plain_first names b bs all p (holds names apart all is))
holds names apart all (Lone b bs n p is) (suc k) marks = absurd (marks.0 refl)

home_marks : (rest : List ℕ) → NoMarks (length (codes "$HOME") - 1) (drop 1 (codes "$HOME" ++ rest))
home_marks rest = ((λ e. omega arith), ((λ e. omega arith), ((λ e. omega arith), ((λ e. omega arith), tt))))

user_marks : (rest : List ℕ) → NoMarks (length (codes "$USER") - 1) (drop 1 (codes "$USER" ++ rest))
user_marks rest = ((λ e. omega arith), ((λ e. omega arith), ((λ e. omega arith), ((λ e. omega arith), tt))))

cwd_marks : (rest : List ℕ) → NoMarks (length (codes "$CWD") - 1) (drop 1 (codes "$CWD" ++ rest))
cwd_marks rest = ((λ e. omega arith), ((λ e. omega arith), ((λ e. omega arith), tt)))

pub holds_bytes : (dollars : Dollars) (bs : List ℕ) → AreBytes dollars.home → AreBytes dollars.user → AreBytes dollars.cwd → IsInside bs → AreBytes (unquoted_from (dollar_names dollars) 0 bs)
holds_bytes dollars bs home user cwd is =
    holds (dollar_names dollars) (dollars_apart dollars)
    (record { bytes = home; no_marks = home_marks }, (record { bytes = user; no_marks = user_marks }, (record { bytes = cwd; no_marks = cwd_marks }, tt)))
    is 0 tt
