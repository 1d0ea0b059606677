-- The content of a quoted text of a script can be quoted, and so can a Word.
use Rattle.std.proofs.Common.{◌≡◌, ◌≢◌, ◌==◌, ◌<◌, ◌+◌, ◌-◌, ◌*◌, ◌||◌, ℕ, zero, suc, Bool, true, false, cond, if◌then◌else◌, ◌++◌, nat_eq, List, [], ◌∷◌, Some, None, refl, sym, ap, subst, arith}
use Rattle.std.proofs.lemmas.Bool.Decides.{nat_tests}
use Rattle.std.specs.Char.{digit_value}
use Rattle.std.specs.Prelude.{IfSome}
use Rattle.st_lex.specs.Pieces.{is_word_text}
use Rattle.st_lex.specs.Quote.{AreBytes}
use Rattle.st_lex.specs.Text.{inside, is_quoted, is_word, text_of_token}
use Rattle.st_lex.specs.Unquote.{Spelling, byte_escape, escape_or_backslash, plain_front, unquoted_from, unquoted_plain}
use Rattle.st_lex.specs.declared.token.Token.{Token}
use Rattle.st_lex.specs.declared.token.TokenKind.{TokenKind}
use Rattle.st_lex.specs.declared.token.TokenKind.TheVariants as kind
use Rattle.st_lex.proofs.Holdings.{NoMarks}
use Rattle.st_lex.proofs.Insides.{Escaped, IsInside, IsPlainByte, Lone, Marked, Nothing, Plain}
use Rattle.st_lex.proofs.Unquotes.{hex_byte-some}
use Rattle.st_lex.proofs.Wholes.{HasInside, IsWholeToken}
use Rattle.st_statements.specs.Parts.{quoted_at, word_at}
use Rattle.st_relearn.proofs.Texts.{bytes_append}
use Rattle.st_relearn.proofs.Writing.{word_text}

-- the bytes at the beginning, then what the rest spells
put_first : (b : ℕ) (bs : List ℕ) (front : Spelling) → plain_front (b ∷ bs) ≡ front → AreBytes front.text → AreBytes (unquoted_from [] (front.len - 1) bs) → AreBytes (unquoted_from [] 0 (b ∷ bs))
put_first b bs front e here rest =
    subst (λ (f : Spelling). AreBytes (f.text ++ unquoted_from [] (f.len - 1) bs)) (sym e) (bytes_append front.text (unquoted_from [] (front.len - 1) bs) here rest)

plain_is : (b : ℕ) (bs : List ℕ) → IsPlainByte b → plain_front (b ∷ bs) ≡ record { text = b ∷ []; len = 1 }
plain_is b bs p = let m : nat_eq b 92 ≡ false = grind (arith, nat_tests, p.no_mark) in rw m refl

lone_by : (b : ℕ) (bs : List ℕ) (m x : Bool) → ((b == 34) || (b == 92)) ≡ m → nat_eq b 120 ≡ x → b ≢ 120 → IsPlainByte b → cond m (record { text = b ∷ []; len = 2 }) (cond x (byte_escape bs) (escape_or_backslash None)) ≡ record { text = 92 ∷ []; len = 1 }
lone_by b bs true x e f n p = absurd (grind (arith, nat_tests, p.no_quote, p.no_mark))
lone_by b bs false true e f n p = absurd (grind (arith, nat_tests))
lone_by b bs false false e f n p = refl

-- the text between quotes spells bytes, after this many bytes that have no backslash
inside_plain : {bs : List ℕ} → IsInside bs → (k : ℕ) → NoMarks k bs → AreBytes (unquoted_from [] k bs)
inside_plain Nothing k marks = tt
inside_plain (Plain b bs p is) zero marks = put_first b bs (record { text = b ∷ []; len = 1 }) (plain_is b bs p) (p.some, p.byte, tt) (inside_plain is 0 tt)
inside_plain (Plain b bs p is) (suc k) marks = inside_plain is k marks.1
inside_plain (Marked b bs some small m is) zero marks =
    put_first 92 (b ∷ bs) (record { text = b ∷ []; len = 2 }) (rw m refl) (some, small, tt) (inside_plain is 0 tt)
inside_plain (Marked b bs some small m is) (suc k) marks = absurd (marks.0 refl)
inside_plain (Escaped h l bs hex is) zero marks =
    let byte : digit_value h * 16 + digit_value l < 256 = omega (arith, hex.high, hex.low) in
    put_first 92 (120 ∷ h ∷ l ∷ bs) (record { text = (digit_value h * 16 + digit_value l) ∷ []; len = 4 }) (ap escape_or_backslash (hex_byte-some h l hex.high hex.low)) (hex.some, byte, tt)
    (inside_plain is 2 (hex.high_mark, (hex.low_mark, tt)))
inside_plain (Escaped h l bs hex is) (suc k) marks = absurd (marks.0 refl)
inside_plain (Lone b bs n p is) zero marks =
    put_first 92 (b ∷ bs) (record { text = 92 ∷ []; len = 1 }) (lone_by b bs ((b == 34) || (b == 92)) (nat_eq b 120) refl refl n p) (omega arith, omega arith, tt)
    (put_first b bs (record { text = b ∷ []; len = 1 }) (plain_is b bs p) (p.some, p.byte, tt) (inside_plain is 0 tt))
inside_plain (Lone b bs n p is) (suc k) marks = absurd (marks.0 refl)

-- ---- tokens

-- the bytes of a Word token are a Word's, and the text between the quotes of a quoted token has no fault
abbrev pub IsGood : List ℕ → Token → Type 0
IsGood text token = IsWholeToken text token × HasInside text token

pub word_plain : (text : List ℕ) (token : Token) → IsGood text token → IfSome (word_at text token) AreBytes
word_plain text token good = by token.kind good.0 where
  by : (k : TokenKind) → (k ≡ kind.Word → is_word_text (text_of_token text token) ≡ true) → IfSome (if is_word k then Some (text_of_token text token) else None) AreBytes
  by kind.Word whole = word_text (text_of_token text token) (whole refl)
  by _ whole = tt

pub quoted_plain : (text : List ℕ) (token : Token) → IsGood text token → IfSome (quoted_at text token) AreBytes
quoted_plain text token good = by token.kind good.1 where
  by : (k : TokenKind) → (k ≡ kind.Quoted → IsInside (inside (text_of_token text token))) → IfSome (if is_quoted k then Some (unquoted_plain (text_of_token text token)) else None) AreBytes
  by kind.Quoted well = inside_plain (well refl) 0 tt
  by _ well = tt
