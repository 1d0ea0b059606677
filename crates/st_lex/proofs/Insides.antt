-- The bytes between the quotes of a quoted text without a fault.
use Rattle.std.proofs.Common.{zero, suc, ◌≡◌, ℕ, ◌+◌, ◌-◌, ◌*◌, ◌<◌, ◌≤◌, ◌≢◌, Bool, true, false, not, ◌==◌, ◌||◌, ◌&&◌, List, [], ◌∷◌, take, Option, None, Some, refl, ap, sym, subst, ◌∙◌, arith, nat_eq, nat_le, leb-true}
use Rattle.std.proofs.lemmas.Bool.{and_parts}
use Rattle.std.specs.Char.{digit_value, is_ascii_hexdigit}
use Rattle.std.specs.Int.{is_in_range}
use Rattle.std.specs.List.{AllByRecursion}
use Rattle.std.proofs.lemmas.Bool.Decides.{nat_tests}
use Rattle.st_lex.specs.declared.token.LexFault.{LexFault}
use Rattle.st_lex.specs.declared.token.LexFault.TheVariants.{BadByte, BadEscape}
use Rattle.st_lex.specs.Quoted.{closing_len, count_after, inner_fault, optional_fault_after, is_byte_escape}
use Rattle.st_lex.proofs.Runs.{tested}
use Rattle.st_lex.proofs.Scans.{closing_len-quote, closing_len-newline, closing_len-plain, closing_len-pair, inner_fault-zero, inner_fault-plain, inner_fault-pair, inner_fault-escape}

-- a byte that is neither a quote nor a backslash, nor zero
pub record IsPlainByte (b : ℕ) : Type 0 where
  pub some : 0 < b
  pub byte : b < 256
  pub no_quote : b ≢ 34
  pub no_mark : b ≢ 92

-- two hexadecimal digits of a byte that isn't zero
pub record IsHexByte (h l : ℕ) : Type 0 where
  pub high : digit_value h < 16
  pub low : digit_value l < 16
  pub some : 0 < digit_value h * 16 + digit_value l
  pub high_mark : h ≢ 92
  pub low_mark : l ≢ 92

-- plain bytes, and a backslash followed by a quote or another backslash, by `x` and two digits, or by a plain byte
pub data IsInside : List ℕ → Type 0 where
  Nothing : IsInside []
  Plain : (b : ℕ) (bs : List ℕ) → IsPlainByte b → IsInside bs → IsInside (b ∷ bs)
  Marked : (b : ℕ) (bs : List ℕ) → 0 < b → b < 256 → ((b == 34) || (b == 92)) ≡ true → IsInside bs → IsInside (92 ∷ b ∷ bs)
  Escaped : (h l : ℕ) (bs : List ℕ) → IsHexByte h l → IsInside (h ∷ l ∷ bs) → IsInside (92 ∷ 120 ∷ h ∷ l ∷ bs)
  Lone : (b : ℕ) (bs : List ℕ) → b ≢ 120 → IsPlainByte b → IsInside bs → IsInside (92 ∷ b ∷ bs)

by_test : (b n : ℕ) (P : Type 0) → (b ≡ n → P) → (b ≢ n → P) → (t : Bool) → nat_eq b n ≡ t → P
by_test b n P same other true e = same (grind (arith, nat_tests))
by_test b n P same other false e = other (grind (arith, nat_tests))

-- a case distinction: whether a byte equals this byte
byte_is : (b n : ℕ) (P : Type 0) → (b ≡ n → P) → (b ≢ n → P) → P
byte_is b n P same other = by_test b n P same other (nat_eq b n) refl

later-None : (k : ℕ) (o : Option LexFault) → optional_fault_after k o ≡ None → o ≡ None
later-None k None e = refl
later-None k (Some f) e = absurd (cc)

none_or : (o : Option ℕ) (n : ℕ) (P : Type 0) → o ≡ None → o ≡ Some n → P
none_or o n P e f = absurd (cc)

fault_or : (o : Option LexFault) (f : LexFault) (P : Type 0) → o ≡ Some f → o ≡ None → P
fault_or o f P e g = absurd (cc)

-- ---- where it closes

abbrev IsPositive : Option ℕ → Type 0
IsPositive None = Unit {0}
IsPositive (Some n) = 0 < n

further-positive : (k : ℕ) (o : Option ℕ) → 0 < k → IsPositive (count_after k o)
further-positive k None h = tt
further-positive k (Some n) h = omega (arith, h)

closing_len-positive : (bs : List ℕ) → IsPositive (closing_len bs)
closing_len-positive [] = tt
closing_len-positive (b ∷ []) = tested IsPositive (nat_eq b 34) (Some 1) None (λ _. omega arith) (λ _. tt)
closing_len-positive (b ∷ c ∷ cs) =
    tested IsPositive (nat_eq b 34) (Some 1) _ (λ _. omega arith)
    (λ _. tested IsPositive (nat_eq b 10) None _ (λ _. tt)
    (λ _. tested IsPositive (nat_eq b 92) _ _
    (λ _. tested IsPositive (nat_eq c 10) None _ (λ _. tt) (λ _. further-positive 2 (closing_len cs) (omega arith)))
    (λ _. further-positive 1 (closing_len (c ∷ cs)) (omega arith))))

-- the offset of the closing quote, after this many bytes
closes_after : (k n : ℕ) (o : Option ℕ) → IsPositive o → count_after k o ≡ Some (suc n) → (m : ℕ) × (k + m ≡ n) × (o ≡ Some (suc m))
closes_after k n None p e = absurd (cc)
closes_after k n (Some zero) p e = absurd (omega (arith, p))
closes_after k n (Some (suc m)) p e =
    let same : k + suc m ≡ suc n = cc in
    (m, omega (arith, same), refl)

-- ---- hexadecimal digits

pub record IsHexDigit (h : ℕ) : Type 0 where
  pub value : digit_value h < 16
  pub zero_is : digit_value h ≡ 0 → h ≡ 48
  pub low : 48 ≤ h
  pub high : h < 103
  pub no_mark : h ≢ 92

decimal_digit : (h : ℕ) → 48 ≤ h → h ≤ 57 → digit_value h ≡ h - 48
decimal_digit h a b = grind (arith, nat_tests)

capital_digit : (h : ℕ) → 65 ≤ h → h ≤ 70 → digit_value h ≡ h - 55
capital_digit h a b = grind (arith, nat_tests)

small_digit : (h : ℕ) → 97 ≤ h → h ≤ 102 → digit_value h ≡ h - 87
small_digit h a b = grind (arith, nat_tests)

in_range : (low high h : ℕ) → is_in_range low high h ≡ true → (low ≤ h) × (h ≤ high)
in_range low high h e =
    let p : (nat_le low h ≡ true) × (nat_le h high ≡ true) = and_parts (nat_le low h) (nat_le h high) e in
    (leb-true low h p.0, leb-true h high p.1)

from_or : (x y : Bool) (P : Type 0) → (x || y) ≡ true → (x ≡ true → P) → (y ≡ true → P) → P
from_or true y P e f g = f refl
from_or false y P e f g = g e

hex_digit : (h : ℕ) → is_ascii_hexdigit h ≡ true → IsHexDigit h
hex_digit h e =
    from_or (is_in_range 48 57 h || is_in_range 65 70 h) (is_in_range 97 102 h) (IsHexDigit h) e
    (λ x. from_or (is_in_range 48 57 h) (is_in_range 65 70 h) (IsHexDigit h) x
    (λ y. let r = in_range 48 57 h y in let v = decimal_digit h r.0 r.1 in record { value = omega arith; zero_is = λ z. omega arith; low = omega arith; high = omega arith; no_mark = λ z. omega arith })
    (λ y. let r = in_range 65 70 h y in let v = capital_digit h r.0 r.1 in record { value = omega arith; zero_is = λ z. omega arith; low = omega arith; high = omega arith; no_mark = λ z. omega arith }))
    (λ y. let r = in_range 97 102 h y in let v = small_digit h r.0 r.1 in record { value = omega arith; zero_is = λ z. omega arith; low = omega arith; high = omega arith; no_mark = λ z. omega arith })

not_both : (h l : ℕ) → not ((h == 48) && (l == 48)) ≡ true → h ≡ 48 → l ≡ 48 → ⊥
not_both h l e p q = grind (arith, nat_tests)

positive : (x y : ℕ) → (x ≡ 0 → y ≡ 0 → ⊥) → 0 < x * 16 + y
positive zero zero never = absurd (never refl refl)
positive zero (suc y) never = omega arith
positive (suc x) y never = omega arith

pub hex_byte_is : (h l : ℕ) → ((is_ascii_hexdigit h && is_ascii_hexdigit l) && not ((h == 48) && (l == 48))) ≡ true → IsHexDigit h × IsHexDigit l × IsHexByte h l
hex_byte_is h l e =
    let p = and_parts (is_ascii_hexdigit h && is_ascii_hexdigit l) (not ((h == 48) && (l == 48))) e in
    let q = and_parts (is_ascii_hexdigit h) (is_ascii_hexdigit l) p.0 in
    let a : IsHexDigit h = hex_digit h q.0 in
    let b : IsHexDigit l = hex_digit l q.1 in
    let some : 0 < digit_value h * 16 + digit_value l = positive (digit_value h) (digit_value l) (λ x y. not_both h l p.1 (a.zero_is x) (b.zero_is y)) in
    (a, b, record { high = a.value; low = b.value; some = some; high_mark = a.no_mark; low_mark = b.no_mark })

-- ---- quoted texts that are closed without a fault

-- if the text is closed and has no fault, `IsInside` holds of its bytes before the closing quote
abbrev pub Closes : List ℕ → Type 0
Closes bs = (n : ℕ) → closing_len bs ≡ Some (suc n) → inner_fault bs ≡ None → IsInside (take n bs)

closes_at_once : (b : ℕ) (bs : List ℕ) → b ≡ 34 → Closes (b ∷ bs)
closes_at_once b bs q n e f =
    let one : closing_len (b ∷ bs) ≡ Some 1 = ap (λ (x : ℕ). closing_len (x ∷ bs)) q ∙ closing_len-quote bs in
    let same : 1 ≡ suc n = cc in
    let first : 0 ≡ n = omega (arith, same) in
    subst (λ (k : ℕ). IsInside (take k (b ∷ bs))) first Nothing

closes_plain : (b : ℕ) (bs : List ℕ) → b < 256 → b ≢ 34 → b ≢ 10 → b ≢ 92 → Closes bs → Closes (b ∷ bs)
closes_plain b bs small q l m ih n e f =
    byte_is b 0 (IsInside (take n (b ∷ bs)))
    (λ z. fault_or (inner_fault (b ∷ bs)) (BadByte 0) (IsInside (take n (b ∷ bs))) (ap (λ (x : ℕ). inner_fault (x ∷ bs)) z ∙ inner_fault-zero bs) f)
    (λ z.
    let c = closes_after 1 n (closing_len bs) (closing_len-positive bs) (sym (closing_len-plain b bs q l m) ∙ e) in
    let inside : IsInside (take c.0 bs) = ih c.0 c.2 (later-None 1 (inner_fault bs) (sym (inner_fault-plain b bs q z m) ∙ f)) in
    let longer : suc c.0 ≡ n = omega (arith, c.1) in
    let some : 0 < b = omega arith in
    subst (λ (k : ℕ). IsInside (take k (b ∷ bs))) longer (Plain b (take c.0 bs) (record { some = some; byte = small; no_quote = q; no_mark = m }) inside))

-- after a backslash: a mark or a plain byte
pair_of : (c : ℕ) (bs : List ℕ) → c < 256 → c ≢ 0 → c ≢ 120 → IsInside bs → IsInside (92 ∷ c ∷ bs)
pair_of c bs small z x inside =
    let some : 0 < c = omega arith in
    byte_is c 34 (IsInside (92 ∷ c ∷ bs)) (λ q. Marked c bs some small (ap (λ (b : ℕ). (b == 34) || (b == 92)) q) inside)
    (λ q. byte_is c 92 (IsInside (92 ∷ c ∷ bs)) (λ m. Marked c bs some small (ap (λ (b : ℕ). (b == 34) || (b == 92)) m) inside)
    (λ m. Lone c bs x (record { some = some; byte = small; no_quote = q; no_mark = m }) inside))

-- after `\x`: two digits, which don't close the text
escape_of : (cs : List ℕ) (m : ℕ) → is_byte_escape cs ≡ true → closing_len cs ≡ Some (suc m) → IsInside (take m cs) → IsInside (92 ∷ 120 ∷ take m cs)
escape_of [] m x e inside = absurd (cc)
escape_of (h ∷ []) m x e inside = absurd (cc)
escape_of (h ∷ l ∷ rest) m x e inside =
    let digits = hex_byte_is h l x in
    let a = closes_after 1 m (closing_len (l ∷ rest)) (closing_len-positive (l ∷ rest)) (sym (closing_len-plain h (l ∷ rest) (λ z. omega (arith, digits.0.low)) (λ z. omega (arith, digits.0.low)) digits.0.no_mark) ∙ e) in
    let b = closes_after 1 a.0 (closing_len rest) (closing_len-positive rest) (sym (closing_len-plain l rest (λ z. omega (arith, digits.1.low)) (λ z. omega (arith, digits.1.low)) digits.1.no_mark) ∙ a.2) in
    let longer : suc (suc b.0) ≡ m = omega (arith, a.1, b.1) in
    subst (λ (k : ℕ). IsInside (92 ∷ 120 ∷ take k (h ∷ l ∷ rest))) longer
    (Escaped h l (take b.0 rest) digits.2 (subst (λ (k : ℕ). IsInside (take k (h ∷ l ∷ rest))) (sym longer) inside))

by_escape : (cs : List ℕ) (m : ℕ) (t : Bool) → is_byte_escape cs ≡ t → inner_fault (92 ∷ 120 ∷ cs) ≡ None → closing_len cs ≡ Some (suc m) → (inner_fault cs ≡ None → IsInside (take m cs)) → IsInside (92 ∷ 120 ∷ take m cs)
by_escape cs m true x f e ih =
    escape_of cs m x e (ih (later-None 2 (inner_fault cs) (sym (inner_fault-pair 120 cs (λ z. omega arith) (λ _. x)) ∙ f)))
by_escape cs m false x f e ih = fault_or (inner_fault (92 ∷ 120 ∷ cs)) (BadEscape 0) (IsInside (92 ∷ 120 ∷ take m cs)) (inner_fault-escape cs x) f

pair_closed : (c : ℕ) (cs : List ℕ) (m : ℕ) → c < 256 → c ≢ 0 → inner_fault (92 ∷ c ∷ cs) ≡ None → closing_len cs ≡ Some (suc m) → (inner_fault cs ≡ None → IsInside (take m cs)) → IsInside (92 ∷ c ∷ take m cs)
pair_closed c cs m small z f e ih =
    byte_is c 120 (IsInside (92 ∷ c ∷ take m cs))
    (λ x. subst (λ (b : ℕ). IsInside (92 ∷ b ∷ take m cs)) (sym x) (by_escape cs m (is_byte_escape cs) refl (ap (λ (b : ℕ). inner_fault (92 ∷ b ∷ cs)) (sym x) ∙ f) e ih))
    (λ x. pair_of c (take m cs) small z x (ih (later-None 2 (inner_fault cs) (sym (inner_fault-pair c cs z (λ y. absurd (x y))) ∙ f))))

closes_pair : (c : ℕ) (cs : List ℕ) → c < 256 → Closes cs → Closes (92 ∷ c ∷ cs)
closes_pair c cs small ih n e f =
    let P : Type 0 = IsInside (take n (92 ∷ c ∷ cs)) in
    byte_is c 10 P (λ l. none_or (closing_len (92 ∷ c ∷ cs)) (suc n) P (ap (λ (x : ℕ). closing_len (92 ∷ x ∷ cs)) l) e)
    (λ l. byte_is c 0 P (λ z. fault_or (inner_fault (92 ∷ c ∷ cs)) (BadByte 1) P (ap (λ (x : ℕ). inner_fault (92 ∷ x ∷ cs)) z) f)
    (λ z.
    let b = closes_after 2 n (closing_len cs) (closing_len-positive cs) (sym (closing_len-pair c cs l) ∙ e) in
    let longer : suc (suc b.0) ≡ n = omega (arith, b.1) in
    subst (λ (k : ℕ). IsInside (take k (92 ∷ c ∷ cs))) longer (pair_closed c cs b.0 small z f b.2 (ih b.0 b.2))))

-- the step for any first byte
closes_first : (b c : ℕ) (cs : List ℕ) → b < 256 → c < 256 → Closes cs → Closes (c ∷ cs) → Closes (b ∷ c ∷ cs)
closes_first b c cs small next pair rest n e f =
    let P : Type 0 = IsInside (take n (b ∷ c ∷ cs)) in
    byte_is b 34 P (λ q. closes_at_once b (c ∷ cs) q n e f)
    (λ q. byte_is b 10 P (λ l. none_or (closing_len (b ∷ c ∷ cs)) (suc n) P (ap (λ (x : ℕ). closing_len (x ∷ c ∷ cs)) l ∙ closing_len-newline (c ∷ cs)) e)
    (λ l. byte_is b 92 P (λ m. subst (λ (x : ℕ). Closes (x ∷ c ∷ cs)) (sym m) (closes_pair c cs next pair) n e f)
    (λ m. closes_plain b (c ∷ cs) small q l m rest n e f)))

pub closing_len-one : (b : ℕ) → b ≢ 34 → closing_len (b ∷ []) ≡ None
closing_len-one b q = grind (arith, nat_tests)

-- `IsInside` holds of the bytes between the quotes of a quoted text without a fault
pub closed_inside : (bs : List ℕ) → AllByRecursion (λ b. b < 256) bs → Closes bs
closed_inside [] small n e f = absurd (cc)
closed_inside (b ∷ []) small n e f =
    let P : Type 0 = IsInside (take n (b ∷ [])) in
    byte_is b 34 P (λ q. closes_at_once b [] q n e f) (λ q. none_or (closing_len (b ∷ [])) (suc n) P (closing_len-one b q) e)
closed_inside (b ∷ c ∷ cs) small n e f = closes_first b c cs small.0 small.1.0 (closed_inside cs small.1.1) (closed_inside (c ∷ cs) small.1) n e f
