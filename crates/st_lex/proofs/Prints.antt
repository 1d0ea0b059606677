-- Bytes in their quoted form are one token.
use Rattle.std.proofs.Common.{◌≡◌, ℕ, ◌+◌, ◌-◌, ◌/◌, ◌%◌, ◌<◌, ◌≤◌, ◌≢◌, Bool, true, false, List, [], ◌∷◌, ◌++◌, length, Option, None, Some, refl, ap, sym, ◌∙◌, arith, nat_lt, cond, ◌==◌, ◌||◌, append_assoc}
use Rattle.std.proofs.lemmas.List.{length-append, drop_all}
use Rattle.std.proofs.lemmas.Bool.Decides.{nat_tests}
use Rattle.std.specs.Char.{is_ascii_hexdigit}
use Rattle.st_lex.specs.declared.token.Token.{Token}
use Rattle.st_lex.specs.declared.token.Front.TheVariants.{Piece}
use Rattle.st_lex.specs.declared.token.TokenKind.TheVariants.{Quoted}
use Rattle.st_lex.specs.Quoted.{closing_len, count_after, inner_fault, optional_fault_after, is_byte_escape}
use Rattle.st_lex.specs.Quote.{hex_digit, escaped_byte, quoted_byte, quoted_bytes, quoted, AreBytes, one_token}
use Rattle.st_lex.specs.Tokens.{tokens_from, lexed_text, quoted_front, front_of, with_token}
use Rattle.st_lex.proofs.Distances.{further-further, further-zero, later-later, later-zero}
use Rattle.st_lex.proofs.Scans.{closing_len-plain, closing_len-pair, inner_fault-plain, inner_fault-pair}
use Rattle.st_lex.proofs.Skips.{tokens_from-piece}

record IsDigit (n d : ℕ) : Type 0 where
  hex : is_ascii_hexdigit d ≡ true
  zero : d ≡ 48 → n ≡ 0
  quote : d ≢ 34
  newline : d ≢ 10
  backslash : d ≢ 92
  null : d ≢ 0

decimal : (n : ℕ) → n < 10 → IsDigit n (48 + n)
decimal n h = record {
  hex = grind (arith, nat_tests);
  zero = λ e. omega arith;
  quote = λ e. omega arith;
  newline = λ e. omega arith;
  backslash = λ e. omega arith;
  null = λ e. omega arith;
}

letter : (n : ℕ) → 10 ≤ n → n < 16 → IsDigit n (97 + (n - 10))
letter n l h = record {
  hex = grind (arith, nat_tests);
  zero = λ e. omega arith;
  quote = λ e. omega arith;
  newline = λ e. omega arith;
  backslash = λ e. omega arith;
  null = λ e. omega arith;
}

below_ten : (n : ℕ) → nat_lt n 10 ≡ true → n < 10
below_ten n e = grind (arith, nat_tests)

from_ten : (n : ℕ) → nat_lt n 10 ≡ false → 10 ≤ n
from_ten n e = grind (arith, nat_tests)

digit_by : (n : ℕ) (b : Bool) → nat_lt n 10 ≡ b → n < 16 → IsDigit n (cond b (48 + n) (97 + (n - 10)))
digit_by n true e h = decimal n (below_ten n e)
digit_by n false e h = letter n (from_ten n e) h

digit : (n : ℕ) → n < 16 → IsDigit n (hex_digit n)
digit n h = digit_by n (nat_lt n 10) refl h

-- the search for the closing quote and for faults skips these bytes, and adds their number to the offset
pub record Passes (xs : List ℕ) : Type 0 where
  pub closes : (rest : List ℕ) → closing_len (xs ++ rest) ≡ count_after (length xs) (closing_len rest)
  pub faults : (rest : List ℕ) → inner_fault (xs ++ rest) ≡ optional_fault_after (length xs) (inner_fault rest)

passes_plain : (b : ℕ) → b ≢ 34 → b ≢ 10 → b ≢ 92 → b ≢ 0 → Passes (b ∷ [])
passes_plain b q n s z = record {
  closes = λ rest. closing_len-plain b rest q n s;
  faults = λ rest. inner_fault-plain b rest q z s;
}

passes_pair : (b : ℕ) → b ≢ 10 → b ≢ 0 → b ≢ 120 → Passes (92 ∷ b ∷ [])
passes_pair b n z x = record {
  closes = λ rest. closing_len-pair b rest n;
  faults = λ rest. inner_fault-pair b rest z (λ e. absurd (x e));
}

is_escape : (h l : ℕ) (rest : List ℕ) → is_ascii_hexdigit h ≡ true → is_ascii_hexdigit l ≡ true → (h ≡ 48 → l ≡ 48 → ⊥) → is_byte_escape (h ∷ l ∷ rest) ≡ true
is_escape h l rest p q z = grind (arith, nat_tests)

passes_escape : (m n h l : ℕ) → IsDigit m h → IsDigit n l → (m ≡ 0 → n ≡ 0 → ⊥) → Passes (92 ∷ 120 ∷ h ∷ l ∷ [])
passes_escape m n h l d e z = record {
  closes = λ rest. closing_len-pair 120 (h ∷ l ∷ rest) (omega arith)
      ∙ ap (count_after 2) (closing_len-plain h (l ∷ rest) d.quote d.newline d.backslash ∙ ap (count_after 1) (closing_len-plain l rest e.quote e.newline e.backslash) ∙ further-further 1 1 (closing_len rest))
      ∙ further-further 2 2 (closing_len rest);
  faults = λ rest. inner_fault-pair 120 (h ∷ l ∷ rest) (omega arith) (λ _. is_escape h l rest d.hex e.hex (λ a b. z (d.zero a) (e.zero b)))
      ∙ ap (optional_fault_after 2) (inner_fault-plain h (l ∷ rest) d.quote d.null d.backslash ∙ ap (optional_fault_after 1) (inner_fault-plain l rest e.quote e.null e.backslash) ∙ later-later 1 1 (inner_fault rest))
      ∙ later-later 2 2 (inner_fault rest);
}

passes_escaped : (b : ℕ) → 0 < b → b < 256 → Passes (escaped_byte b)
passes_escaped b p h = passes_escape (b / 16) (b % 16) (hex_digit (b / 16)) (hex_digit (b % 16)) (digit (b / 16) (omega arith)) (digit (b % 16) (omega arith)) (λ x y. omega arith)

passes_by : (b : ℕ) (marked escaped : Bool) → 0 < b → b < 256 → ((b == 34) || (b == 92)) ≡ marked → ((b == 36) || (nat_lt b 0x20 || nat_lt 0x7e b)) ≡ escaped → Passes (cond marked (92 ∷ b ∷ []) (cond escaped (escaped_byte b) (b ∷ [])))
passes_by b true escaped p h m e = passes_pair b (grind (arith, nat_tests)) (omega arith) (grind (arith, nat_tests))
passes_by b false true p h m e = passes_escaped b p h
passes_by b false false p h m e = passes_plain b (grind (arith, nat_tests)) (grind (arith, nat_tests)) (grind (arith, nat_tests)) (omega arith)

passes_byte : (b : ℕ) → 0 < b → b < 256 → Passes (quoted_byte b)
passes_byte b p h = passes_by b ((b == 34) || (b == 92)) ((b == 36) || (nat_lt b 0x20 || nat_lt 0x7e b)) p h refl refl

passes_none : Passes []
passes_none = record { closes = λ rest. sym (further-zero (closing_len rest)); faults = λ rest. sym (later-zero (inner_fault rest)) }

passes_both : (xs ys : List ℕ) → Passes xs → Passes ys → Passes (xs ++ ys)
passes_both xs ys p q = record {
  closes = λ rest. ap closing_len (append_assoc xs ys rest) ∙ p.closes (ys ++ rest) ∙ ap (count_after (length xs)) (q.closes rest) ∙ further-further (length xs) (length ys) (closing_len rest) ∙ ap (λ (n : ℕ). count_after n (closing_len rest)) (sym (length-append xs ys));
  faults = λ rest. ap inner_fault (append_assoc xs ys rest) ∙ p.faults (ys ++ rest) ∙ ap (optional_fault_after (length xs)) (q.faults rest) ∙ later-later (length xs) (length ys) (inner_fault rest) ∙ ap (λ (n : ℕ). optional_fault_after n (inner_fault rest)) (sym (length-append xs ys));
}

pub passes_bytes : (bytes : List ℕ) → AreBytes bytes → Passes (quoted_bytes bytes)
passes_bytes [] a = passes_none
passes_bytes (b ∷ bs) a = passes_both (quoted_byte b) (quoted_bytes bs) (passes_byte b a.0 a.1) (passes_bytes bs a.2)

-- a quoted text that is closed by its last byte is one token
one_from : (q : List ℕ) → closing_len (q ++ 34 ∷ []) ≡ Some (length q + 1) → inner_fault (q ++ 34 ∷ []) ≡ None → lexed_text (34 ∷ (q ++ 34 ∷ [])) ≡ one_token (34 ∷ (q ++ 34 ∷ []))
one_from q c f =
    let k : ℕ = 1 + (length q + 1) in
    let text : List ℕ = 34 ∷ (q ++ 34 ∷ []) in
    let n : length (q ++ 34 ∷ []) ≡ length q + 1 = length-append q (34 ∷ []) in
    let front : Piece Quoted k ≡ front_of text = sym (ap (λ (o : Option ℕ). quoted_front o (inner_fault (q ++ 34 ∷ []))) c ∙ ap (quoted_front (Some (length q + 1))) f) in
    let T : ℕ → Token = λ len. record { kind = Quoted; at = 0; len = len; line = 1 } in
    let e : k ≡ length text = omega arith in
    tokens_from-piece Quoted k 0 1 34 (q ++ 34 ∷ []) front (omega arith) (omega arith)
    ∙ ap (λ (xs : List ℕ). with_token (T k) (tokens_from 0 (0 + k) 1 xs)) (drop_all k text (omega arith))
    ∙ ap (λ (len : ℕ). with_token (T len) (record { tokens = []; fault = None })) e

-- the quoted form of bytes is one token
pub lexed_text-quoted : (bytes : List ℕ) → AreBytes bytes → lexed_text (quoted bytes) ≡ one_token (quoted bytes)
lexed_text-quoted bytes a =
    let p : Passes (quoted_bytes bytes) = passes_bytes bytes a in
    one_from (quoted_bytes bytes) (p.closes (34 ∷ [])) (p.faults (34 ∷ []))
