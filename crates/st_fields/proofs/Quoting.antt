-- Quoted texts and hexadecimal digits, which are read again for any bytes.
use Rattle.std.proofs.Common.{◌≡◌, ◌≢◌, ℕ, ◌+◌, ◌-◌, ◌*◌, ◌/◌, ◌%◌, ◌<◌, Bool, true, false, ◌==◌, ◌||◌, ◌&&◌, cond, nat_eq, nat_lt, List, [], ◌∷◌, ◌++◌, length, take, drop, Some, refl, ap, ◌∙◌, append_assoc, arith}
use Rattle.std.proofs.lemmas.Bool.{and_from}
use Rattle.std.proofs.lemmas.Bool.Decides.{nat_tests}
use Rattle.std.proofs.lemmas.List.{take_at, drop_at, length-append}
use Rattle.std.specs.Char.{digit_value}
use Rattle.std.specs.List.{flat_map, list_all}
use Rattle.st_lex.specs.Quote.{hex_digit, escaped_byte, quoted_byte, quoted_bytes, quoted}
use Rattle.st_lex.specs.Quoted.{closing_len, count_after}
use Rattle.st_lex.specs.Text.{inside}
use Rattle.st_lex.specs.Unquote.{Spelling, byte_of_hex, escape_or_backslash, plain_front, unquoted_from, unquoted_plain}
use Rattle.st_lex.proofs.Distances.{further-further}
use Rattle.st_lex.proofs.Scans.{closing_len-plain, closing_len-pair, closing_len-quote}
use Rattle.st_lex.proofs.Unquotes.{hex_byte-some, unquoted_from-front}
use Rattle.st_report.specs.Fields.{bytes_field, bytes_word, hex_byte, text_field}
use Rattle.st_fields.specs.Words.{bytes_of_digits, bytes_of_word, is_inner}
use Rattle.st_fields.specs.Fields.{spelled_at, text_at}
use Rattle.st_written.specs.Written.{IsText}
use Rattle.st_fields.proofs.Fronts.{Stops}
use Rattle.st_fields.proofs.Spellings.{Spells, again}

-- ---- hexadecimal digits

-- a digit of this value is neither a quote, a newline, a backslash, a blank, a comma nor `-`
record IsHexDigit (n d : ℕ) : Type 0 where
  value : digit_value d ≡ n
  quote : d ≢ 34
  newline : d ≢ 10
  mark : d ≢ 92
  dash : d ≢ 45
  inner : is_inner d ≡ true

digit_by : (n : ℕ) (b : Bool) → nat_lt n 10 ≡ b → n < 16 → IsHexDigit n (cond b (48 + n) (97 + (n - 10)))
digit_by n true e h = record {
  value = grind (arith, nat_tests);
  quote = λ is. omega arith;
  newline = λ is. omega arith;
  mark = λ is. grind (arith, nat_tests);
  dash = λ is. omega arith;
  inner = grind (arith, nat_tests);
}
digit_by n false e h = record {
  value = grind (arith, nat_tests);
  quote = λ is. omega arith;
  newline = λ is. omega arith;
  mark = λ is. omega arith;
  dash = λ is. omega arith;
  inner = grind (arith, nat_tests);
}

digit : (n : ℕ) → n < 16 → IsHexDigit n (hex_digit n)
digit n h = digit_by n (nat_lt n 10) refl h

byte_again : (b : ℕ) → b < 256 → byte_of_hex (hex_digit (b / 16)) (hex_digit (b % 16)) ≡ Some b
byte_again b h =
    let high = digit (b / 16) (omega arith) in
    let low = digit (b % 16) (omega arith) in
    let whole : digit_value (hex_digit (b / 16)) * 16 + digit_value (hex_digit (b % 16)) ≡ b = rw (high.value, low.value) (omega arith) in
    hex_byte-some (hex_digit (b / 16)) (hex_digit (b % 16)) (omega (arith, high.value)) (omega (arith, low.value)) ∙ ap (λ (n : ℕ). Some n) whole

digits_again : (bytes : List ℕ) → IsText bytes → bytes_of_digits (flat_map hex_byte bytes) ≡ Some bytes
digits_again [] text = refl
digits_again (b ∷ bytes) text = rw (byte_again b text.0, digits_again bytes text.1) refl

digits_inner : (bytes : List ℕ) → IsText bytes → list_all is_inner (flat_map hex_byte bytes) ≡ true
digits_inner [] text = refl
digits_inner (b ∷ bytes) text =
    let high = digit (b / 16) (omega (arith, text.0)) in
    let low = digit (b % 16) (omega (arith, text.0)) in
    and_from (is_inner (hex_digit (b / 16))) (is_inner (hex_digit (b % 16)) && list_all is_inner (flat_map hex_byte bytes)) high.inner
    (and_from (is_inner (hex_digit (b % 16))) (list_all is_inner (flat_map hex_byte bytes)) low.inner (digits_inner bytes text.1))

some_bytes : (b : ℕ) (bytes : List ℕ) → IsText (b ∷ bytes) → bytes_of_word (flat_map hex_byte (b ∷ bytes)) ≡ Some (b ∷ bytes)
some_bytes b bytes text =
    let e : nat_eq (hex_digit (b / 16)) 45 ≡ false = let d = (digit (b / 16) (omega (arith, text.0))).dash in grind (arith, nat_tests) in
    rw e (digits_again (b ∷ bytes) text)

pub bytes_spell : (bytes : List ℕ) → IsText bytes → Spells bytes_of_word (bytes_word bytes) bytes
bytes_spell [] text = record { is = refl; inner = refl }
bytes_spell (b ∷ bytes) text = record { is = some_bytes b bytes text; inner = digits_inner (b ∷ bytes) text }

pub bytes_again : (bytes rest : List ℕ) → IsText bytes → Stops is_inner rest → spelled_at bytes_of_word (bytes_field bytes ++ rest) ≡ Some (bytes, rest)
bytes_again bytes rest text stops = again bytes_of_word (bytes_word bytes) bytes rest (bytes_spell bytes text) stops

-- ---- the closing quote

closes_escaped : (h l : ℕ) (rest : List ℕ) → h ≢ 34 → h ≢ 10 → h ≢ 92 → l ≢ 34 → l ≢ 10 → l ≢ 92 → closing_len (92 ∷ 120 ∷ h ∷ l ∷ rest) ≡ count_after 4 (closing_len rest)
closes_escaped h l rest hq hn hm lq ln lm =
    closing_len-pair 120 (h ∷ l ∷ rest) (λ e. omega arith)
    ∙ ap (count_after 2) (closing_len-plain h (l ∷ rest) hq hn hm ∙ ap (count_after 1) (closing_len-plain l rest lq ln lm) ∙ further-further 1 1 (closing_len rest))
    ∙ further-further 2 2 (closing_len rest)

closes_by : (b : ℕ) (rest : List ℕ) (marked escaped : Bool) → b < 256 → ((b == 34) || (b == 92)) ≡ marked → ((b == 36) || (nat_lt b 0x20 || nat_lt 0x7e b)) ≡ escaped →
    closing_len (cond marked (92 ∷ b ∷ []) (cond escaped (escaped_byte b) (b ∷ [])) ++ rest) ≡ count_after (length (cond marked (92 ∷ b ∷ []) (cond escaped (escaped_byte b) (b ∷ [])))) (closing_len rest)
closes_by b rest true escaped h m e = closing_len-pair b rest (grind (arith, nat_tests))
closes_by b rest false true h m e =
    let high = digit (b / 16) (omega arith) in
    let low = digit (b % 16) (omega arith) in
    closes_escaped (hex_digit (b / 16)) (hex_digit (b % 16)) rest high.quote high.newline high.mark low.quote low.newline low.mark
closes_by b rest false false h m e = closing_len-plain b rest (grind (arith, nat_tests)) (grind (arith, nat_tests)) (grind (arith, nat_tests))

closes_byte : (b : ℕ) (rest : List ℕ) → b < 256 → closing_len (quoted_byte b ++ rest) ≡ count_after (length (quoted_byte b)) (closing_len rest)
closes_byte b rest h = closes_by b rest ((b == 34) || (b == 92)) ((b == 36) || (nat_lt b 0x20 || nat_lt 0x7e b)) h refl refl

closes : (bytes rest : List ℕ) → IsText bytes → closing_len (quoted_bytes bytes ++ 34 ∷ rest) ≡ Some (length (quoted_bytes bytes) + 1)
closes [] rest text = closing_len-quote rest
closes (b ∷ bytes) rest text =
    let first : List ℕ = quoted_byte b in
    let others : List ℕ = quoted_bytes bytes in
    let sum : length first + (length others + 1) ≡ length (first ++ others) + 1 = omega (arith, length-append first others) in
    ap closing_len (append_assoc first others (34 ∷ rest)) ∙ closes_byte b (others ++ 34 ∷ rest) text.0
    ∙ ap (count_after (length first)) (closes bytes rest text.1) ∙ ap (λ (n : ℕ). Some n) sum

-- ---- what stands between the quotes

spells_by : (b : ℕ) (rest : List ℕ) (marked escaped : Bool) → b < 256 → ((b == 34) || (b == 92)) ≡ marked → ((b == 36) || (nat_lt b 0x20 || nat_lt 0x7e b)) ≡ escaped →
    plain_front (cond marked (92 ∷ b ∷ []) (cond escaped (escaped_byte b) (b ∷ [])) ++ rest) ≡ record { text = b ∷ []; len = length (cond marked (92 ∷ b ∷ []) (cond escaped (escaped_byte b) (b ∷ []))) }
spells_by b rest true escaped h m e = rw m refl
spells_by b rest false true h m e = ap escape_or_backslash (byte_again b h)
spells_by b rest false false h m e =
    let s : nat_eq b 92 ≡ false = grind (arith, nat_tests) in
    rw s refl

spells_byte : (b : ℕ) (rest : List ℕ) → b < 256 → plain_front (quoted_byte b ++ rest) ≡ record { text = b ∷ []; len = length (quoted_byte b) }
spells_byte b rest h = spells_by b rest ((b == 34) || (b == 92)) ((b == 36) || (nat_lt b 0x20 || nat_lt 0x7e b)) h refl refl

some_by : (b : ℕ) (marked escaped : Bool) → 0 < length (cond marked (92 ∷ b ∷ []) (cond escaped (escaped_byte b) (b ∷ [])))
some_by b true escaped = omega arith
some_by b false true = omega arith
some_by b false false = omega arith

unquoted_again : (bytes : List ℕ) → IsText bytes → unquoted_from [] 0 (quoted_bytes bytes) ≡ bytes
unquoted_again [] text = refl
unquoted_again (b ∷ bytes) text =
    let first : List ℕ = quoted_byte b in
    let others : List ℕ = quoted_bytes bytes in
    let front : plain_front (first ++ others) ≡ record { text = b ∷ []; len = length first } = spells_byte b others text.0 in
    let some : 0 < length first = some_by b ((b == 34) || (b == 92)) ((b == 36) || (nat_lt b 0x20 || nat_lt 0x7e b)) in
    let within : 0 < length (first ++ others) = omega (arith, some, length-append first others) in
    unquoted_from-front [] (length first) (first ++ others) within (ap (λ (s : Spelling). s.len) front) some
    ∙ ap (λ (s : Spelling). s.text ++ unquoted_from [] 0 (drop (length first) (first ++ others))) front
    ∙ ap (λ (xs : List ℕ). b ∷ unquoted_from [] 0 xs) (drop_at first others (length first) refl)
    ∙ ap (λ (xs : List ℕ). b ∷ xs) (unquoted_again bytes text.1)

inside-quotes : (q : List ℕ) → inside (34 ∷ (q ++ 34 ∷ [])) ≡ q
inside-quotes q =
    let n : length (34 ∷ (q ++ 34 ∷ [])) - 2 ≡ length q = omega (arith, length-append q (34 ∷ [])) in
    ap (λ (k : ℕ). take k (q ++ 34 ∷ [])) n ∙ take_at q (34 ∷ []) (length q) refl

plain_again : (bytes : List ℕ) → IsText bytes → unquoted_plain (quoted bytes) ≡ bytes
plain_again bytes text = ap (unquoted_from [] 0) (inside-quotes (quoted_bytes bytes)) ∙ unquoted_again bytes text

-- a quoted text is read again, whatever follows
pub text_again : (bytes rest : List ℕ) → IsText bytes → text_at (text_field bytes ++ rest) ≡ Some (bytes, rest)
unfolding text_at
text_again bytes rest text =
    let q : List ℕ = quoted_bytes bytes in
    let n : length (quoted bytes) ≡ length q + 1 + 1 = omega (arith, length-append q (34 ∷ [])) in
    let closing : closing_len ((q ++ 34 ∷ []) ++ rest) ≡ Some (length q + 1) = ap closing_len (append_assoc q (34 ∷ []) rest) ∙ closes bytes rest text in
    rw (closing, take_at (quoted bytes) rest (length q + 1 + 1) n, drop_at (quoted bytes) rest (length q + 1 + 1) n, plain_again bytes text) refl
