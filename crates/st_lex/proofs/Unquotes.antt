-- The text that the bytes between quotes spell, front by front, and a proof that quoted forms are read back.
use Rattle.std.proofs.Common.{zero, suc, ◌≡◌, ℕ, ◌+◌, ◌-◌, ◌*◌, ◌/◌, ◌%◌, ◌<◌, ◌≢◌, Bool, true, false, ◌==◌, ◌||◌, ◌&&◌, List, [], ◌∷◌, ◌++◌, length, take, drop, Option, None, Some, refl, ap, sym, ◌∙◌, arith, nat_eq, nat_lt, cond, append_assoc}
use Rattle.std.specs.Char.{digit_value}
use Rattle.std.proofs.lemmas.List.{drop-drop, length-append}
use Rattle.std.proofs.lemmas.Bool.Decides.{nat_tests}
use Rattle.st_lex.specs.declared.unquoted.Dollars.{Dollars}
use Rattle.st_lex.specs.Quote.{hex_digit, escaped_byte, quoted_byte, quoted_bytes, quoted, AreBytes}
use Rattle.st_lex.specs.Text.{inside}
use Rattle.st_lex.specs.Unquote.{Named, Spelling, byte_of_hex, escape_or_backslash, plain_front, named_front, dollar_names, unquoted_from, unquoted, unquoted_plain}
use Rattle.st_lex.proofs.Fronts.{take_front, drop_front}

-- bytes that belong to the previous front are skipped
pub unquoted_from-skip : (names : List Named) (k : ℕ) (bytes : List ℕ) → unquoted_from names k bytes ≡ unquoted_from names 0 (drop k bytes)
unquoted_from-skip names zero bytes = refl
unquoted_from-skip names (suc k) [] = refl
unquoted_from-skip names (suc k) (b ∷ bs) = unquoted_from-skip names k bs

-- the text that the front spells comes first
pub unquoted_from-front : (names : List Named) (k : ℕ) (bytes : List ℕ) → 0 < length bytes → (named_front names bytes).len ≡ k → 0 < k → unquoted_from names 0 bytes ≡ (named_front names bytes).text ++ unquoted_from names 0 (drop k bytes)
unquoted_from-front names k [] h e p = absurd (omega arith)
unquoted_from-front names zero (b ∷ bs) h e p = absurd (omega arith)
unquoted_from-front names (suc k) (b ∷ bs) h e p =
    let F : ℕ → List ℕ = λ n. (named_front names (b ∷ bs)).text ++ unquoted_from names n bs in
    let n : (named_front names (b ∷ bs)).len - 1 ≡ k = omega (arith, e) in
    ap F n ∙ ap (λ (xs : List ℕ). (named_front names (b ∷ bs)).text ++ xs) (unquoted_from-skip names k bs)

-- the text so far, extended by what the front at an offset spells
pub front_at : (names : List Named) (whole text next bytes part : List ℕ) (at k : ℕ) → part ≡ drop at bytes → 0 < length part → whole ≡ text ++ unquoted_from names 0 (drop at bytes) → (named_front names part).len ≡ k → 0 < k → next ≡ text ++ (named_front names part).text → whole ≡ next ++ unquoted_from names 0 (drop (at + k) bytes)
front_at names whole text next bytes part at k cut inside same len some is =
    let f : List ℕ = (named_front names part).text in
    let rest : List ℕ = unquoted_from names 0 (drop (at + k) bytes) in
    let split : unquoted_from names 0 part ≡ f ++ rest = unquoted_from-front names k part inside len some ∙ ap (λ (xs : List ℕ). f ++ unquoted_from names 0 xs) (ap (drop k) cut ∙ drop-drop k at bytes) in
    same ∙ ap (λ (xs : List ℕ). text ++ unquoted_from names 0 xs) (sym cut) ∙ ap (λ (xs : List ℕ). text ++ xs) split
    ∙ sym (append_assoc text f rest) ∙ ap (λ (xs : List ℕ). xs ++ rest) (sym is)

-- these bytes spell one byte
record Spells (names : List Named) (spelled : List ℕ) (b : ℕ) : Type 0 where
  first : (rest : List ℕ) → named_front names (spelled ++ rest) ≡ record { text = b ∷ []; len = length spelled }
  some : 0 < length spelled

-- names make no difference at a byte that isn't a dollar sign
abbrev pub AreApart : List Named → Type 0
AreApart names = (b : ℕ) (bs : List ℕ) → b ≢ 36 → named_front names (b ∷ bs) ≡ plain_front (b ∷ bs)

pub none_apart : AreApart []
none_apart b bs n = refl

pub dollars_apart : (dollars : Dollars) → AreApart (dollar_names dollars)
dollars_apart dollars b bs n = let e : nat_eq 36 b ≡ false = grind (arith, nat_tests) in rw e (refl {a = plain_front (b ∷ bs)})

digit_by : (n : ℕ) (b : Bool) → nat_lt n 10 ≡ b → n < 16 → digit_value (cond b (48 + n) (97 + (n - 10))) ≡ n
digit_by n true e h = grind (arith, nat_tests)
digit_by n false e h = grind (arith, nat_tests)

digit : (n : ℕ) → n < 16 → digit_value (hex_digit n) ≡ n
digit n h = digit_by n (nat_lt n 10) refl h

byte_of : ℕ → ℕ → Option ℕ
byte_of m n = cond (nat_lt m 16 && nat_lt n 16) (Some (m * 16 + n)) None

byte_of-digits : (m n : ℕ) → m < 16 → n < 16 → byte_of m n ≡ Some (m * 16 + n)
unfolding byte_of
byte_of-digits m n h l =
    let t : nat_lt m 16 ≡ true = grind (arith, nat_tests) in
    let u : nat_lt n 16 ≡ true = grind (arith, nat_tests) in
    rw (t, u) refl

hex_byte-values : (x y m n : ℕ) → digit_value x ≡ m → digit_value y ≡ n → byte_of_hex x y ≡ byte_of m n
unfolding byte_of
hex_byte-values x y m n e f = ap (λ (a : ℕ). byte_of a (digit_value y)) e ∙ ap (byte_of m) f

pub hex_byte-some : (x y : ℕ) → digit_value x < 16 → digit_value y < 16 → byte_of_hex x y ≡ Some (digit_value x * 16 + digit_value y)
hex_byte-some x y h l = hex_byte-values x y (digit_value x) (digit_value y) refl refl ∙ byte_of-digits (digit_value x) (digit_value y) h l

hex_byte-digits : (m n : ℕ) → m < 16 → n < 16 → byte_of_hex (hex_digit m) (hex_digit n) ≡ Some (m * 16 + n)
hex_byte-digits m n h l = hex_byte-values (hex_digit m) (hex_digit n) m n (digit m h) (digit n l) ∙ byte_of-digits m n h l

spells_escaped : (names : List Named) (b : ℕ) → AreApart names → b < 256 → Spells names (escaped_byte b) b
spells_escaped names b apart h =
    let high : ℕ = hex_digit (b / 16) in
    let low : ℕ = hex_digit (b % 16) in
    let whole : b / 16 * 16 + b % 16 ≡ b = omega arith in
    let byte : byte_of_hex high low ≡ Some b = hex_byte-digits (b / 16) (b % 16) (omega arith) (omega arith) ∙ ap (λ (n : ℕ). Some n) whole in
    record {
      first = λ rest. apart 92 (120 ∷ high ∷ low ∷ rest) (λ e. absurd (omega arith)) ∙ ap escape_or_backslash byte;
      some = omega arith;
    }

spells_by : (names : List Named) (b : ℕ) (marked escaped : Bool) → AreApart names → b < 256 → ((b == 34) || (b == 92)) ≡ marked → ((b == 36) || (nat_lt b 0x20 || nat_lt 0x7e b)) ≡ escaped → Spells names (cond marked (92 ∷ b ∷ []) (cond escaped (escaped_byte b) (b ∷ []))) b
spells_by names b true escaped apart h m e = record { first = λ rest. apart 92 (b ∷ rest) (λ x. absurd (omega arith)) ∙ rw m refl; some = omega arith }
spells_by names b false true apart h m e = spells_escaped names b apart h
spells_by names b false false apart h m e =
    let n : b ≢ 36 = grind (arith, nat_tests) in
    let s : nat_eq b 92 ≡ false = grind (arith, nat_tests) in
    record { first = λ rest. apart b rest n ∙ rw s refl; some = omega arith }

spells : (names : List Named) (b : ℕ) → AreApart names → b < 256 → Spells names (quoted_byte b) b
spells names b apart h = spells_by names b ((b == 34) || (b == 92)) ((b == 36) || (nat_lt b 0x20 || nat_lt 0x7e b)) apart h refl refl

spelled_first : (names : List Named) (spelled rest : List ℕ) (b : ℕ) → Spells names spelled b → unquoted_from names 0 (spelled ++ rest) ≡ b ∷ unquoted_from names 0 rest
spelled_first names spelled rest b s =
    let inside : 0 < length (spelled ++ rest) = omega (arith, s.some, length-append spelled rest) in
    unquoted_from-front names (length spelled) (spelled ++ rest) inside (ap (λ (x : Spelling). x.len) (s.first rest)) s.some
    ∙ ap (λ (x : Spelling). x.text ++ unquoted_from names 0 (drop (length spelled) (spelled ++ rest))) (s.first rest)
    ∙ ap (λ (xs : List ℕ). b ∷ unquoted_from names 0 xs) (drop_front spelled rest)

unquoted_from-quoted : (names : List Named) (bytes : List ℕ) → AreApart names → AreBytes bytes → unquoted_from names 0 (quoted_bytes bytes) ≡ bytes
unquoted_from-quoted names [] apart a = refl
unquoted_from-quoted names (b ∷ bs) apart a =
    spelled_first names (quoted_byte b) (quoted_bytes bs) b (spells names b apart a.1) ∙ ap (λ (xs : List ℕ). b ∷ xs) (unquoted_from-quoted names bs apart a.2)

inside-marks : (q : List ℕ) → inside (34 ∷ (q ++ 34 ∷ [])) ≡ q
inside-marks q =
    let n : length (34 ∷ (q ++ 34 ∷ [])) - 2 ≡ length q = omega (arith, length-append q (34 ∷ [])) in
    ap (λ (k : ℕ). take k (q ++ 34 ∷ [])) n ∙ take_front q (34 ∷ [])

-- the quoted form of bytes is read back as these bytes, whether names are replaced or not
pub unquoted-quoted : (dollars : Dollars) (bytes : List ℕ) → AreBytes bytes → unquoted dollars (quoted bytes) ≡ bytes
unquoted-quoted dollars bytes a =
    ap (unquoted_from (dollar_names dollars) 0) (inside-marks (quoted_bytes bytes)) ∙ unquoted_from-quoted (dollar_names dollars) bytes (dollars_apart dollars) a

pub unquoted_plain-quoted : (bytes : List ℕ) → AreBytes bytes → unquoted_plain (quoted bytes) ≡ bytes
unquoted_plain-quoted bytes a = ap (unquoted_from [] 0) (inside-marks (quoted_bytes bytes)) ∙ unquoted_from-quoted [] bytes none_apart a
