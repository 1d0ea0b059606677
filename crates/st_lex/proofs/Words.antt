-- Bytes that can be printed as a Word.
use Rattle.std.proofs.Common.{◌≡◌, ℕ, ◌+◌, ◌%◌, ◌^◌, ◌<◌, ◌≤◌, true, List, [], ◌∷◌, ◌++◌, length, refl, arith}
use Rattle.std.proofs.lemmas.Bool.{and_parts}
use Rattle.std.specs.Prelude.{decimal}
use Rattle.std.specs.List.{list_all}
use Rattle.std.proofs.lemmas.Bool.Decides.{nat_tests}
use Rattle.std.proofs.lemmas.Fmt.{decimal_by_steps}
use Rattle.st_lex.specs.Tokens.{is_word_byte}
use Rattle.st_lex.specs.Pieces.{is_word_text}

all_word-append : (xs ys : List ℕ) → list_all is_word_byte xs ≡ true → list_all is_word_byte ys ≡ true → list_all is_word_byte (xs ++ ys) ≡ true
all_word-append [] ys p q = q
all_word-append (x ∷ xs) ys p q =
    let h : (is_word_byte x ≡ true) × (list_all is_word_byte xs ≡ true) = and_parts (is_word_byte x) (list_all is_word_byte xs) p in
    let e : is_word_byte x ≡ true = h.0 in
    rw e (all_word-append xs ys h.1 q)

-- a Word followed by word bytes is a Word
pub is_word_text-append : (xs ys : List ℕ) → is_word_text xs ≡ true → list_all is_word_byte ys ≡ true → is_word_text (xs ++ ys) ≡ true
is_word_text-append [] ys p q = absurd (cc)
is_word_text-append (x ∷ xs) ys p q = all_word-append (x ∷ xs) ys p q

digit_byte : (n : ℕ) → n < 10 → is_word_byte (48 + n) ≡ true
digit_byte n h = grind (arith, nat_tests)

-- a number in decimal digits is a Word
pub is_word_text-decimal : (n : ℕ) → n < 2 ^ 64 → is_word_text (decimal n) ≡ true
is_word_text-decimal n h =
    let P : ℕ → List ℕ → Type 0 = λ m digits. is_word_text digits ≡ true in
    decimal_by_steps P
    (λ m l. let e : is_word_byte (48 + m) ≡ true = digit_byte m l in rw e refl)
    (λ m digits l p. let last : m % 10 < 10 = omega arith in is_word_text-append digits ((48 + m % 10) ∷ []) p (let e : is_word_byte (48 + m % 10) ≡ true = digit_byte (m % 10) last in rw e refl))
    n h

-- word bytes are a Word if there is at least one
pub word_bytes_are_word : (bytes : List ℕ) → 1 ≤ length bytes → list_all is_word_byte bytes ≡ is_word_text bytes
word_bytes_are_word [] some = absurd (omega (arith, some))
word_bytes_are_word (b ∷ bs) some = refl
