-- The bytes before the first zero byte, and what a text spells by their count.
use native.Mathlib.Omega.{arith}
use Rattle.std.proofs.Common.{◌≡◌, ◌<◌, ◌≤◌, ◌+◌, ◌/◌, ◌%◌, ℕ, zero, suc, Bool, true, false, cond, not, ◌||◌, nat_lt, List, [], ◌∷◌, ◌++◌, length, take, drop, get_or, min, Some, None, refl, ap, sym, ◌∙◌, ltb, eqb}
use Rattle.std.proofs.lemmas.Bool.{ltb-true, ltb-false, eqb-true, eqb-false, or_parts}
use Rattle.std.specs.Int.{w64, to_le_bytes}
use Rattle.std.specs.List.{position, prefix_len, flat_map, list_any}
use Rattle.std.proofs.lemmas.List.{drop-append-le, length-drop, length-take}
use Rattle.std.proofs.lemmas.List.Sums.{prefix_len-le-length, prefix_len_passes, prefix_len_stops}
use Rattle.std.proofs.lemmas.List.Folds.{prefix_len-append}
use Rattle.st_base.specs.declared.errno.Errno.TheVariants.{ENAMETOOLONG}
use Rattle.st_model.specs.Spelling.{Spelled, Text, Fault, bytes_of_words, is_zero, next_word, spell_text, text_before_zero}
use Rattle.st_translate.specs.Bytes.{bytes_at, is_letter, letter_count, next_word_byte}

-- ---- how many bytes come before the first zero byte

letters-take : (m : ℕ) (xs : List ℕ) → prefix_len is_letter (take m xs) ≡ min m (prefix_len is_letter xs)
letters-take zero xs = omega arith
letters-take (suc m) [] = omega arith
letters-take (suc m) (x ∷ xs) = by_first (is_letter x) (letters-take m xs) where
  by_first : (b : Bool) → prefix_len is_letter (take m xs) ≡ min m (prefix_len is_letter xs) → cond b (1 + prefix_len is_letter (take m xs)) 0 ≡ min (suc m) (cond b (1 + prefix_len is_letter xs) 0)
  by_first true rest = omega (arith, rest)
  by_first false rest = omega arith

chosen : (b : Bool) (n m x y : ℕ) → eqb n m ≡ b → n ≡ m → cond b x y ≡ x
chosen true n m x y t e = refl
chosen false n m x y t e = absurd (eqb-false n m t e)

-- after bytes none of which is zero
pub letters-append : (xs ys : List ℕ) → prefix_len is_letter xs ≡ length xs → prefix_len is_letter (xs ++ ys) ≡ length xs + prefix_len is_letter ys
letters-append xs ys e = prefix_len-append is_letter xs ys ∙ chosen (eqb (prefix_len is_letter xs) (length xs)) (prefix_len is_letter xs) (length xs) (length xs + prefix_len is_letter ys) (prefix_len is_letter xs) refl e

-- bytes none of which is zero are all before the first zero byte
pub letters_all : (bytes : List ℕ) → list_any is_zero bytes ≡ false → prefix_len is_letter bytes ≡ length bytes
letters_all [] e = refl
letters_all (x ∷ bytes) e =
    let parts = or_parts (is_zero x) (list_any is_zero bytes) e in
    let rest = letters_all bytes parts.1 in
    ap (λ (b : Bool). cond (not b) (1 + prefix_len is_letter bytes) 0) parts.0 ∙ omega (arith, rest)

pub letters_some : (bytes : List ℕ) → list_any is_zero bytes ≡ true → prefix_len is_letter bytes < length bytes
letters_some [] e = cc
letters_some (x ∷ bytes) e = by_first (is_zero x) e (λ h. letters_some bytes h) where
  by_first : (b : Bool) → (b || list_any is_zero bytes) ≡ true → (list_any is_zero bytes ≡ true → prefix_len is_letter bytes < length bytes) → cond (not b) (1 + prefix_len is_letter bytes) 0 < length (x ∷ bytes)
  by_first true h rest = omega arith
  by_first false h rest = let below = rest h in omega (arith, below)

-- ---- where the first zero byte is

picked : (b : Bool) (n m : ℕ) → ltb n m ≡ b → n < m → cond b (Some n) None ≡ Some n
picked true n m h l = refl
picked false n m h l = let f = ltb-false n m h in absurd (omega (arith, f))

left_out : (b : Bool) (n m : ℕ) → ltb n m ≡ b → m ≤ n → cond b (Some n) None ≡ None
left_out true n m h l = let f = ltb-true n m h in absurd (omega (arith, f))
left_out false n m h l = refl

position_some : (xs : List ℕ) → prefix_len is_letter xs < length xs → position is_zero xs ≡ Some (prefix_len is_letter xs)
position_some xs l = picked (ltb (prefix_len is_letter xs) (length xs)) (prefix_len is_letter xs) (length xs) refl l

position_none : (xs : List ℕ) → length xs ≤ prefix_len is_letter xs → position is_zero xs ≡ None
position_none xs l = left_out (ltb (prefix_len is_letter xs) (length xs)) (prefix_len is_letter xs) (length xs) refl l

-- ---- one byte further

some_zero : (bytes : List ℕ) → prefix_len is_letter bytes < length bytes → list_any is_zero bytes ≡ true
some_zero bytes l = by_test (list_any is_zero bytes) refl where
  by_test : (b : Bool) → list_any is_zero bytes ≡ b → list_any is_zero bytes ≡ true
  by_test true t = t
  by_test false t = let all = letters_all bytes t in absurd (omega (arith, all, l))

-- a zero byte after letters alone is the first zero byte
pub stops_at : (bytes : List ℕ) (i : ℕ) → i ≤ prefix_len is_letter bytes → i < length bytes → get_or bytes i 0 ≡ 0 → (i ≡ prefix_len is_letter bytes) × (list_any is_zero bytes ≡ true)
stops_at bytes i front below e = by_test (ltb i (prefix_len is_letter bytes)) refl where
  by_test : (b : Bool) → ltb i (prefix_len is_letter bytes) ≡ b → (i ≡ prefix_len is_letter bytes) × (list_any is_zero bytes ≡ true)
  by_test true t =
      let letter = prefix_len_passes is_letter bytes i 0 (ltb-true i (prefix_len is_letter bytes) t) in
      let zero = ap is_letter e in
      cc
  by_test false t = let late = ltb-false i (prefix_len is_letter bytes) t in (omega (arith, front, late), some_zero bytes (omega (arith, late, below)))

-- a byte that isn't zero is one more letter
pub goes_past : (bytes : List ℕ) (i : ℕ) → i ≤ prefix_len is_letter bytes → i < length bytes → (get_or bytes i 0 ≡ 0 → ⊥) → i + 1 ≤ prefix_len is_letter bytes
goes_past bytes i front below other = by_test (ltb i (prefix_len is_letter bytes)) refl where
  is_zero_there : (byte : ℕ) → is_letter byte ≡ false → byte ≡ 0
  is_zero_there byte e = by_first (eqb byte 0) refl where
    by_first : (b : Bool) → eqb byte 0 ≡ b → byte ≡ 0
    by_first true t = eqb-true byte 0 t
    by_first false t = let letter = ap not t in cc

  by_test : (b : Bool) → ltb i (prefix_len is_letter bytes) ≡ b → i + 1 ≤ prefix_len is_letter bytes
  by_test true t = let early = ltb-true i (prefix_len is_letter bytes) t in omega (arith, early)
  by_test false t =
      let late = ltb-false i (prefix_len is_letter bytes) t in
      let here : prefix_len is_letter bytes ≡ i = omega (arith, front, late) in
      let stops = prefix_len_stops is_letter bytes 0 (omega (arith, late, below)) in
      absurd (other (ap (λ (n : ℕ). get_or bytes n 0) (sym here) ∙ is_zero_there (get_or bytes (prefix_len is_letter bytes) 0) stops))

-- if all bytes are letters, none is zero
pub none_stops : (bytes : List ℕ) → length bytes ≤ prefix_len is_letter bytes → list_any is_zero bytes ≡ false
none_stops bytes l = by_test (list_any is_zero bytes) refl where
  by_test : (b : Bool) → list_any is_zero bytes ≡ b → list_any is_zero bytes ≡ false
  by_test true t = let some = letters_some bytes t in absurd (omega (arith, l, some))
  by_test false t = t

-- ---- what a text spells

if_long : (b : Bool) (longest count : ℕ) (x y : Spelled) → nat_lt longest count ≡ b → longest < count → cond b x y ≡ x
if_long true longest count x y t l = refl
if_long false longest count x y t l = let f = ltb-false longest count t in absurd (omega (arith, f))

if_short : (b : Bool) (longest count : ℕ) (x y : Spelled) → nat_lt longest count ≡ b → count ≤ longest → cond b x y ≡ y
if_short true longest count x y t l = let f = ltb-true longest count t in absurd (omega (arith, f))
if_short false longest count x y t l = refl

abbrev spelled_by : ℕ → ℕ → List ℕ → Spelled
spelled_by longest place bytes = text_before_zero longest bytes place (position is_zero (take (longest + 1) bytes))

long_bytes : (longest place : ℕ) (bytes : List ℕ) → longest < prefix_len is_letter bytes → spelled_by longest place bytes ≡ Fault ENAMETOOLONG
long_bytes longest place bytes l =
    let some = letters-take (longest + 1) bytes in
    let all = length-take (longest + 1) bytes in
    let within = prefix_len-le-length is_letter bytes in
    ap (text_before_zero longest bytes place) (position_none (take (longest + 1) bytes) (omega (arith, some, all, within, l)))
    ∙ if_long (nat_lt longest (length bytes)) longest (length bytes) (Fault ENAMETOOLONG) (next_word place) refl (omega (arith, within, l))

ended_bytes : (longest place : ℕ) (bytes : List ℕ) → prefix_len is_letter bytes ≤ longest → prefix_len is_letter bytes < length bytes → spelled_by longest place bytes ≡ Text (take (prefix_len is_letter bytes) bytes)
ended_bytes longest place bytes short some =
    let same : prefix_len is_letter (take (longest + 1) bytes) ≡ prefix_len is_letter bytes = (let taken = letters-take (longest + 1) bytes in omega (arith, taken, short)) in
    let all = length-take (longest + 1) bytes in
    ap (text_before_zero longest bytes place) (position_some (take (longest + 1) bytes) (omega (arith, same, all, short, some)) ∙ ap (λ (n : ℕ). Some n) same)

open_bytes : (longest place : ℕ) (bytes : List ℕ) → prefix_len is_letter bytes ≡ length bytes → length bytes ≤ longest → spelled_by longest place bytes ≡ next_word place
open_bytes longest place bytes e short =
    let taken = letters-take (longest + 1) bytes in
    let all = length-take (longest + 1) bytes in
    ap (text_before_zero longest bytes place) (position_none (take (longest + 1) bytes) (omega (arith, taken, all, e)))
    ∙ if_short (nat_lt longest (length bytes)) longest (length bytes) (Fault ENAMETOOLONG) (next_word place) refl short

same_bytes : (longest at : ℕ) (words bytes : List ℕ) → bytes_of_words at words ≡ bytes → spell_text longest at words ≡ spelled_by longest (at / 8 + length words) bytes
same_bytes longest at words bytes e = ap (λ (bs : List ℕ). spelled_by longest (at / 8 + length words) bs) e

-- more bytes than allowed come before a zero byte
pub long_text : (longest at : ℕ) (words bytes : List ℕ) → bytes_of_words at words ≡ bytes → longest < prefix_len is_letter bytes → spell_text longest at words ≡ Fault ENAMETOOLONG
long_text longest at words bytes e l = same_bytes longest at words bytes e ∙ long_bytes longest (at / 8 + length words) bytes l

-- a zero byte ends the text
pub ended_text : (longest at : ℕ) (words bytes : List ℕ) → bytes_of_words at words ≡ bytes → prefix_len is_letter bytes ≤ longest → prefix_len is_letter bytes < length bytes → spell_text longest at words ≡ Text (take (prefix_len is_letter bytes) bytes)
ended_text longest at words bytes e short some = same_bytes longest at words bytes e ∙ ended_bytes longest (at / 8 + length words) bytes short some

-- no byte is zero
pub open_text : (longest at : ℕ) (words bytes : List ℕ) → bytes_of_words at words ≡ bytes → prefix_len is_letter bytes ≡ length bytes → length bytes ≤ longest → spell_text longest at words ≡ next_word (at / 8 + length words)
open_text longest at words bytes e all short = same_bytes longest at words bytes e ∙ open_bytes longest (at / 8 + length words) bytes all short

-- ---- the bytes of a word

pub length-word : (word : ℕ) → length (to_le_bytes w64 word) ≡ 8
length-word word = refl

abbrev none : List ℕ
none = []

-- a word has at most eight letters
pub few_letters : (next word : ℕ) → letter_count next word ≤ 8
few_letters next word =
    let within = prefix_len-le-length is_letter (bytes_at next word) in
    let fewer = length-drop (next % 8) (to_le_bytes w64 word) in
    omega (arith, within, fewer)

drop_none : (n : ℕ) → drop n none ≡ none
drop_none zero = refl
drop_none (suc n) = refl

pub bytes_of_none : (next : ℕ) → bytes_of_words next [] ≡ []
bytes_of_none next = drop_none (next % 8)

-- the bytes of words are those of the first word, then those of the rest
pub bytes_of_words-cons : (next word : ℕ) (rest : List ℕ) → bytes_of_words next (word ∷ rest) ≡ bytes_at next word ++ bytes_of_words (next_word_byte next) rest
bytes_of_words-cons next word rest =
    let none : next_word_byte next % 8 ≡ 0 = omega arith in
    let low : next % 8 ≤ length (to_le_bytes w64 word) = omega arith in
    drop-append-le (next % 8) (to_le_bytes w64 word) (flat_map (to_le_bytes w64) rest) low
    ∙ ap (λ (n : ℕ). bytes_at next word ++ drop n (flat_map (to_le_bytes w64) rest)) (sym none)
