-- A text with one more word.
use native.Mathlib.Omega.{arith}
use Rattle.std.proofs.Common.{◌≡◌, ◌<◌, ◌≤◌, ◌+◌, ◌/◌, ℕ, Bool, true, false, cond, nat_le, List, [], ◌∷◌, ◌++◌, length, take, refl, ap, sym, ◌∙◌, length-append, append-nil, append_assoc}
use Rattle.std.proofs.lemmas.Bool.{leb-true, leb-false}
use Rattle.std.proofs.lemmas.List.Folds.{length-prefix_len}
use Rattle.std.proofs.lemmas.List.{take_all}
use Rattle.std.proofs.Math.Seq.{take-append-add}
use Rattle.std.specs.List.{prefix_len}
use Rattle.st_base.specs.declared.errno.Errno.TheVariants.{EFAULT, ENAMETOOLONG}
use Rattle.st_calls.specs.declared.argument.PartKind.{PartKind}
use Rattle.st_model.specs.Spelling.{Text, Fault, More, bytes_of_words, next_word, spell}
use Rattle.st_model.specs.declared.limits.TheConstants.{SPACE_WORDS}
use Rattle.st_translate.specs.Bytes.{bytes_at, ends_at, is_letter, letter_count, letters_at, next_word_byte}
use Rattle.st_translate.specs.Stage.{ReadsText}
use Rattle.st_translate.proofs.Letters.{bytes_of_none, bytes_of_words-cons, ended_text, letters-append, letters_all, letters_some, long_text, open_text}

-- an index in memory is next, and one outside is a fault
pub next_inside : (place : ℕ) → place < SPACE_WORDS → next_word place ≡ More place
next_inside place l = by_test (nat_le SPACE_WORDS place) refl where
  by_test : (b : Bool) → nat_le SPACE_WORDS place ≡ b → cond b (Fault EFAULT) (More place) ≡ More place
  by_test true t = let f = leb-true SPACE_WORDS place t in absurd (omega (arith, f))
  by_test false t = refl

pub next_outside : (place : ℕ) → SPACE_WORDS ≤ place → next_word place ≡ Fault EFAULT
next_outside place l = by_test (nat_le SPACE_WORDS place) refl where
  by_test : (b : Bool) → nat_le SPACE_WORDS place ≡ b → cond b (Fault EFAULT) (More place) ≡ Fault EFAULT
  by_test true t = refl
  by_test false t = let f = leb-false SPACE_WORDS place t in absurd (omega (arith, f))

-- if no byte of a word is zero, all its bytes come before the first zero byte
pub letters_at_all : (next word : ℕ) → ends_at next word ≡ false → letters_at next word ≡ bytes_at next word
letters_at_all next word e = let all = letters_all (bytes_at next word) e in take_all (letter_count next word) (bytes_at next word) (omega (arith, all))

pub length-letters_at : (next word : ℕ) → length (letters_at next word) ≡ letter_count next word
length-letters_at next word = length-prefix_len is_letter (bytes_at next word)

module _ {kind : PartKind} {at : ℕ} {words text : List ℕ} {next read longest : ℕ} (r : ReadsText kind at words text next read longest) where
  all_bytes : bytes_of_words at words ≡ text
  all_bytes = ap (bytes_of_words at) (sym (append-nil words)) ∙ r.bytes [] ∙ ap (λ (bs : List ℕ). text ++ bs) (bytes_of_none next) ∙ append-nil text

  bytes_with : (word : ℕ) → bytes_of_words at (words ++ word ∷ []) ≡ text ++ bytes_at next word
  bytes_with word =
      r.bytes (word ∷ [])
      ∙ ap (λ (bs : List ℕ). text ++ bs) (bytes_of_words-cons next word [] ∙ ap (λ (bs : List ℕ). bytes_at next word ++ bs) (bytes_of_none (next_word_byte next)) ∙ append-nil (bytes_at next word))

  letters_with : (word : ℕ) → prefix_len is_letter (text ++ bytes_at next word) ≡ read + letter_count next word
  letters_with word = letters-append text (bytes_at next word) r.letters ∙ ap (λ (n : ℕ). n + letter_count next word) (sym r.count)

  -- the next word is needed, wherever it is
  pub text_goes_on : read ≤ longest → spell kind at words ≡ next_word (next / 8)
  text_goes_on short =
      let count = r.count in
      r.is_text words ∙ open_text longest at words text all_bytes r.letters (omega (arith, count, short)) ∙ ap next_word (sym r.place)

  pub text_too_long : (word : ℕ) → longest < read + letter_count next word → spell kind at (words ++ word ∷ []) ≡ Fault ENAMETOOLONG
  text_too_long word long =
      let count = letters_with word in
      r.is_text (words ++ word ∷ []) ∙ long_text longest at (words ++ word ∷ []) (text ++ bytes_at next word) (bytes_with word) (omega (arith, count, long))

  pub text_ends : (word : ℕ) → ends_at next word ≡ true → read + letter_count next word ≤ longest → spell kind at (words ++ word ∷ []) ≡ Text (text ++ letters_at next word)
  text_ends word ends short =
      let count = letters_with word in
      let some = letters_some (bytes_at next word) ends in
      let whole = length-append text (bytes_at next word) in
      let its = r.count in
      r.is_text (words ++ word ∷ [])
      ∙ ended_text longest at (words ++ word ∷ []) (text ++ bytes_at next word) (bytes_with word) (omega (arith, count, short)) (omega (arith, count, some, whole, its))
      ∙ ap (λ (n : ℕ). Text (take n (text ++ bytes_at next word))) (count ∙ ap (λ (n : ℕ). n + letter_count next word) its)
      ∙ ap (λ (bs : List ℕ). Text bs) (take-append-add text (bytes_at next word) (letter_count next word))

  pub text_further : (word : ℕ) → ends_at next word ≡ false → ReadsText kind at (words ++ word ∷ []) (text ++ letters_at next word) (next_word_byte next) (read + letter_count next word) longest
  text_further word ends = record {
    is_text = r.is_text;
    bytes = λ rest.
        ap (bytes_of_words at) (append_assoc words (word ∷ []) rest)
        ∙ r.bytes (word ∷ rest)
        ∙ ap (λ (bs : List ℕ). text ++ bs) (bytes_of_words-cons next word rest)
        ∙ sym (append_assoc text (bytes_at next word) (bytes_of_words (next_word_byte next) rest))
        ∙ ap (λ (bs : List ℕ). (text ++ bs) ++ bytes_of_words (next_word_byte next) rest) (sym (letters_at_all next word ends));
    place = (let here = r.place in let more = length-append words (word ∷ []) in omega (arith, here, more));
    letters =
        (let count = letters_with word in
        let its = r.count in
        let all = letters_all (bytes_at next word) ends in
        let whole = length-append text (bytes_at next word) in
        ap (λ (bs : List ℕ). prefix_len is_letter (text ++ bs)) (letters_at_all next word ends)
        ∙ omega (arith, count, its, all, whole)
        ∙ ap (λ (bs : List ℕ). length (text ++ bs)) (sym (letters_at_all next word ends)));
    count =
        (let its = r.count in
        let added = length-letters_at next word in
        let whole = length-append text (letters_at next word) in
        omega (arith, its, added, whole));
  }
