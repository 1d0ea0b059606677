-- An argument vector with one more word.
use native.Mathlib.Omega.{arith}
use Rattle.std.proofs.Common.{◌≡◌, ◌<◌, ◌≤◌, ◌+◌, ◌/◌, ◌%◌, ◌==◌, ◌||◌, ℕ, suc, Bool, true, false, cond, nat_lt, nat_le, List, [], ◌∷◌, ◌++◌, length, drop, refl, ap, sym, ◌∙◌, length-append, append-nil, append_assoc}
use Rattle.std.proofs.lemmas.Bool.{ltb-true, leb-true, eqb-true, ne_eqb}
use Rattle.std.specs.Int.{w64, to_le_bytes}
use Rattle.std.specs.List.{concat, join_with_byte, list_any, take_while}
use Rattle.st_base.specs.declared.errno.Errno.TheVariants.{E2BIG}
use Rattle.st_calls.specs.declared.argument.PartKind.{PartKind}
use Rattle.st_model.specs.Spelling.{Spelled, Text, Fault, Pointer, Part, blank, bytes_before_part, is_zero, next_word, spell, spell_parts}
use Rattle.st_model.specs.declared.limits.TheConstants.{ARGV_PARTS, ARGV_BYTES}
use Rattle.st_model.proofs.Words.{length-concat}
use Rattle.st_translate.specs.Bytes.{bytes_at, ends_at, is_letter, letter_count, letters_at, next_word_byte}
use Rattle.st_translate.specs.Stage.{ReadsPart, ReadsPointer, text_added}
use Rattle.st_translate.specs.declared.stage.Vector.{Vector}
use Rattle.st_translate.specs.declared.stage.Stage.TheVariants as stage
use Rattle.st_translate.proofs.Texts.{length-letters_at}

-- ---- what tests choose

when_more : (b : Bool) (n : ℕ) (x y : Spelled) → (n == 0) ≡ b → 0 < n → cond b x y ≡ y
when_more true n x y t l = let e = eqb-true n 0 t in absurd (omega (arith, e, l))
when_more false n x y t l = refl

when_few : (b : Bool) (m n : ℕ) (x y : Spelled) → nat_le m n ≡ b → n < m → cond b x y ≡ y
when_few true m n x y t l = let f = leb-true m n t in absurd (omega (arith, f, l))
when_few false m n x y t l = refl

when_within : (b : Bool) (m n : ℕ) (x y : Spelled) → nat_lt m n ≡ b → n ≤ m → cond b x y ≡ y
when_within true m n x y t l = let f = ltb-true m n t in absurd (omega (arith, f, l))
when_within false m n x y t l = refl

-- ---- texts with blanks between them

-- what is appended to the last part is appended to the joined text
join-last : (parts : List (List ℕ)) (part more : List ℕ) → join_with_byte blank (parts ++ (part ++ more) ∷ []) ≡ join_with_byte blank (parts ++ part ∷ []) ++ more
join-last [] part more = refl
join-last (first ∷ []) part more = sym (append_assoc first (blank ∷ part) more)
join-last (first ∷ second ∷ parts) part more =
    ap (λ (bs : List ℕ). first ++ (blank ∷ bs)) (join-last (second ∷ parts) part more)
    ∙ sym (append_assoc first (blank ∷ join_with_byte blank (second ∷ (parts ++ part ∷ []))) more)

-- the text that comes before one more part: the parts so far, and a blank if there are any
blank_after : List (List ℕ) → List ℕ
blank_after [] = []
blank_after (first ∷ parts) = blank ∷ []

join-empty : (parts : List (List ℕ)) → join_with_byte blank (parts ++ [] ∷ []) ≡ join_with_byte blank parts ++ blank_after parts
unfolding blank_after
join-empty [] = refl
join-empty (first ∷ []) = refl
join-empty (first ∷ second ∷ parts) =
    ap (λ (bs : List ℕ). first ++ (blank ∷ bs)) (join-empty (second ∷ parts))
    ∙ sym (append_assoc first (blank ∷ join_with_byte blank (second ∷ parts)) (blank ∷ []))

blank_added : (parts : List (List ℕ)) (word : ℕ) (b : Bool) → (word == 0) ≡ b → 0 < word → cond (b || (length parts == 0)) [] (blank ∷ []) ≡ blank_after parts
unfolding blank_after
blank_added parts word true t l = let e = eqb-true word 0 t in absurd (omega (arith, e, l))
blank_added [] word false t l = refl
blank_added (first ∷ parts) word false t l = ap (λ (b : Bool). cond b [] (blank ∷ [])) (ne_eqb (length (first ∷ parts)) 0 (λ e. absurd (omega (arith, e))))

-- ---- a pointer

module _ {kind : PartKind} {at : ℕ} {words text : List ℕ} {vector : Vector} (r : ReadsPointer kind at words text vector) where
  -- the next pointer is needed, wherever it is
  pub pointer_goes_on : spell kind at words ≡ next_word (vector.pointer / 8)
  pointer_goes_on = ap (spell kind at) (sym (append-nil words)) ∙ r.onward [] ∙ ap next_word (sym r.place)

  pub part_begins : (word : ℕ) → 0 < word → vector.parts < ARGV_PARTS → ReadsPart kind at (words ++ word ∷ []) (text ++ text_added (stage.Pointer vector) word) word (record vector { pointer = vector.pointer + 8 })
  part_begins word some few = record {
    is_vector = r.is_vector;
    parts = r.parts;
    pointer = word;
    count_of_words = 0;
    part = [];
    onward = λ rest.
        (let count = r.count in
        ap (spell kind at) (append_assoc words (word ∷ []) rest)
        ∙ r.onward (word ∷ rest)
        ∙ when_more (word == 0) word (Text (join_with_byte blank r.parts)) _ refl some
        ∙ when_few (nat_le ARGV_PARTS (length r.parts)) ARGV_PARTS (length r.parts) (Fault E2BIG) (spell_parts (at / 8) r.parts (Part word 0 []) rest) refl (omega (arith, count, few)));
    here = omega arith;
    offset = refl;
    place = (let here = r.place in omega (arith, here));
    joined =
        ap (λ (n : ℕ). text ++ cond ((word == 0) || (n == 0)) [] (blank ∷ [])) r.count
        ∙ ap (λ (bs : List ℕ). text ++ bs) (blank_added r.parts word (word == 0) refl some)
        ∙ ap (λ (bs : List ℕ). bs ++ blank_after r.parts) r.joined
        ∙ sym (join-empty r.parts);
    count = r.count;
    bytes = (let its = r.bytes in omega (arith, its));
  }

-- ---- a word of a part

abbrev stepped : ℕ → List (List ℕ) → ℕ → ℕ → List ℕ → List ℕ → List ℕ → Spelled
stepped place parts pointer count part bytes rest =
    cond (nat_lt ARGV_BYTES (length (concat parts) + length (part ++ take_while is_letter bytes))) (Fault E2BIG)
    (cond (list_any is_zero bytes) (spell_parts place (parts ++ (part ++ take_while is_letter bytes) ∷ []) Pointer rest) (spell_parts place parts (Part pointer (count + 1) (part ++ take_while is_letter bytes)) rest))

before_more : (pointer count : ℕ) → bytes_before_part pointer (count + 1) ≡ 0
before_more pointer count = let e : suc count ≡ count + 1 = omega arith in ap (bytes_before_part pointer) (sym e)

module _ {kind : PartKind} {at : ℕ} {words text : List ℕ} {next : ℕ} {vector : Vector} (r : ReadsPart kind at words text next vector) where
  -- the next word is needed, wherever it is
  pub part_goes_on : spell kind at words ≡ next_word (next / 8)
  part_goes_on = ap (spell kind at) (sym (append-nil words)) ∙ r.onward [] ∙ ap next_word (sym r.here)

  part_step : (word : ℕ) (rest : List ℕ) → spell kind at ((words ++ word ∷ []) ++ rest) ≡ stepped (at / 8) r.parts r.pointer r.count_of_words r.part (bytes_at next word) rest
  part_step word rest =
      ap (spell kind at) (append_assoc words (word ∷ []) rest)
      ∙ r.onward (word ∷ rest)
      ∙ ap (λ (n : ℕ). stepped (at / 8) r.parts r.pointer r.count_of_words r.part (drop n (to_le_bytes w64 word)) rest) (sym r.offset)

  total : (word : ℕ) → length (concat r.parts) + length (r.part ++ letters_at next word) ≡ vector.bytes + letter_count next word
  total word =
      let its = r.bytes in
      let whole = length-append r.part (letters_at next word) in
      let added = length-letters_at next word in
      omega (arith, its, whole, added)

  within : (word : ℕ) (rest : List ℕ) → vector.bytes + letter_count next word ≤ ARGV_BYTES → spell kind at ((words ++ word ∷ []) ++ rest) ≡ cond (ends_at next word) (spell_parts (at / 8) (r.parts ++ (r.part ++ letters_at next word) ∷ []) Pointer rest) (spell_parts (at / 8) r.parts (Part r.pointer (r.count_of_words + 1) (r.part ++ letters_at next word)) rest)
  within word rest few =
      let its = total word in
      part_step word rest
      ∙ when_within (nat_lt ARGV_BYTES (length (concat r.parts) + length (r.part ++ letters_at next word))) ARGV_BYTES (length (concat r.parts) + length (r.part ++ letters_at next word)) (Fault E2BIG) _ refl (omega (arith, its, few))

  joined_with : (word : ℕ) → text ++ letters_at next word ≡ join_with_byte blank (r.parts ++ (r.part ++ letters_at next word) ∷ [])
  joined_with word = ap (λ (bs : List ℕ). bs ++ letters_at next word) r.joined ∙ sym (join-last r.parts r.part (letters_at next word))

  pub part_ends : (word : ℕ) → ends_at next word ≡ true → vector.bytes + letter_count next word ≤ ARGV_BYTES → ReadsPointer kind at (words ++ word ∷ []) (text ++ letters_at next word) (record { pointer = vector.pointer; parts = vector.parts + 1; bytes = vector.bytes + letter_count next word })
  part_ends word ends few = record {
    is_vector = r.is_vector;
    parts = r.parts ++ (r.part ++ letters_at next word) ∷ [];
    onward = λ rest.
        within word rest few
        ∙ ap (λ (b : Bool). cond b (spell_parts (at / 8) (r.parts ++ (r.part ++ letters_at next word) ∷ []) Pointer rest) (spell_parts (at / 8) r.parts (Part r.pointer (r.count_of_words + 1) (r.part ++ letters_at next word)) rest)) ends;
    place = (let here = r.place in let more = length-append r.parts ((r.part ++ letters_at next word) ∷ []) in omega (arith, here, more));
    joined = joined_with word;
    count = (let its = r.count in let more = length-append r.parts ((r.part ++ letters_at next word) ∷ []) in omega (arith, its, more));
    bytes = sym (length-concat r.parts (r.part ++ letters_at next word) ∙ total word);
  }

  pub part_further : (word : ℕ) → ends_at next word ≡ false → vector.bytes + letter_count next word ≤ ARGV_BYTES → ReadsPart kind at (words ++ word ∷ []) (text ++ letters_at next word) (next_word_byte next) (record vector { bytes = vector.bytes + letter_count next word })
  part_further word ends few = record {
    is_vector = r.is_vector;
    parts = r.parts;
    pointer = r.pointer;
    count_of_words = r.count_of_words + 1;
    part = r.part ++ letters_at next word;
    onward = λ rest.
        within word rest few
        ∙ ap (λ (b : Bool). cond b (spell_parts (at / 8) (r.parts ++ (r.part ++ letters_at next word) ∷ []) Pointer rest) (spell_parts (at / 8) r.parts (Part r.pointer (r.count_of_words + 1) (r.part ++ letters_at next word)) rest)) ends;
    here = (let its = r.here in omega (arith, its));
    offset = (let none : next_word_byte next % 8 ≡ 0 = omega arith in none ∙ sym (before_more r.pointer r.count_of_words));
    place = r.place;
    joined = joined_with word;
    count = r.count;
    bytes = sym (total word);
  }
