-- Bounds on the words that spell a text, and on its length.
use native.Mathlib.Omega.{arith}
use Rattle.std.proofs.lemmas.Bool.{ltb-false}
use Rattle.std.proofs.Common.{◌≡◌, ◌≤◌, ℕ, suc, ◌+◌, ◌-◌, ◌*◌, ◌==◌, ◌/◌, ◌%◌, Bool, true, false, cond, nat_lt, nat_le, List, [], ◌∷◌, length, flat_map, position, Option, Some, None, refl, ◌++◌, length-append, min, ◌∙◌, take}
use Rattle.std.proofs.lemmas.List.{length-drop, length-take}
use Rattle.std.proofs.lemmas.List.Quantifiers.{position-Some}
use Rattle.std.specs.Int.{w64, to_le_bytes}
use Rattle.st_base.proofs.Words.{length-bytes_of_words}
use Rattle.st_base.specs.declared.errno.Errno.TheVariants.{EFAULT, ENAMETOOLONG}
use Rattle.st_model.specs.Spelling.{Text, Fault, More, spell_text, spell_name, bytes_of_words, text_before_zero}
use Rattle.st_names.specs.declared.limits.TheConstants.{LONGEST_NAME}
use Rattle.st_model.specs.declared.limits.TheConstants.{SPACE_WORDS}

-- the bytes of words are all bytes except those before byte `at`
length_bytes : (at : ℕ) (words : List ℕ) → 8 * length words ≤ length (bytes_of_words at words) + 7
length_bytes at words =
    let bytes : length (flat_map (to_le_bytes w64) words) ≡ 8 * length words = length-bytes_of_words words in
    let less : length (bytes_of_words at words) ≡ length (flat_map (to_le_bytes w64) words) - at % 8 = length-drop (at % 8) (flat_map (to_le_bytes w64) words) in
    omega (arith, bytes, less)

in_space : (place next : ℕ) (b : Bool) → cond b (Fault EFAULT) (More place) ≡ More next → place ≡ next
in_space place next true e = cc
in_space place next false e = cc

not_long : (longest place next count : ℕ) (b : Bool) → nat_lt longest count ≡ b → cond b (Fault ENAMETOOLONG) (cond (nat_le SPACE_WORDS place) (Fault EFAULT) (More place)) ≡ More next → (count ≤ longest) × (place ≡ next)
not_long longest place next count true long e = cc
not_long longest place next count false long e = (ltb-false _ _ long, in_space place next (nat_le SPACE_WORDS place) e)

by_end : (longest : ℕ) (bytes : List ℕ) (place next : ℕ) (o : Option ℕ) → text_before_zero longest bytes place o ≡ More next → (length bytes ≤ longest) × (place ≡ next)
by_end longest bytes place next (Some end) e = cc
by_end longest bytes place next None e = not_long longest place next (length bytes) (nat_lt longest (length bytes)) refl e

-- a text that needs another word has no more bytes so far than it may have
pub few_words_of_text : (longest at next : ℕ) (words : List ℕ) → spell_text longest at words ≡ More next → 8 * length words ≤ longest + 7
few_words_of_text longest at next words e =
    let short : (length (bytes_of_words at words) ≤ longest) × (at / 8 + length words ≡ next) = by_end longest (bytes_of_words at words) (at / 8 + length words) next (position (λ b. b == 0) (take (longest + 1) (bytes_of_words at words))) e in
    let enough = length_bytes at words in
    omega (arith, short.0, enough)

-- a name that needs another word has at most 128 words so far
pub few_words : (at next : ℕ) (words : List ℕ) → spell_name at words ≡ More next → length words ≤ 128
few_words at next words e = let few = few_words_of_text LONGEST_NAME at next words e in omega (arith, few)

same_text : (x y : List ℕ) → Text x ≡ Text y → x ≡ y
same_text x y e = cc

no_text : (place count : ℕ) (text : List ℕ) (b c : Bool) → cond b (Fault ENAMETOOLONG) (cond c (Fault EFAULT) (More place)) ≡ Text text → ⊥
no_text place count text true c e = cc
no_text place count text false true e = cc
no_text place count text false false e = cc

text_by : (longest : ℕ) (bytes : List ℕ) (place : ℕ) (text : List ℕ) (o : Option ℕ) → position (λ b. b == 0) (take (longest + 1) bytes) ≡ o → text_before_zero longest bytes place o ≡ Text text → length text ≤ longest
text_by longest bytes place text (Some end) found e =
    let inside = position-Some (λ b. b == 0) (take (longest + 1) bytes) end 0 found in
    let most : length (take (longest + 1) bytes) ≡ min (longest + 1) (length bytes) = length-take (longest + 1) bytes in
    let its : length (take end bytes) ≡ min end (length bytes) = length-take end bytes in
    let same : take end bytes ≡ text = same_text (take end bytes) text e in
    let long : length (take end bytes) ≡ length text = (λ k. length (same k)) in
    omega (arith, inside.0, most, its, long)
text_by longest bytes place text None found e = absurd (no_text place (length bytes) text (nat_lt longest (length bytes)) (nat_le SPACE_WORDS place) e)

-- a text has at most as many bytes as it may have
pub short_text_of : (longest at : ℕ) (words text : List ℕ) → spell_text longest at words ≡ Text text → length text ≤ longest
short_text_of longest at words text e = text_by longest (bytes_of_words at words) (at / 8 + length words) text (position (λ b. b == 0) (take (longest + 1) (bytes_of_words at words))) refl e

-- a name has at most 1,024 bytes
pub short_text : (at : ℕ) (words text : List ℕ) → spell_name at words ≡ Text text → length text ≤ 1024
short_text at words text e = short_text_of LONGEST_NAME at words text e
