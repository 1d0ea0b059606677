-- Bounds on the words that the parts of a call take, for every kind.
use native.Mathlib.Omega.{arith}
use Rattle.std.proofs.Common.{◌≡◌, ◌≤◌, ℕ, zero, suc, ◌+◌, ◌*◌, ◌/◌, ◌%◌, Bool, true, false, cond, not, ◌==◌, ◌||◌, nat_lt, nat_le, List, [], ◌∷◌, ◌++◌, length, drop, refl, sym, ap, ◌∙◌, length-append, min}
use Rattle.std.proofs.lemmas.Bool.{ltb-false, leb-false, or_parts}
use Rattle.std.proofs.lemmas.List.Folds.{concat-append}
use Rattle.std.specs.List.{concat, take_while, prefix_len, list_any}
use Rattle.std.proofs.lemmas.List.{length-take}
use Rattle.std.specs.Int.{w64, to_le_bytes}
use Rattle.std.specs.Prelude.{slice_index}
use Rattle.st_base.specs.declared.errno.Errno.{Errno}
use Rattle.st_base.specs.declared.errno.Errno.TheVariants.{E2BIG, EFAULT, EINVAL}
use Rattle.st_base.proofs.Words.{length-bytes_of_words}
use Rattle.st_calls.specs.declared.argument.PartKind.{PartKind}
use Rattle.st_calls.specs.declared.argument.PartKind.TheVariants as kind
use Rattle.st_model.specs.Spelling.{Spelled, Text, Fault, More, ArgvPart, Pointer, Part, is_zero, bytes_before_part, internet, address_text, spell, spell_address, spell_parts}
use Rattle.st_model.specs.declared.limits.TheConstants.{SPACE_WORDS, LONGEST_TEXT, ARGV_PARTS, ARGV_BYTES}
use Rattle.st_model.proofs.Spelled.{few_words_of_text}
use Rattle.st_names.specs.declared.limits.TheConstants.{LONGEST_NAME}

-- ---- argument vectors

length-word : (word : ℕ) → length (to_le_bytes w64 word) ≡ 8
length-word word = let e = length-bytes_of_words (word ∷ []) in let f = length-append (to_le_bytes w64 word) [] in omega (arith, e, f)

-- if no byte is zero, all bytes are taken
all_taken : (bytes : List ℕ) → list_any is_zero bytes ≡ false → prefix_len (λ byte. not (is_zero byte)) bytes ≡ length bytes
all_taken [] e = refl
all_taken (x ∷ bytes) e =
    let parts = or_parts (is_zero x) (list_any is_zero bytes) e in
    let rest = all_taken bytes parts.1 in
    ap (λ b. cond (not b) (1 + prefix_len (λ byte. not (is_zero byte)) bytes) 0) parts.0 ∙ omega (arith, rest)

length-taken : (bytes : List ℕ) → list_any is_zero bytes ≡ false → length (take_while (λ byte. not (is_zero byte)) bytes) ≡ length bytes
length-taken bytes e =
    let all = all_taken bytes e in
    let few : length (take_while (λ byte. not (is_zero byte)) bytes) ≡ min (prefix_len (λ byte. not (is_zero byte)) bytes) (length bytes) = length-take (prefix_len (λ byte. not (is_zero byte)) bytes) bytes in
    omega (arith, all, few)

pub length-concat : (parts : List (List ℕ)) (part : List ℕ) → length (concat (parts ++ part ∷ [])) ≡ length (concat parts) + length part
length-concat parts part =
    let e = ap length (concat-append parts (part ∷ [])) in
    let f = length-append (concat parts) (concat (part ∷ [])) in
    let g = length-append part [] in
    omega (arith, e, f, g)

-- the words read so far use up bytes, parts, and a word or two of each part that isn't full; this is that word or two, in bytes
abbrev gap : ℕ → ℕ
gap zero = 8
gap (suc count) = 16

gap_more : (count : ℕ) → gap (count + 1) ≡ 16
gap_more count = let e : suc count ≡ count + 1 = omega arith in ap gap (sym e)

abbrev spent : List (List ℕ) → ArgvPart → ℕ
spent parts Pointer = length (concat parts) + 32 * length parts
spent parts (Part pointer count taken) = length (concat parts) + length taken + 32 * length parts + gap count

-- the bytes and parts read so far are within the limits
abbrev Fits : List (List ℕ) → ArgvPart → Type 0
Fits parts Pointer = (length (concat parts) ≤ 1024) × (length parts ≤ 16)
Fits parts (Part pointer count taken) = (length (concat parts) + length taken ≤ 1024) × (length parts ≤ 15)

-- if two tests select a text or a fault, more words are needed only if neither test is true
asks_on : (a b : Bool) (text : List ℕ) (errno : Errno) (rest : Spelled) (next : ℕ) → cond a (Text text) (cond b (Fault errno) rest) ≡ More next → (b ≡ false) × (rest ≡ More next)
asks_on true b text errno rest next e = cc
asks_on false true text errno rest next e = cc
asks_on false false text errno rest next e = (refl, e)

asks_in : (a b : Bool) (errno : Errno) (x y : Spelled) (next : ℕ) → cond a (Fault errno) (cond b x y) ≡ More next → (a ≡ false) × (cond b x y ≡ More next)
asks_in true b errno x y next e = cc
asks_in false b errno x y next e = (refl, e)

gap_low : (count : ℕ) → gap count ≤ 16
gap_low zero = omega arith
gap_low (suc count) = omega arith

-- the bytes of a word that belong to a part: all bytes for each word after the first
abbrev bytes_for : ℕ → ℕ → ℕ → List ℕ
bytes_for pointer count word = drop (bytes_before_part pointer count) (to_le_bytes w64 word)

abbrev part_with : ℕ → ℕ → List ℕ → ℕ → List ℕ
part_with pointer count taken word = taken ++ take_while (λ byte. not (is_zero byte)) (bytes_for pointer count word)

length-part : (pointer count : ℕ) (taken : List ℕ) (word : ℕ) → list_any is_zero (bytes_for pointer count word) ≡ false → length taken + gap count ≤ length (part_with pointer count taken word) + 8
length-part pointer zero taken word e = let a = length-append taken (take_while (λ byte. not (is_zero byte)) (bytes_for pointer 0 word)) in omega (arith, a)
length-part pointer (suc count) taken word e =
    let a = length-append taken (take_while (λ byte. not (is_zero byte)) (bytes_for pointer (suc count) word)) in
    let b = length-taken (bytes_for pointer (suc count) word) e in
    let c = length-word word in
    omega (arith, a, b, c)

-- the bound on the words of an argument vector that needs another word
abbrev Bound : ℕ → List (List ℕ) → ArgvPart → List ℕ → Type 0
Bound place parts at words = (next : ℕ) → Fits parts at → spell_parts place parts at words ≡ More next → 8 * length words + spent parts at ≤ 1536

part_step : (place : ℕ) (parts : List (List ℕ)) (pointer count : ℕ) (taken : List ℕ) (word : ℕ) (words : List ℕ) (next : ℕ) → length parts ≤ 15 → length (concat parts) + length (part_with pointer count taken word) ≤ 1024 → Bound place (parts ++ part_with pointer count taken word ∷ []) Pointer words → Bound place parts (Part pointer (count + 1) (part_with pointer count taken word)) words → (b : Bool) → list_any is_zero (bytes_for pointer count word) ≡ b → cond b (spell_parts place (parts ++ part_with pointer count taken word ∷ []) Pointer words) (spell_parts place parts (Part pointer (count + 1) (part_with pointer count taken word)) words) ≡ More next → 8 * length (word ∷ words) + spent parts (Part pointer count taken) ≤ 1536
part_step place parts pointer count taken word words next few short ended going true e f =
    let a = length-concat parts (part_with pointer count taken word) in
    let b = length-append parts (part_with pointer count taken word ∷ []) in
    let c = ended next (omega (arith, a, short), omega (arith, b, few)) f in
    let d = length-append taken (take_while (λ byte. not (is_zero byte)) (bytes_for pointer count word)) in
    let g = gap_low count in
    omega (arith, a, b, c, d, g)
part_step place parts pointer count taken word words next few short ended going false e f =
    let a = going next (omega (arith, short), few) f in
    let b = gap_more count in
    let c = length-part pointer count taken word e in
    omega (arith, a, b, c)

-- if more words of an argument vector are needed, few were read
few_parts : (place : ℕ) (parts : List (List ℕ)) (at : ArgvPart) (words : List ℕ) → Bound place parts at words
few_parts place parts Pointer [] = λ next fits e. let a = fits.0 in let b = fits.1 in omega (arith, a, b)
few_parts place parts (Part pointer count taken) [] = λ next fits e. let a = fits.0 in let b = fits.1 in let c = gap_low count in omega (arith, a, b, c)
few_parts place parts Pointer (word ∷ words) = λ next fits e.
    let x = asks_on (word == 0) (nat_le ARGV_PARTS (length parts)) _ E2BIG (spell_parts place parts (Part word 0 []) words) next e in
    let a = fits.0 in
    let b = leb-false ARGV_PARTS (length parts) x.0 in
    let c = few_parts place parts (Part word 0 []) words next (omega (arith, a), omega (arith, b)) x.1 in
    omega (arith, c)
few_parts place parts (Part pointer count taken) (word ∷ words) = λ next fits e.
    let x = asks_in (nat_lt ARGV_BYTES (length (concat parts) + length (part_with pointer count taken word))) (list_any is_zero (bytes_for pointer count word)) E2BIG
    (spell_parts place (parts ++ part_with pointer count taken word ∷ []) Pointer words) (spell_parts place parts (Part pointer (count + 1) (part_with pointer count taken word)) words) next e in
    part_step place parts pointer count taken word words next fits.1 (ltb-false ARGV_BYTES (length (concat parts) + length (part_with pointer count taken word)) x.0)
    (few_parts place (parts ++ part_with pointer count taken word ∷ []) Pointer words) (few_parts place parts (Part pointer (count + 1) (part_with pointer count taken word)) words)
    (list_any is_zero (bytes_for pointer count word)) refl x.1

-- ---- every kind of part

asks_argv : (b : Bool) (at : ℕ) (words : List ℕ) (next : ℕ) → cond b (Fault EFAULT) (spell_parts (at / 8) [] Pointer words) ≡ More next → spell_parts (at / 8) [] Pointer words ≡ More next
asks_argv true at words next e = cc
asks_argv false at words next e = e

few_of_address : (at : ℕ) (words : List ℕ) (next : ℕ) → spell_address at words ≡ More next → length words ≤ 192
few_of_address at [] next e = omega arith
few_of_address at (word ∷ words) next e = absurd (decided (not (at % 8 == 0) || nat_le SPACE_WORDS (at / 8)) (not (slice_index (to_le_bytes w64 word) 1 == internet)) (address_text (to_le_bytes w64 word)) e) where
  decided : (a b : Bool) (text : List ℕ) → cond a (Fault EFAULT) (cond b (Fault EINVAL) (Text text)) ≡ More next → ⊥
  decided true b text f = cc
  decided false true text f = cc
  decided false false text f = cc

-- a part that needs another word has at most 192 words so far
pub few_words_of : (k : PartKind) (at : ℕ) (words : List ℕ) (next : ℕ) → spell k at words ≡ More next → length words ≤ 192
few_words_of kind.Name at words next e = let few = few_words_of_text LONGEST_NAME at next words e in omega (arith, few)
few_words_of kind.Plain at words next e = let few = few_words_of_text LONGEST_TEXT at next words e in omega (arith, few)
few_words_of kind.Addr at words next e = few_of_address at words next e
few_words_of kind.Argv at words next e =
    let few = few_parts (at / 8) [] Pointer words next (omega arith, omega arith) (asks_argv (not (at % 8 == 0)) at words next e) in omega (arith, few)
few_words_of kind.Decimal at words next e = cc
few_words_of kind.Octal at words next e = cc
few_words_of kind.Domain at words next e = cc
few_words_of kind.SockType at words next e = cc
