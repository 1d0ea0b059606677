-- Texts that can be quoted: those that words spell.
use Rattle.std.proofs.Common.{◌≡◌, ◌==◌, ◌<◌, ◌+◌, ◌*◌, ◌/◌, ◌%◌, ◌||◌, ◌&&◌, ◌++◌, ℕ, zero, suc, Bool, true, false, cond, not, nat_lt, nat_le, List, [], ◌∷◌, length, take, drop, flat_map, codes, decimal, slice_index, Some, None, refl, subst, ltb-true, arith}
use Rattle.std.proofs.lemmas.Bool.{and_parts}
use Rattle.std.specs.Fmt.{digit_glyph, digits, digits_onto}
use Rattle.std.specs.Int.{w64, to_le_bytes}
use Rattle.std.specs.List.{AllByRecursion, concat, join_with_byte, list_all, list_any, position_or_len, prefix_len, take_while}
use Rattle.st_calls.specs.declared.argument.PartKind.{PartKind}
use Rattle.st_calls.specs.declared.argument.PartKind.TheVariants as kind
use Rattle.st_base.specs.declared.errno.Errno.TheVariants.{E2BIG, EFAULT, EINVAL, ENAMETOOLONG}
use Rattle.st_lex.specs.Quote.{AreBytes}
use Rattle.st_model.specs.Spelling.{ArgvPart, Fault, More, Part, Pointer, Spelled, Text, address_text, blank, bytes_before_part, bytes_of_words, domain_text, internet, is_zero, next_word, spell, spell_address, spell_argv, spell_parts, spell_text, text_before_zero, type_text}
use Rattle.st_model.specs.declared.limits.TheConstants.{ARGV_BYTES, ARGV_PARTS, LONGEST_TEXT, SPACE_WORDS}
use Rattle.st_names.specs.declared.limits.TheConstants.{LONGEST_NAME}

-- ---- bytes

pub bytes_append : (xs ys : List ℕ) → AreBytes xs → AreBytes ys → AreBytes (xs ++ ys)
bytes_append [] ys x y = y
bytes_append (b ∷ xs) ys x y = (x.0, x.1, bytes_append xs ys x.2 y)

-- a text that is written out in the proof
pub plain_test : (bs : List ℕ) → list_all (λ b. nat_lt 0 b && nat_lt b 256) bs ≡ true → AreBytes bs
plain_test [] e = tt
plain_test (b ∷ bs) e =
    let both : ((nat_lt 0 b && nat_lt b 256) ≡ true) × (list_all (λ c. nat_lt 0 c && nat_lt c 256) bs ≡ true) = and_parts (nat_lt 0 b && nat_lt b 256) (list_all (λ c. nat_lt 0 c && nat_lt c 256) bs) e in
    let here = and_parts (nat_lt 0 b) (nat_lt b 256) both.0 in
    (ltb-true 0 b here.0, ltb-true b 256 here.1, plain_test bs both.1)

-- numbers that are bytes, including zero
abbrev pub AreSmall : List ℕ → Type 0
AreSmall bytes = AllByRecursion (λ b. b < 256) bytes

small_append : (xs ys : List ℕ) → AreSmall xs → AreSmall ys → AreSmall (xs ++ ys)
small_append [] ys x y = y
small_append (b ∷ xs) ys x y = (x.0, small_append xs ys x.1 y)

pub small_drop : (n : ℕ) (xs : List ℕ) → AreSmall xs → AreSmall (drop n xs)
small_drop zero xs x = x
small_drop (suc n) [] x = tt
small_drop (suc n) (b ∷ xs) x = small_drop n xs x.1

word_small : (word : ℕ) → AreSmall (to_le_bytes w64 word)
word_small word = (omega arith, (omega arith, (omega arith, (omega arith, (omega arith, (omega arith, (omega arith, (omega arith, tt))))))))

words_small : (words : List ℕ) → AreSmall (flat_map (to_le_bytes w64) words)
words_small [] = tt
words_small (word ∷ words) = small_append (to_le_bytes w64 word) (flat_map (to_le_bytes w64) words) (word_small word) (words_small words)

-- ---- numbers

-- the glyph of a digit
digit_small : (upper : Bool) (d : ℕ) → d < 16 → (0 < digit_glyph upper d) × (digit_glyph upper d < 256)
digit_small upper d low = by (nat_lt d 10) upper where
  by : (b u : Bool) → (0 < cond b (48 + d) (cond u (55 + d) (87 + d))) × (cond b (48 + d) (cond u (55 + d) (87 + d)) < 256)
  by true u = (omega arith, omega (arith, low))
  by false true = (omega arith, omega (arith, low))
  by false false = (omega arith, omega (arith, low))

digits_plain : (base : ℕ) (upper : Bool) → ((n : ℕ) → n % base < 16) → (k n : ℕ) (acc : List ℕ) → AreBytes acc → AreBytes (digits_onto k base upper n acc)
digits_plain base upper low zero n acc plain = plain
digits_plain base upper low (suc k) n acc plain =
    let here = digit_small upper (n % base) (low n) in
    by (n / base == 0) (here.0, here.1, plain) (digits_plain base upper low k (n / base) (digit_glyph upper (n % base) ∷ acc) (here.0, here.1, plain)) where
      by : (b : Bool) → AreBytes (digit_glyph upper (n % base) ∷ acc) → AreBytes (digits_onto k base upper (n / base) (digit_glyph upper (n % base) ∷ acc)) → AreBytes (cond b (digit_glyph upper (n % base) ∷ acc) (digits_onto k base upper (n / base) (digit_glyph upper (n % base) ∷ acc)))
      by true x y = x
      by false x y = y

pub decimal_plain : (n : ℕ) → AreBytes (decimal n)
unfolding digits
decimal_plain n = digits_plain 10 false (λ m. omega arith) 64 n [] tt

octal_plain : (n : ℕ) → AreBytes (digits 8 false n)
unfolding digits
octal_plain n = digits_plain 8 false (λ m. omega arith) 64 n [] tt

-- ---- spelled texts

abbrev pub IsPlainSpelled : Spelled → Type 0
IsPlainSpelled (Text text) = AreBytes text
IsPlainSpelled (Fault errno) = Unit {0}
IsPlainSpelled (More place) = Unit {0}

either_plain : (b : Bool) (x y : Spelled) → IsPlainSpelled x → IsPlainSpelled y → IsPlainSpelled (cond b x y)
either_plain true x y p q = p
either_plain false x y p q = q

next_plain : (place : ℕ) → IsPlainSpelled (next_word place)
next_plain place = either_plain (nat_le SPACE_WORDS place) (Fault EFAULT) (More place) tt tt

nonzero : (b : ℕ) → is_zero b ≡ false → 0 < b
nonzero zero e = absurd (cc)
nonzero (suc b) e = omega arith

-- no byte before the first zero is zero
front_plain : (m : ℕ) (bs : List ℕ) → AreSmall bs → AreBytes (take (prefix_len (λ b. not (is_zero b)) (take m bs)) bs)
front_plain zero bs small = tt
front_plain (suc m) [] small = tt
front_plain (suc m) (b ∷ bs) small = by (is_zero b) refl (front_plain m bs small.1) where
  by : (z : Bool) → is_zero b ≡ z → AreBytes (take (prefix_len (λ c. not (is_zero c)) (take m bs)) bs) → AreBytes (take (cond (not z) (1 + prefix_len (λ c. not (is_zero c)) (take m bs)) 0) (b ∷ bs))
  by true is rest = tt
  by false is rest =
      let more : suc (prefix_len (λ c. not (is_zero c)) (take m bs)) ≡ 1 + prefix_len (λ c. not (is_zero c)) (take m bs) = omega arith in
      subst (λ n. AreBytes (take n (b ∷ bs))) more (nonzero b is, small.0, rest)

while_plain : (bs : List ℕ) → AreSmall bs → AreBytes (take_while (λ b. not (is_zero b)) bs)
while_plain [] small = tt
while_plain (b ∷ bs) small = by (is_zero b) refl (while_plain bs small.1) where
  by : (z : Bool) → is_zero b ≡ z → AreBytes (take (prefix_len (λ c. not (is_zero c)) bs) bs) → AreBytes (take (cond (not z) (1 + prefix_len (λ c. not (is_zero c)) bs) 0) (b ∷ bs))
  by true is rest = tt
  by false is rest =
      let more : suc (prefix_len (λ c. not (is_zero c)) bs) ≡ 1 + prefix_len (λ c. not (is_zero c)) bs = omega arith in
      subst (λ n. AreBytes (take n (b ∷ bs))) more (nonzero b is, small.0, rest)

text_plain : (longest at : ℕ) (words : List ℕ) → IsPlainSpelled (spell_text longest at words)
text_plain longest at words = by (nat_lt (position_or_len is_zero (take (longest + 1) bytes)) (length (take (longest + 1) bytes))) where
  bytes : List ℕ
  bytes = bytes_of_words at words

  by : (b : Bool) → IsPlainSpelled (text_before_zero longest (bytes_of_words at words) (at / 8 + length words) (cond b (Some (position_or_len is_zero (take (longest + 1) (bytes_of_words at words)))) None))
  by true = front_plain (longest + 1) (bytes_of_words at words) (small_drop (at % 8) (flat_map (to_le_bytes w64) words) (words_small words))
  by false = either_plain (nat_lt longest (length (bytes_of_words at words))) (Fault ENAMETOOLONG) (next_word (at / 8 + length words)) tt (next_plain (at / 8 + length words))

-- ---- addresses

address_plain : (bytes : List ℕ) → AreBytes (address_text bytes)
address_plain bytes =
    let one : List ℕ = codes "inet-[" ++ decimal (slice_index bytes 4) in
    let two : List ℕ = one ++ codes "." ++ decimal (slice_index bytes 5) in
    let three : List ℕ = two ++ codes "." ++ decimal (slice_index bytes 6) in
    let four : List ℕ = three ++ codes "." ++ decimal (slice_index bytes 7) in
    let port : ℕ = 256 * slice_index bytes 2 + slice_index bytes 3 in
    let p : AreBytes one = bytes_append (codes "inet-[") (decimal (slice_index bytes 4)) (plain_test (codes "inet-[") refl) (decimal_plain (slice_index bytes 4)) in
    let q : AreBytes two = dotted one (decimal (slice_index bytes 5)) p (decimal_plain (slice_index bytes 5)) in
    let r : AreBytes three = dotted two (decimal (slice_index bytes 6)) q (decimal_plain (slice_index bytes 6)) in
    let s : AreBytes four = dotted three (decimal (slice_index bytes 7)) r (decimal_plain (slice_index bytes 7)) in
    bytes_append (four ++ codes "]:") (decimal port) (bytes_append four (codes "]:") s (plain_test (codes "]:") refl)) (decimal_plain port)
  where
    dotted : (xs ys : List ℕ) → AreBytes xs → AreBytes ys → AreBytes (xs ++ codes "." ++ ys)
    dotted xs ys x y = bytes_append (xs ++ codes ".") ys (bytes_append xs (codes ".") x (plain_test (codes ".") refl)) y

spelled_address : (at : ℕ) (words : List ℕ) → IsPlainSpelled (spell_address at words)
spelled_address at [] = either_plain (not (at % 8 == 0)) (Fault EFAULT) (next_word (at / 8)) tt (next_plain (at / 8))
spelled_address at (word ∷ words) =
    either_plain (not (at % 8 == 0) || nat_le SPACE_WORDS (at / 8)) (Fault EFAULT) _ tt
    (either_plain (not (slice_index (to_le_bytes w64 word) 1 == internet)) (Fault EINVAL) (Text (address_text (to_le_bytes w64 word))) tt (address_plain (to_le_bytes w64 word)))

-- ---- argument vectors

join_plain : (parts : List (List ℕ)) → AllByRecursion AreBytes parts → AreBytes (join_with_byte blank parts)
join_plain [] plain = tt
join_plain (part ∷ []) plain = plain.0
join_plain (part ∷ next ∷ parts) plain = bytes_append part (blank ∷ join_with_byte blank (next ∷ parts)) plain.0 (omega arith, omega arith, join_plain (next ∷ parts) plain.1)

parts_push : (parts : List (List ℕ)) (part : List ℕ) → AllByRecursion AreBytes parts → AreBytes part → AllByRecursion AreBytes (parts ++ part ∷ [])
parts_push [] part plain here = (here, tt)
parts_push (first ∷ parts) part plain here = (plain.0, parts_push parts part plain.1 here)

abbrev IsPlainPart : ArgvPart → Type 0
IsPlainPart Pointer = Unit {0}
IsPlainPart (Part pointer count taken) = AreBytes taken

parts_plain : (place : ℕ) (parts : List (List ℕ)) (part : ArgvPart) (words : List ℕ) → AllByRecursion AreBytes parts → IsPlainPart part → IsPlainSpelled (spell_parts place parts part words)
parts_plain place parts Pointer [] plain here = next_plain (place + length parts)
parts_plain place parts (Part pointer count taken) [] plain here = next_plain (pointer / 8 + count)
parts_plain place parts Pointer (word ∷ words) plain here =
    either_plain (word == 0) (Text (join_with_byte blank parts)) _ (join_plain parts plain)
    (either_plain (nat_le ARGV_PARTS (length parts)) (Fault E2BIG) (spell_parts place parts (Part word 0 []) words) tt (parts_plain place parts (Part word 0 []) words plain tt))
parts_plain place parts (Part pointer count taken) (word ∷ words) plain here =
    let bytes : List ℕ = drop (bytes_before_part pointer count) (to_le_bytes w64 word) in
    let part : List ℕ = taken ++ take_while (λ b. not (is_zero b)) bytes in
    let own : AreBytes part = bytes_append taken (take_while (λ b. not (is_zero b)) bytes) here (while_plain bytes (small_drop (bytes_before_part pointer count) (to_le_bytes w64 word) (word_small word))) in
    either_plain (nat_lt ARGV_BYTES (length (concat parts) + length part)) (Fault E2BIG) _ tt
    (either_plain (list_any is_zero bytes) (spell_parts place (parts ++ part ∷ []) Pointer words) (spell_parts place parts (Part pointer (count + 1) part) words)
    (parts_plain place (parts ++ part ∷ []) Pointer words (parts_push parts part plain own) tt)
    (parts_plain place parts (Part pointer (count + 1) part) words plain own))

argv_plain : (at : ℕ) (words : List ℕ) → IsPlainSpelled (spell_argv at words)
argv_plain at words = either_plain (not (at % 8 == 0)) (Fault EFAULT) (spell_parts (at / 8) [] Pointer words) tt (parts_plain (at / 8) [] Pointer words tt tt)

-- ---- registers

either_bytes : (b : Bool) (xs ys : List ℕ) → AreBytes xs → AreBytes ys → AreBytes (cond b xs ys)
either_bytes true xs ys x y = x
either_bytes false xs ys x y = y

domain_plain : (n : ℕ) → AreBytes (domain_text n)
domain_plain n = either_bytes (n == 1) (codes "AF_UNIX") _ (plain_test (codes "AF_UNIX") refl) (either_bytes (n == 2) (codes "AF_INET") (decimal n) (plain_test (codes "AF_INET") refl) (decimal_plain n))

type_plain : (n : ℕ) → AreBytes (type_text n)
type_plain n = either_bytes (n == 1) (codes "SOCK_STREAM") _ (plain_test (codes "SOCK_STREAM") refl) (either_bytes (n == 2) (codes "SOCK_DGRAM") (decimal n) (plain_test (codes "SOCK_DGRAM") refl) (decimal_plain n))

-- every spelled text can be quoted
pub spelled_plain : (k : PartKind) (at : ℕ) (words : List ℕ) → IsPlainSpelled (spell k at words)
spelled_plain kind.Name at words = text_plain LONGEST_NAME at words
spelled_plain kind.Plain at words = text_plain LONGEST_TEXT at words
spelled_plain kind.Addr at words = spelled_address at words
spelled_plain kind.Argv at words = argv_plain at words
spelled_plain kind.Decimal at words = decimal_plain at
spelled_plain kind.Octal at words = octal_plain (at % 512)
spelled_plain kind.Domain at words = domain_plain at
spelled_plain kind.SockType at words = type_plain at
