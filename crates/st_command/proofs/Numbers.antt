-- Numbers on the command line: a word spells a number exactly when it is the number's decimal digits.
use Rattle.std.proofs.Common.{◌≡◌, ℕ, ◌+◌, ◌^◌, ◌<◌, ◌≤◌, Bool, true, false, ◌&&◌, ◌||◌, ◌==◌, not, if◌then◌else◌, nat_eq, nat_le, [], ◌∷◌, ◌++◌, length, get_or, take, drop, codes, decimal, Option, Some, None, option_and_then, refl, ap, sym, ◌∙◌, subst, arith, leb-true, le-leb, ltb-true, zero, suc, cond}
use Rattle.std.proofs.Math.Numerals.{one-add}
use Rattle.std.proofs.Math.Seq.{take-append_seam, drop-append_seam}
use Rattle.std.proofs.lemmas.Bool.{and_parts}
use Rattle.std.proofs.lemmas.Bool.Decides.{nat_tests}
use Rattle.std.proofs.lemmas.Fmt.{decimal_is_IsNumeral, decimal-digits_value, decimal_digit, first_decimal}
use Rattle.std.proofs.lemmas.List.{take-append-drop}
use Rattle.std.proofs.lemmas.Str.Parse.{digit_from_value, IsNumeralModel}
use Rattle.std.specs.List.{starts_with, prefix_len, list_all}
use Rattle.std.specs.Char.{is_digit}
use Rattle.std.specs.Prelude.{IfSome, nat_lt}
use Rattle.std.specs.Str.{bytes_eq}
use Rattle.std.specs.Str.Parse.{AllDigits, digits_value}
use Rattle.st_base.specs.Number.{numeral_up_to, is_numeral}
use Rattle.st_base.proofs.Digits.{numeral_up_to-some, AllDigits-from_test}
use Rattle.st_command.specs.Words.{Word, decimal_in, most_id, is_no_colon, group_in, ids_with, ids_in, from_one, positive_in}

-- ---- decimal digits

digits : IsNumeralModel (AllDigits 10) (digits_value 10)
digits = record { to = λ ds h. h; from = λ ds h. h; same = λ ds h. refl }

-- whether digits have no leading zero, or are just a zero
abbrev is_plain : Word → Bool
is_plain ds = bytes_eq ds (codes "0") || not (starts_with nat_eq ds (codes "0"))

or_true : (b : Bool) → (b || true) ≡ true
or_true true = refl
or_true false = refl

plain_first : (ds : Word) → 48 < get_or ds 0 0 → is_plain ds ≡ true
plain_first [] h = absurd (omega arith)
plain_first (d ∷ ds) h = let e : nat_eq 48 d ≡ false = grind (arith, nat_tests) in rw e (or_true (bytes_eq (d ∷ ds) (codes "0")))

plain_decimal : (n : ℕ) → n < 2 ^ 64 → is_plain (decimal n) ≡ true
plain_decimal zero h = subst (λ ds. is_plain ds ≡ true) (sym (decimal_digit 0 (omega arith))) refl
plain_decimal (suc n) h = plain_first (decimal (suc n)) (first_decimal (suc n) (omega arith) h)

plain_single : (ds : Word) → is_plain ds ≡ true → get_or ds 0 0 ≡ 48 → length ds ≡ 1
plain_single [] plain e = absurd (omega arith)
plain_single (d ∷ []) plain e = refl
plain_single (d ∷ x ∷ xs) plain e = let p : is_plain (48 ∷ x ∷ xs) ≡ true = subst (λ y. is_plain (y ∷ x ∷ xs) ≡ true) e plain in absurd (cc)

-- a number is read from its digits
pub decimal_in-decimal : (most n : ℕ) → n < 2 ^ 64 → n ≤ most → decimal_in most (decimal n) ≡ Some n
decimal_in-decimal most n h l =
    let d = decimal_is_IsNumeral n h in
    rw (plain_decimal n h) (sym (numeral_up_to-some most 10 n (decimal n) d.0.0 d.0.1 (sym d.1) l))

if_some : {A : Type 0} (P : A → Type 0) (b : Bool) (o : Option A) → (b ≡ true → IfSome o P) → IfSome (if b then o else None) P
if_some P true o f = f refl
if_some P false o f = tt

weaken : {A : Type 0} (P Q : A → Type 0) (o : Option A) → ((a : A) → P a → Q a) → IfSome o P → IfSome o Q
weaken P Q (Some a) f p = f a p
weaken P Q None f p = tt

-- a word is the digits of a number up to this
abbrev IsDecimal : ℕ → Word → ℕ → Type 0
IsDecimal most ds n = (ds ≡ decimal n) × (n ≤ most)

-- the number that is read is the one with these digits
pub decimal_in-sound : (most : ℕ) (ds : Word) → most < 2 ^ 64 → IfSome (decimal_in most ds) (IsDecimal most ds)
decimal_in-sound most ds h =
    if_some (IsDecimal most ds) (is_plain ds) (numeral_up_to most 10 ds) (λ plain.
    if_some (IsDecimal most ds) (is_numeral 10 ds && nat_le (digits_value 10 ds) most) (Some (digits_value 10 ds)) (λ both.
    let p : ((is_numeral 10 ds ≡ true) × (nat_le (digits_value 10 ds) most ≡ true)) = and_parts (is_numeral 10 ds) (nat_le (digits_value 10 ds) most) both in
    let q : ((nat_lt 0 (length ds) ≡ true) × (list_all (λ c. is_digit c 10) ds ≡ true)) = and_parts (nat_lt 0 (length ds)) (list_all (λ c. is_digit c 10) ds) p.0 in
    let fits : digits_value 10 ds ≤ most = leb-true (digits_value 10 ds) most p.1 in
    (sym (decimal-digits_value digits ds (AllDigits-from_test 10 ds q.1) (ltb-true 0 (length ds) q.0) (plain_single ds plain) (omega arith)), fits)))

-- ---- ids

before_colon : (ds rest : Word) → AllDigits 10 ds → prefix_len is_no_colon (ds ++ 58 ∷ rest) ≡ length ds
before_colon [] rest a = refl
before_colon (d ∷ ds) rest a =
    let range = digit_from_value d a.0 in
    let e : (d == 58) ≡ false = grind (arith, nat_tests) in
    rw e (one-add (prefix_len is_no_colon (ds ++ 58 ∷ rest)) ∙ ap (λ n. suc n) (before_colon ds rest a.1))

-- ids are read from their digits
pub ids_in-decimal : (uid gid : ℕ) → uid < 2 ^ 32 → gid < 2 ^ 32 → ids_in (decimal uid ++ (codes ":" ++ decimal gid)) ≡ Some (uid, gid)
ids_in-decimal uid gid u g =
    let word : Word = decimal uid ++ 58 ∷ decimal gid in
    let len = before_colon (decimal uid) (decimal gid) (decimal_is_IsNumeral uid (omega arith)).0.1 in
    ap (λ n. option_and_then (ids_with (group_in (drop n word))) (decimal_in most_id (take n word))) len ∙
    ap (λ back. option_and_then (ids_with (group_in back)) (decimal_in most_id (take (length (decimal uid)) word))) (drop-append_seam (decimal uid) (58 ∷ decimal gid)) ∙
    ap (λ front. option_and_then (ids_with (group_in (58 ∷ decimal gid))) (decimal_in most_id front)) (take-append_seam (decimal uid) (58 ∷ decimal gid)) ∙
    ap (option_and_then (ids_with (decimal_in most_id (decimal gid)))) (decimal_in-decimal most_id uid (omega arith) (omega arith)) ∙
    ap (λ o. ids_with o uid) (decimal_in-decimal most_id gid (omega arith) (omega arith))

at_first : (x : ℕ) (xs : Word) (c : ℕ) (rest : Word) (b : Bool) → (x == 58) ≡ b → (drop (prefix_len is_no_colon xs) xs ≡ c ∷ rest → c ≡ 58) → drop (cond (not b) (1 + prefix_len is_no_colon xs) 0) (x ∷ xs) ≡ c ∷ rest → c ≡ 58
at_first x xs c rest true e later is =
    let same : x ≡ c = cc in
    let colon : x ≡ 58 = grind (arith, nat_tests) in
    sym same ∙ colon
at_first x xs c rest false e later is = later (subst (λ n. drop n (x ∷ xs) ≡ c ∷ rest) (one-add (prefix_len is_no_colon xs)) is)

-- a colon, or nothing, follows the bytes that are no colon
at_colon : (word : Word) (c : ℕ) (rest : Word) → drop (prefix_len is_no_colon word) word ≡ c ∷ rest → c ≡ 58
at_colon [] c rest is = absurd (cc)
at_colon (x ∷ xs) c rest is = at_first x xs c rest (x == 58) refl (at_colon xs c rest) is

-- bytes are a colon and the digits of a group's id
abbrev IsGroup : Word → ℕ → Type 0
IsGroup back gid = (back ≡ 58 ∷ decimal gid) × (gid ≤ most_id)

group_in-sound : (back : Word) → ((c : ℕ) (rest : Word) → back ≡ c ∷ rest → c ≡ 58) → IfSome (group_in back) (IsGroup back)
group_in-sound [] colon = tt
group_in-sound (c ∷ group) colon =
    weaken (IsDecimal most_id group) (IsGroup (c ∷ group)) (decimal_in most_id group)
    (λ gid is. (ap (λ b. b ∷ group) (colon c group refl) ∙ ap (λ ds. 58 ∷ ds) is.0, is.1))
    (decimal_in-sound most_id group (omega arith))

-- a word is the digits of ids, with a colon between
abbrev pub AreIds : Word → ℕ × ℕ → Type 0
AreIds word ids = (word ≡ decimal ids.0 ++ (codes ":" ++ decimal ids.1)) × (ids.0 < 2 ^ 32) × (ids.1 < 2 ^ 32)

ids_of_parts : (front back word : Word) → front ++ back ≡ word → (o g : Option ℕ) → IfSome o (IsDecimal most_id front) → IfSome g (IsGroup back) → IfSome (option_and_then (ids_with g) o) (AreIds word)
ids_of_parts front back word whole None g is_user is_group = tt
ids_of_parts front back word whole (Some uid) None is_user is_group = tt
ids_of_parts front back word whole (Some uid) (Some gid) is_user is_group =
    (sym whole ∙ ap (λ ds. ds ++ back) is_user.0 ∙ ap (λ ds. decimal uid ++ ds) is_group.0, omega (arith, is_user.1), omega (arith, is_group.1))

-- the ids that are read are those with these digits
pub ids_in-sound : (word : Word) → IfSome (ids_in word) (AreIds word)
ids_in-sound word =
    let n = prefix_len is_no_colon word in
    ids_of_parts (take n word) (drop n word) word (take-append-drop n word) (decimal_in most_id (take n word)) (group_in (drop n word))
    (decimal_in-sound most_id (take n word) (omega arith)) (group_in-sound (drop n word) (at_colon word))

-- ---- numbers from 1

pub positive_in-decimal : (most n : ℕ) → n < 2 ^ 64 → 1 ≤ n → n ≤ most → positive_in most (decimal n) ≡ Some n
positive_in-decimal most n h low high =
    ap (option_and_then from_one) (decimal_in-decimal most n h high) ∙ rw (le-leb 1 n low) refl

-- a word is the digits of a number from 1 up to this
abbrev pub ArePositive : ℕ → Word → ℕ → Type 0
ArePositive most word n = (word ≡ decimal n) × (1 ≤ n) × (n ≤ most)

positive_of_number : (most : ℕ) (word : Word) (o : Option ℕ) → IfSome o (IsDecimal most word) → IfSome (option_and_then from_one o) (ArePositive most word)
positive_of_number most word None is = tt
positive_of_number most word (Some n) is = if_some (ArePositive most word) (nat_le 1 n) (Some n) (λ low. (is.0, leb-true 1 n low, is.1))

pub positive_in-sound : (most : ℕ) (word : Word) → most < 2 ^ 64 → IfSome (positive_in most word) (ArePositive most word)
positive_in-sound most word h = positive_of_number most word (decimal_in most word) (decimal_in-sound most word h)
