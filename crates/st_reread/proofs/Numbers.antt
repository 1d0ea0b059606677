-- Numbers in decimal digits are read back: as indexes, and as ids.
use Rattle.std.proofs.Common.{◌≡◌, ℕ, ◌+◌, ◌-◌, ◌^◌, ◌<◌, Bool, true, false, cond, ◌&&◌, nat_eq, nat_lt, List, [], ◌∷◌, decimal, Option, Some, None, option_and_then, refl, ap, sym, ◌∙◌, arith, lt-ltb, ltb-true, leb-true, nat_le, ◌≤◌, find, option_map}
use Rattle.std.proofs.lemmas.Bool.{and_parts}
use Rattle.std.specs.List.{AllByRecursion}
use Rattle.std.specs.Str.Parse.{AllDigits, digits_value}
use Rattle.std.proofs.lemmas.List.Elements.{recursion_from_All}
use Rattle.std.proofs.lemmas.Bool.Decides.{nat_tests}
use Rattle.std.proofs.lemmas.Fmt.{decimal_is_IsNumeral}
use Rattle.std.proofs.lemmas.Str.Parse.{digit_from_value}
use Rattle.st_grammar.proofs.Common.{id_in, index_in}
use Rattle.st_grammar.specs.declared.env.NamedId.{NamedId}
use Rattle.st_base.specs.Number.{is_numeral, numeral_up_to, is_hexadecimal, number_in}
use Rattle.st_base.proofs.Digits.{numeral_up_to-some}
use Rattle.st_grammar.specs.Words.{if_small, is_id_named, id_by}
use Rattle.st_reread.specs.Readable.{AreSmallIds}

pub numeral_up_to-decimal : (most n : ℕ) → n < 2 ^ 64 → n < most + 1 → numeral_up_to most 10 (decimal n) ≡ Some n
numeral_up_to-decimal most n h l =
    let d = decimal_is_IsNumeral n h in
    sym (numeral_up_to-some most 10 n (decimal n) d.0.0 d.0.1 (sym d.1) (omega arith))

first_no : (b : Bool) → (b && false) ≡ false
first_no true = refl
first_no false = refl

-- an `x` is no decimal digit
no_hexadecimal : (ds : List ℕ) → AllDigits 10 ds → is_hexadecimal ds ≡ false
no_hexadecimal [] a = refl
no_hexadecimal (c ∷ []) a = first_no (nat_eq 48 c)
no_hexadecimal (c ∷ d ∷ ds) a =
    let range = digit_from_value d a.1.0 in
    let e : nat_eq 120 d ≡ false = grind (arith, nat_tests) in
    rw e (first_no (nat_eq 48 c))

pub number_in-decimal : (n : ℕ) → n < 2 ^ 64 → number_in (decimal n) ≡ Some n
number_in-decimal n h =
    let e : is_hexadecimal (decimal n) ≡ false = no_hexadecimal (decimal n) (decimal_is_IsNumeral n h).0.1 in
    rw e (numeral_up_to-decimal (2 ^ 64 - 1) n h h)

if_small-small : (n : ℕ) → n < 2 ^ 32 → if_small n ≡ Some n
if_small-small n h = rw (lt-ltb n (2 ^ 32) h) refl

pub index_in-decimal : (n : ℕ) → n < 2 ^ 32 → index_in (decimal n) ≡ Some n
index_in-decimal n h = ap (option_and_then if_small) (number_in-decimal n (omega (arith, h))) ∙ if_small-small n h

pub id_in-decimal : (rows : List NamedId) (n : ℕ) → n < 2 ^ 32 → id_in rows (decimal n) ≡ Some n
id_in-decimal rows n h = ap (id_by rows (decimal n)) (numeral_up_to-decimal (2 ^ 32 - 1) n (omega (arith, h)) h)

-- ---- numbers that are read are small

small_by : (b : Bool) (n id : ℕ) → (b ≡ true → n < 2 ^ 32) → cond b (Some n) None ≡ Some id → id < 2 ^ 32
small_by true n id h e = let same : n ≡ id = cc in omega (arith, same, h refl)
small_by false n id h e = absurd (cc)

small : (o : Option ℕ) (index : ℕ) → option_and_then if_small o ≡ Some index → index < 2 ^ 32
small None index e = absurd (cc)
small (Some n) index e = small_by (nat_lt n (2 ^ 32)) n index (ltb-true n (2 ^ 32)) e

pub index_in-small : (digits : List ℕ) (index : ℕ) → index_in digits ≡ Some index → index < 2 ^ 32
index_in-small digits index e = small (number_in digits) index e

found_by : (b : Bool) (row : NamedId) (o : Option NamedId) (id : ℕ) → row.id < 2 ^ 32 → (option_map (λ row. row.id) o ≡ Some id → id < 2 ^ 32) → option_map (λ row. row.id) (cond b (Some row) o) ≡ Some id → id < 2 ^ 32
found_by true row o id h others e = let same : row.id ≡ id = cc in omega (arith, same, h)
found_by false row o id h others e = others e

found : (rows : List NamedId) (word : List ℕ) (id : ℕ) → AllByRecursion (λ row. row.id < 2 ^ 32) rows → option_map (λ row. row.id) (find (is_id_named word) rows) ≡ Some id → id < 2 ^ 32
found [] word id a e = absurd (cc)
found (row ∷ rows) word id a e = found_by (is_id_named word row) row (find (is_id_named word) rows) id a.0 (found rows word id a.1) e

id_by-small : (rows : List NamedId) (word : List ℕ) (o : Option ℕ) (id : ℕ) → AreSmallIds rows → numeral_up_to (2 ^ 32 - 1) 10 word ≡ o → id_by rows word o ≡ Some id → id < 2 ^ 32
id_by-small rows word (Some n) id small e is =
    let value : ℕ = digits_value 10 word in
    let same : n ≡ id = cc in
    let all : Bool = is_numeral 10 word && nat_le value (2 ^ 32 - 1) in
    let fits : all ≡ true → value < 2 ^ 32 = λ t. let l : value ≤ 2 ^ 32 - 1 = leb-true value (2 ^ 32 - 1) (and_parts (is_numeral 10 word) (nat_le value (2 ^ 32 - 1)) t).1 in omega (arith, l) in
    let l : n < 2 ^ 32 = small_by all value n fits e in
    omega (arith, same, l)
id_by-small rows word None id small e is = found rows word id (recursion_from_All (λ row. row.id < 2 ^ 32) rows small) is

pub id_in-small : (rows : List NamedId) (word : List ℕ) (id : ℕ) → AreSmallIds rows → id_in rows word ≡ Some id → id < 2 ^ 32
id_in-small rows word id small e = id_by-small rows word (numeral_up_to (2 ^ 32 - 1) 10 word) id small refl e
