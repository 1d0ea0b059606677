-- Numerals that are read digit by digit: their value so far, and when they spell no number that fits.
use Rattle.std.proofs.Common.{zero, suc, ◌≡◌, ℕ, ◌+◌, ◌*◌, ◌<◌, ◌≤◌, Bool, true, false, cond, ◌&&◌, List, [], ◌∷◌, ◌++◌, length, get_or, take, drop, refl, ap, sym, ◌∙◌, arith, ◌^◌, Option, Some, None, nat_lt, nat_le}
use Rattle.std.proofs.lemmas.Bool.{ltb-true, lt-ltb, leb-true, le-leb, and_parts, and_from}
use Rattle.std.proofs.lemmas.List.{take-append-drop}
use Rattle.std.proofs.lemmas.Int.Digits.{digits_value_more}
use Rattle.std.specs.Char.{digit_value, is_digit}
use Rattle.std.specs.List.{list_all}
use Rattle.std.specs.Str.Parse.{AllDigits, digits_value, digits_value_after}
use Rattle.st_base.specs.Number.{is_numeral, numeral_up_to}

-- the value of digits after a number continues from that number
pub digits_value_after-append : (radix n : ℕ) (xs ys : List ℕ) → digits_value_after radix n (xs ++ ys) ≡ digits_value_after radix (digits_value_after radix n xs) ys
digits_value_after-append radix n [] ys = refl
digits_value_after-append radix n (x ∷ xs) ys = digits_value_after-append radix (n * radix + digit_value x) xs ys

pub grows : (radix n d : ℕ) → 0 < radix → n ≤ n * radix + d
grows radix n d h = grind arith

-- further digits never decrease the number
pub digits_value_after-ge : (radix n : ℕ) (ds : List ℕ) → 0 < radix → n ≤ digits_value_after radix n ds
digits_value_after-ge radix n [] h = omega arith
digits_value_after-ge radix n (d ∷ ds) h =
    omega (arith, digits_value_after-ge radix (n * radix + digit_value d) ds h, grows radix n (digit_value d) h)

pub digits_value-take-le : (radix : ℕ) (ds : List ℕ) (i : ℕ) → 0 < radix → digits_value radix (take i ds) ≤ digits_value radix ds
digits_value-take-le radix ds i h =
    let e : digits_value radix (take i ds ++ drop i ds) ≡ digits_value radix ds = ap (digits_value radix) (take-append-drop i ds) in
    let f : digits_value radix (take i ds ++ drop i ds) ≡ digits_value_after radix (digits_value radix (take i ds)) (drop i ds) = digits_value_after-append radix 0 (take i ds) (drop i ds) in
    omega (arith, e, f, digits_value_after-ge radix (digits_value radix (take i ds)) (drop i ds) h)

-- each byte of a numeral is a digit
pub AllDigits-get_or : (radix : ℕ) (ds : List ℕ) (i : ℕ) → AllDigits radix ds → i < length ds → digit_value (get_or ds i 0) < radix
AllDigits-get_or radix [] i a h = absurd (omega arith)
AllDigits-get_or radix (d ∷ ds) zero a h = a.0
AllDigits-get_or radix (d ∷ ds) (suc i) a h = AllDigits-get_or radix ds i a.1 (omega arith)

-- if each byte passes the test, each byte is a digit
pub AllDigits-from_test : (radix : ℕ) (ds : List ℕ) → list_all (λ c. is_digit c radix) ds ≡ true → AllDigits radix ds
AllDigits-from_test radix [] h = tt
AllDigits-from_test radix (d ∷ ds) h = let p : ((is_digit d radix ≡ true) × (list_all (λ c. is_digit c radix) ds ≡ true)) = and_parts (is_digit d radix) (list_all (λ c. is_digit c radix) ds) h in (ltb-true (digit_value d) radix p.0, AllDigits-from_test radix ds p.1)

pub list_all-from_digits : (radix : ℕ) (ds : List ℕ) → AllDigits radix ds → list_all (λ c. is_digit c radix) ds ≡ true
list_all-from_digits radix [] a = refl
list_all-from_digits radix (d ∷ ds) a = and_from (is_digit d radix) (list_all (λ c. is_digit c radix) ds) (lt-ltb (digit_value d) radix a.0) (list_all-from_digits radix ds a.1)

chosen : {A : Type 0} (b : Bool) (x : Option A) → b ≡ true → cond b x None ≡ x
chosen true x h = refl
chosen false x h = cc

left_out : {A : Type 0} (b : Bool) (x : Option A) → (b ≡ true → ⊥) → cond b x None ≡ None
left_out true x h = absurd (h refl)
left_out false x h = refl

-- a numeral that is small enough spells a number
pub numeral_up_to-some : (most radix value : ℕ) (ds : List ℕ) → 0 < length ds → AllDigits radix ds → value ≡ digits_value radix ds → value ≤ most → Some value ≡ numeral_up_to most radix ds
numeral_up_to-some most radix value ds some digits value_is small =
    let numeral : is_numeral radix ds ≡ true = and_from (nat_lt 0 (length ds)) (list_all (λ c. is_digit c radix) ds) (lt-ltb 0 (length ds) some) (list_all-from_digits radix ds digits) in
    let fits : nat_le (digits_value radix ds) most ≡ true = le-leb (digits_value radix ds) most (omega arith) in
    ap Some value_is ∙ sym (chosen (is_numeral radix ds && nat_le (digits_value radix ds) most) (Some (digits_value radix ds)) (and_from (is_numeral radix ds) (nat_le (digits_value radix ds) most) numeral fits))

-- bytes that are not a numeral that is small enough spell no number
pub numeral_up_to-none : (most radix : ℕ) (ds : List ℕ) → (AllDigits radix ds → digits_value radix ds ≤ most → ⊥) → numeral_up_to most radix ds ≡ None
numeral_up_to-none most radix ds never = left_out (is_numeral radix ds && nat_le (digits_value radix ds) most) (Some (digits_value radix ds)) (λ both.
    let p : ((is_numeral radix ds ≡ true) × (nat_le (digits_value radix ds) most ≡ true)) = and_parts (is_numeral radix ds) (nat_le (digits_value radix ds) most) both in
    let q : ((nat_lt 0 (length ds) ≡ true) × (list_all (λ c. is_digit c radix) ds ≡ true)) = and_parts (nat_lt 0 (length ds)) (list_all (λ c. is_digit c radix) ds) p.0 in
    never (AllDigits-from_test radix ds q.1) (leb-true (digits_value radix ds) most p.1))

-- if the next byte is no digit, or the number with it is too large, the whole text spells no number that fits
pub cannot_go_on : (most radix value i : ℕ) (ds : List ℕ) → 0 < radix → i < length ds → most < 2 ^ 64 → value ≡ digits_value radix (take i ds) → (digit_value (get_or ds i 0) < radix → 2 ^ 64 ≤ value * radix + digit_value (get_or ds i 0)) → numeral_up_to most radix ds ≡ None
cannot_go_on most radix value i ds positive inside bounded so_far large = numeral_up_to-none most radix ds (λ digits small.
    let step : digits_value radix (take (i + 1) ds) ≡ value * radix + digit_value (get_or ds i 0) = digits_value_more radix ds i inside ∙ ap (λ v. v * radix + digit_value (get_or ds i 0)) (sym so_far) in
    let high : 2 ^ 64 ≤ value * radix + digit_value (get_or ds i 0) = large (AllDigits-get_or radix ds i digits inside) in
    let whole : digits_value radix (take (i + 1) ds) ≤ digits_value radix ds = digits_value-take-le radix ds (i + 1) positive in
    omega arith)

-- the value with one more digit
pub goes_on : (radix value i : ℕ) (ds : List ℕ) → i < length ds → value ≡ digits_value radix (take i ds) → value * radix + digit_value (get_or ds i 0) ≡ digits_value radix (take (i + 1) ds)
goes_on radix value i ds inside so_far = sym (digits_value_more radix ds i inside ∙ ap (λ v. v * radix + digit_value (get_or ds i 0)) (sym so_far))
