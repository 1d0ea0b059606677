-- The port of an address is the number that its text ends with.
use Rattle.std.proofs.Common.{◌≡◌, ◌<◌, ℕ, ◌+◌, ◌-◌, ◌*◌, ◌^◌, ◌==◌, cond, List, [], ◌∷◌, ◌++◌, refl, ap, ◌∙◌, arith, codes, decimal}
use Rattle.std.proofs.lemmas.Bool.{ne_eqb}
use Rattle.std.proofs.lemmas.Fmt.{decimal_is_IsNumeral}
use Rattle.std.proofs.lemmas.List.Sums.{fold-append}
use Rattle.std.proofs.lemmas.Str.{digit_value_digit}
use Rattle.std.proofs.lemmas.Str.Parse.{digit_from_value}
use Rattle.std.specs.Char.{digit_value}
use Rattle.std.specs.Int.{w64, to_le_bytes}
use Rattle.std.specs.List.{fold}
use Rattle.std.specs.Prelude.{slice_index}
use Rattle.std.specs.Str.Parse.{AllDigits, digits_value_after}
use Rattle.st_effects.specs.Sockets.{colon, port_in}
use Rattle.st_model.specs.Spelling.{address_text}

-- the number after one more byte
abbrev following : ℕ → ℕ → ℕ
following n byte = cond (byte == colon) 0 (10 * n + (byte - 48))

after_digit : (n d : ℕ) → digit_value d < 10 → following n d ≡ n * 10 + digit_value d
after_digit n d small =
    let range = digit_from_value d small in
    let value = digit_value_digit d range in
    ap (λ b. cond b 0 (10 * n + (d - 48))) (ne_eqb d 58 (λ e. omega (arith, e, range.1, range))) ∙ omega (arith, value)

after_digits : (ds : List ℕ) (n : ℕ) → AllDigits 10 ds → fold following n ds ≡ digits_value_after 10 n ds
after_digits [] n all = refl
after_digits (d ∷ ds) n all = ap (λ (m : ℕ). fold following m ds) (after_digit n d all.0) ∙ after_digits ds (n * 10 + digit_value d) all.1

-- what comes before a port
abbrev front : List ℕ → List ℕ
front bytes =
    codes "inet-[" ++ decimal (slice_index bytes 4) ++ codes "." ++ decimal (slice_index bytes 5) ++ codes "." ++
    decimal (slice_index bytes 6) ++ codes "." ++ decimal (slice_index bytes 7)

-- the port is the number of two bytes
pub port_of_address : (bytes : List ℕ) → 256 * slice_index bytes 2 + slice_index bytes 3 < 2 ^ 64 → port_in (address_text bytes) ≡ 256 * slice_index bytes 2 + slice_index bytes 3
port_of_address bytes small =
    let digits = decimal_is_IsNumeral (256 * slice_index bytes 2 + slice_index bytes 3) small in
    fold-append following 0 (front bytes ++ codes "]:") (decimal (256 * slice_index bytes 2 + slice_index bytes 3))
    ∙ ap (λ (n : ℕ). fold following n (decimal (256 * slice_index bytes 2 + slice_index bytes 3))) (fold-append following 0 (front bytes) (codes "]:"))
    ∙ after_digits (decimal (256 * slice_index bytes 2 + slice_index bytes 3)) 0 digits.0.1 ∙ digits.1

-- two bytes of a word are a number of 16 bits
pub two_bytes : (word : ℕ) → 256 * slice_index (to_le_bytes w64 word) 2 + slice_index (to_le_bytes w64 word) 3 < 2 ^ 16
two_bytes word =
    let high : slice_index (to_le_bytes w64 word) 2 < 256 = omega arith in
    let low : slice_index (to_le_bytes w64 word) 3 < 256 = omega arith in
    omega (arith, high, low)
