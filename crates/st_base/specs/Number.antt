-- How words spell numbers.
use Rattle.std.specs.Prelude.{ℕ, ◌^◌, ◌-◌, Bool, ◌&&◌, if◌then◌else◌, nat_lt, nat_le, nat_eq, List, length, drop, codes, Option, Some, None}
use Rattle.std.specs.Char.{is_digit}
use Rattle.std.specs.List.{list_all, starts_with}
use Rattle.std.specs.Str.Parse.{digits_value}

-- whether a word is one or more digits of the radix and nothing else
abbrev pub is_numeral : ℕ → List ℕ → Bool
is_numeral radix word = nat_lt 0 (length word) && list_all (λ c. is_digit c radix) word

-- the number that a word of digits of the radix spells, if it is at most `most`
abbrev pub numeral_up_to : ℕ → ℕ → List ℕ → Option ℕ
numeral_up_to most radix word =
    if is_numeral radix word && nat_le (digits_value radix word) most then Some (digits_value radix word) else None

-- whether a word begins with `0x`
abbrev pub is_hexadecimal : List ℕ → Bool
is_hexadecimal word = starts_with nat_eq word (codes "0x")

-- the number that a word spells: decimal digits, or 0x and one to sixteen hexadecimal digits; at most 2^64 - 1
abbrev pub number_in : List ℕ → Option ℕ
number_in word =
    if is_hexadecimal word then (if nat_le (length word) 18 then numeral_up_to (2 ^ 64 - 1) 16 (drop 2 word) else None)
    else numeral_up_to (2 ^ 64 - 1) 10 word

-- the mode that a word spells: one to four octal digits, at most 777
abbrev pub mode_in : List ℕ → Option ℕ
mode_in word = if nat_le (length word) 4 then numeral_up_to 511 8 word else None
