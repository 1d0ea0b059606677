-- Single words of the command line.
use Rattle.std.specs.Prelude.{ℕ, ◌-◌, ◌^◌, Bool, ◌||◌, ◌==◌, not, if◌then◌else◌, nat_le, nat_eq, List, [], ◌∷◌, codes, take, drop, Option, Some, None, option_and_then}
use Rattle.std.specs.List.{starts_with, prefix_len}
use Rattle.std.specs.Str.{bytes_eq}
use Rattle.st_base.specs.Number.{numeral_up_to}

-- a word of the command line
abbrev pub Word : Type 0
Word = List ℕ

-- whether a word begins with a dash, so that it is no operand
abbrev pub has_dash : Word → Bool
has_dash word = starts_with nat_eq word (codes "-")

-- the number that decimal digits without a leading zero spell, if it is at most this
abbrev pub decimal_in : ℕ → Word → Option ℕ
decimal_in most digits =
    if bytes_eq digits (codes "0") || not (starts_with nat_eq digits (codes "0")) then numeral_up_to most 10 digits else None

-- the largest id
abbrev pub most_id : ℕ
most_id = 2 ^ 32 - 1

-- whether a byte is no colon
abbrev pub is_no_colon : ℕ → Bool
is_no_colon b = not (b == 58)

-- the group after a colon
abbrev pub group_in : Word → Option ℕ
group_in [] = None
group_in (colon ∷ group) = decimal_in most_id group

-- the user and the group, if there is a group
abbrev pub ids_with : Option ℕ → ℕ → Option (ℕ × ℕ)
ids_with None uid = None
ids_with (Some gid) uid = Some (uid, gid)

-- the user and the group that a word U:G spells
abbrev pub ids_in : Word → Option (ℕ × ℕ)
ids_in word =
    option_and_then (ids_with (group_in (drop (prefix_len is_no_colon word) word)))
    (decimal_in most_id (take (prefix_len is_no_colon word) word))

-- the number, if it is at least 1
abbrev pub from_one : ℕ → Option ℕ
from_one n = if nat_le 1 n then Some n else None

-- the number that a word spells, if it is at least 1 and at most this
abbrev pub positive_in : ℕ → Word → Option ℕ
positive_in most word = option_and_then from_one (decimal_in most word)

-- the number of workers that a word spells: 1 to 8
abbrev pub workers_in : Word → Option ℕ
workers_in word = positive_in 8 word

-- the number of rounds that a word spells: 1 to 512
abbrev pub rounds_in : Word → Option ℕ
rounds_in word = positive_in 512 word
