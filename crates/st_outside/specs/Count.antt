-- Counts of faults and calls, which saturate.
use Rattle.std.specs.Prelude.{◌≡◌, ℕ, ◌+◌, ◌-◌, ◌^◌, ◌<◌, ◌⊎◌, min, Bool, List, ◌==◌}
use Rattle.std.specs.List.{list_any}

-- a 64-bit count increased; a count at its maximum also counts as increased
abbrev pub HasRisen : ℕ → ℕ → Type 0
HasRisen old new = (old < new) ⊎ (new ≡ 2 ^ 64 - 1)

-- a 64-bit count plus one, saturating at 2^64 - 1
abbrev pub next_count : ℕ → ℕ
next_count count = min (count + 1) (2 ^ 64 - 1)

-- whether the call with this number is among these calls
abbrev pub is_one_of : List ℕ → ℕ → Bool
is_one_of calls number = list_any (λ call. call == number) calls
