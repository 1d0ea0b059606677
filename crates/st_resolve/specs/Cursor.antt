-- Where the components of a text begin and end.
use Rattle.std.specs.Prelude.{◌≡◌, ℕ, ◌+◌, ◌<◌, ◌≤◌, true, List, length, take, drop}
use Rattle.std.specs.List.{position_or_len}
use Rattle.st_names.specs.Name.{is_component, is_slash}

-- the length of the first part of a text
abbrev pub first_part_len : List ℕ → ℕ
first_part_len text = position_or_len is_slash text

-- the first part of a text
abbrev pub first_part : List ℕ → List ℕ
first_part text = take (first_part_len text) text

-- a component begins at this offset, or the text ends there
pub record IsAtComponent (text : List ℕ) (at : ℕ) : Type 0 where
  pub within : at ≤ length text
  pub begins : at < length text → is_component (first_part (drop at text)) ≡ true

-- a component begins and ends at these offsets, or the text ends at both
pub record IsComponentAt (text : List ℕ) (at end : ℕ) : Type 0 where
  pub place : IsAtComponent text at
  pub ends : end ≡ at + first_part_len (drop at text)
  pub within : end ≤ length text
