-- The values that single tokens spell.
use Rattle.std.specs.Prelude.{ℕ, ◌^◌, if◌then◌else◌, nat_lt, List, Option, Some, None, option_and_then}
use Rattle.st_base.specs.Number.{number_in, mode_in}
use Rattle.st_lex.specs.declared.token.Token.{Token}
use Rattle.st_lex.specs.Text.{text_of_token, is_word}

-- the number that a token spells
abbrev pub number_token : List ℕ → Token → Option ℕ
number_token text token = if is_word token.kind then number_in (text_of_token text token) else None

-- a number, if it is below this bound
abbrev pub number_below : ℕ → ℕ → Option ℕ
number_below bound n = if nat_lt n bound then Some n else None

-- a user's or a group's id
abbrev pub id_at : List ℕ → Token → Option ℕ
id_at text token = option_and_then (number_below (2 ^ 32)) (number_token text token)

-- the mode that a token spells
abbrev pub mode_at : List ℕ → Token → Option ℕ
mode_at text token = if is_word token.kind then mode_in (text_of_token text token) else None
