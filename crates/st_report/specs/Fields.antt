-- The fields that a trace's lines consist of, each after a blank.
use Rattle.std.specs.Prelude.{ℕ, ◌/◌, ◌%◌, false, List, [], ◌∷◌, ◌++◌, codes, decimal}
use Rattle.std.specs.Fmt.{radix_digits}
use Rattle.std.specs.List.{flat_map}
use Rattle.st_base.specs.declared.ids.Ids.{Ids}
use Rattle.st_lex.specs.Quote.{hex_digit, quoted}
use Rattle.st_names.specs.Name.{Components, printed_name}

-- a word
abbrev pub word_field : List ℕ → List ℕ
word_field word = codes " " ++ word

-- a number, in decimal digits
abbrev pub number_field : ℕ → List ℕ
number_field n = codes " " ++ decimal n

-- numbers
abbrev pub number_fields : List ℕ → List ℕ
number_fields numbers = flat_map number_field numbers

-- a mode, in octal digits
abbrev pub mode_field : ℕ → List ℕ
mode_field mode = codes " " ++ radix_digits 8 false mode

-- a text, quoted
abbrev pub text_field : List ℕ → List ℕ
text_field text = codes " " ++ quoted text

-- a name, quoted
abbrev pub name_field : Components → List ℕ
name_field name = codes " " ++ quoted (printed_name name)

-- a byte, as two hexadecimal digits
abbrev pub hex_byte : ℕ → List ℕ
hex_byte byte = hex_digit (byte / 16) ∷ hex_digit (byte % 16) ∷ []

-- bytes as one word of hexadecimal digits, or `-` if there are none
abbrev pub bytes_word : List ℕ → List ℕ
bytes_word [] = codes "-"
bytes_word (byte ∷ bytes) = flat_map hex_byte (byte ∷ bytes)

-- bytes
abbrev pub bytes_field : List ℕ → List ℕ
bytes_field bytes = codes " " ++ bytes_word bytes

-- real and effective user, real and effective group
abbrev pub four_ids : Ids → List ℕ
four_ids ids = number_fields (ids.ruid ∷ ids.euid ∷ ids.rgid ∷ ids.egid ∷ [])

-- the same four ids after their word
abbrev pub ids_fields : Ids → List ℕ
ids_fields ids = codes " ids" ++ four_ids ids
