-- What the words of a line spell.
use Rattle.std.specs.Prelude.{ℕ, ◌-◌, ◌^◌, Bool, not, ◌||◌, ◌==◌, nat_eq, if◌then◌else◌, List, [], ◌∷◌, length, take, drop, codes, find, Option, Some, None, option_map}
use Rattle.std.specs.List.{prefix_len, starts_with}
use Rattle.std.specs.Str.{bytes_eq}
use Rattle.st_base.specs.Errno.{every_error, name_of_error}
use Rattle.st_base.specs.Number.{numeral_up_to}
use Rattle.st_base.specs.declared.errno.Errno.{Errno}
use Rattle.st_calls.specs.Call.{rule_named}
use Rattle.st_calls.specs.Emulation.{emulation_prefix}
use Rattle.st_calls.specs.declared.rule.Rule.{Rule}
use Rattle.st_lex.specs.Unquote.{byte_of_hex}
use Rattle.st_model.specs.declared.object.NewKind.{NewKind}
use Rattle.st_model.specs.declared.object.NewKind.TheVariants.{Dir, File, Link}
use Rattle.st_trace.specs.declared.entry.CallResult.{CallResult}
use Rattle.st_trace.specs.declared.entry.CallResult.TheVariants.{Value, Failed}
use Rattle.st_fields.specs.Reads.{◌>>=◌}

-- the byte between fields
abbrev pub blank : ℕ
blank = 32

-- the byte before each change
abbrev pub comma : ℕ
comma = 44

-- whether a byte belongs to a word: it is neither a blank nor a comma
abbrev pub is_inner : ℕ → Bool
is_inner b = not ((b == blank) || (b == comma))

-- the word with which bytes begin, and the bytes after it
abbrev pub split_word : List ℕ → List ℕ × List ℕ
split_word bytes = (take (prefix_len is_inner bytes) bytes, drop (prefix_len is_inner bytes) bytes)

-- the bytes after this byte, if they begin with it
abbrev pub after_byte : ℕ → List ℕ → Option (List ℕ)
after_byte byte [] = None
after_byte byte (b ∷ bs) = if b == byte then Some bs else None

-- a number of 16, 32 or 64 bits, in decimal digits
abbrev pub number_of_16 : List ℕ → Option ℕ
number_of_16 word = numeral_up_to (2 ^ 16 - 1) 10 word

abbrev pub number_of_32 : List ℕ → Option ℕ
number_of_32 word = numeral_up_to (2 ^ 32 - 1) 10 word

abbrev pub number_of_64 : List ℕ → Option ℕ
number_of_64 word = numeral_up_to (2 ^ 64 - 1) 10 word

-- a mode, in octal digits
abbrev pub octal_number : List ℕ → Option ℕ
octal_number word = numeral_up_to (2 ^ 32 - 1) 8 word

-- the error whose name in capital letters is this word
abbrev pub error_of_name : List ℕ → Option Errno
error_of_name word = find (λ errno. bytes_eq (name_of_error errno) word) every_error

-- the rule whose name follows the emulation's prefix
abbrev pub rule_after_prefix : List ℕ → Option Rule
rule_after_prefix word = if starts_with nat_eq word emulation_prefix then rule_named (drop (length emulation_prefix) word) else None

-- the number of a held call, or none for `-`
abbrev pub seq_of_word : List ℕ → Option (Option ℕ)
seq_of_word word = if bytes_eq word (codes "-") then Some None else option_map Some (number_of_16 word)

-- the result of a call, by the number that the word spells, if any: otherwise the word is the name of an error
abbrev pub result_by : List ℕ → Option ℕ → Option CallResult
result_by word (Some n) = Some (Value n)
result_by word None = option_map Failed (error_of_name word)

abbrev pub result_of_word : List ℕ → Option CallResult
result_of_word word = result_by word (number_of_64 word)

-- the bytes that pairs of hexadecimal digits spell
abbrev pub bytes_of_digits : List ℕ → Option (List ℕ)
bytes_of_digits [] = Some []
bytes_of_digits (high ∷ []) = None
bytes_of_digits (high ∷ low ∷ digits) = do
  byte ← byte_of_hex high low
  bytes ← bytes_of_digits digits
  Some (byte ∷ bytes)

-- bytes as one word, `-` if there are none
abbrev pub bytes_of_word : List ℕ → Option (List ℕ)
bytes_of_word word = if bytes_eq word (codes "-") then Some [] else bytes_of_digits word

-- the kind of an object that is made, by its word and the target of a link; a file that is made is empty
abbrev pub kind_of_word : List ℕ → List ℕ → Option NewKind
kind_of_word word target =
    if bytes_eq word (codes "dir") then Some Dir
    else if bytes_eq word (codes "file") then Some (File [])
    else if bytes_eq word (codes "link") then Some (Link target)
    else None
