-- The bytes that one word adds to a text.
use Rattle.std.specs.Prelude.{ℕ, ◌+◌, ◌*◌, ◌/◌, ◌%◌, not, Bool, List, drop}
use Rattle.std.specs.List.{prefix_len, take_while, list_any}
use Rattle.std.specs.Int.{w64, to_le_bytes}
use Rattle.st_model.specs.Spelling.{is_zero}

-- whether a byte belongs to a text: it isn't zero
abbrev pub is_letter : ℕ → Bool
is_letter byte = not (is_zero byte)

-- the bytes of a word from this byte of memory on
abbrev pub bytes_at : ℕ → ℕ → List ℕ
bytes_at next word = drop (next % 8) (to_le_bytes w64 word)

-- the bytes of a word, from this byte of memory on, before the first zero byte
abbrev pub letters_at : ℕ → ℕ → List ℕ
letters_at next word = take_while is_letter (bytes_at next word)

-- how many bytes of a word, from this byte of memory on, come before the first zero byte
abbrev pub letter_count : ℕ → ℕ → ℕ
letter_count next word = prefix_len is_letter (bytes_at next word)

-- whether one of the bytes of a word, from this byte of memory on, is zero
abbrev pub ends_at : ℕ → ℕ → Bool
ends_at next word = list_any is_zero (bytes_at next word)

-- the first byte of the word after the word with this byte
abbrev pub next_word_byte : ℕ → ℕ
next_word_byte next = 8 * (next / 8 + 1)
