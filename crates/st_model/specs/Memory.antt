-- Memory as a map of bytes, and how stores and puts change it.
use Rattle.std.specs.Prelude.{ℕ, ◌+◌, ◌-◌, ◌*◌, ◌/◌, ◌%◌, ◌==◌, ◌&&◌, if◌then◌else◌, nat_le, nat_lt, List, length, map, slice_index}
use Rattle.std.specs.Int.{w64, to_le_bytes, from_le_bytes}
use Rattle.std.specs.List.{range_with_len}

-- A map of bytes gives the byte at each offset; a map of memory gives a map of bytes for each space. Words are little-endian:
-- the word with index i has the bytes 8 i to 8 i + 7, the lowest first.

-- `count` bytes, from byte `at` on
abbrev pub bytes_from : (ℕ → ℕ) → ℕ → ℕ → List ℕ
bytes_from bytes at count = map bytes (range_with_len at count)

-- the word at a word index
abbrev pub word_of : (ℕ → ℕ) → ℕ → ℕ
word_of bytes place = from_le_bytes w64 (bytes_from bytes (8 * place) 8)

-- byte `b` after a word is stored at a word index: one of the word's eight bytes at that index, otherwise as before
abbrev pub bytes_after_store : (ℕ → ℕ) → ℕ → ℕ → ℕ → ℕ
bytes_after_store before place word b = if b / 8 == place then slice_index (to_le_bytes w64 word) (b % 8) else before b

-- byte `b` after bytes are put from byte `at` on: one of these bytes within their range, otherwise as before
abbrev pub bytes_after_put : (ℕ → ℕ) → ℕ → List ℕ → ℕ → ℕ
bytes_after_put before at bytes b = if nat_le at b && nat_lt b (at + length bytes) then slice_index bytes (b - at) else before b

-- byte `b` of space `s` after a word is stored in a space
abbrev pub memory_after_store : (ℕ → ℕ → ℕ) → ℕ → ℕ → ℕ → ℕ → ℕ → ℕ
memory_after_store before space place word s b = if s == space then bytes_after_store (before s) place word b else before s b

-- byte `b` of space `s` after bytes are put into a space
abbrev pub memory_after_put : (ℕ → ℕ → ℕ) → ℕ → ℕ → List ℕ → ℕ → ℕ → ℕ
memory_after_put before space at bytes s b = if s == space then bytes_after_put (before s) at bytes b else before s b
