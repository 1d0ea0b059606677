-- The number of bytes of a list of words.
use Rattle.std.proofs.Common.{◌≡◌, ℕ, ◌*◌, List, [], ◌∷◌, length, flat_map, refl, arith, length-append}
use Rattle.std.specs.Int.{w64, to_le_bytes}

-- each word has eight bytes
pub length-bytes_of_words : (words : List ℕ) → length (flat_map (to_le_bytes w64) words) ≡ 8 * length words
length-bytes_of_words [] = refl
length-bytes_of_words (word ∷ words) = omega (arith, length-append (to_le_bytes w64 word) (flat_map (to_le_bytes w64) words), length-bytes_of_words words)
