-- How the first items of a pattern match a text.
use Rattle.std.specs.Prelude.{◌≡◌, ℕ, ◌+◌, ◌<◌, length, true, false, if◌then◌else◌, List, Option, None, Some}
use Rattle.st_glob.specs.Items.{SizedItem}
use Rattle.st_glob.specs.Glob.{matches_byte, matches_after_run, glob}
use Rattle.st_glob.specs.declared.pattern.Front.{Front}
use Rattle.st_glob.specs.declared.pattern.Front.TheVariants as front

-- if an item matches this byte, the number of bytes that spell the item after its first byte
abbrev pub taken_len : SizedItem → ℕ → Option ℕ
taken_len spelled c = if matches_byte spelled.item c then Some spelled.following else None

-- a match of items and bytes one by one, up to the pattern's first star or to its end, has this result
abbrev pub IsFront : List ℕ → List ℕ → Front → Type 0
IsFront pattern text front.Whole = glob pattern text ≡ true
IsFront pattern text front.Differs = glob pattern text ≡ false
IsFront pattern text (front.Run after rest) =
    (glob pattern text ≡ matches_after_run (glob after.now) rest.now) × (matches_after_run (glob pattern) text ≡ matches_after_run (glob after.now) rest.now)

-- the pattern and text after a star are together shorter than the pattern and text before
abbrev pub IsShorter : List ℕ → List ℕ → Front → Type 0
IsShorter pattern text (front.Run after rest) = length after.now + length rest.now < length pattern + length text
IsShorter pattern text _ = Unit {0}
