-- Which texts a pattern matches.
use Rattle.std.specs.Prelude.{ℕ, Bool, true, false, ◌==◌, ◌&&◌, ◌||◌, not, List, [], ◌∷◌}
use Rattle.st_glob.specs.Items.{Item, Star, Any, Exactly, Within, Without, slash, is_listed, items}

-- whether an item that matches single bytes matches this byte
abbrev pub matches_byte : Item → ℕ → Bool
matches_byte Star c = false
matches_byte Any c = not (c == slash)
matches_byte (Exactly b) c = b == c
matches_byte (Within class) c = not (c == slash) && is_listed class c
matches_byte (Without class) c = not (c == slash) && not (is_listed class c)

-- whether the rest of a text after some run without a slash is matched
abbrev pub matches_after_run : (List ℕ → Bool) → List ℕ → Bool
matches_after_run matched [] = matched []
matches_after_run matched (c ∷ text) = matched (c ∷ text) || (not (c == slash) && matches_after_run matched text)

-- whether the items match up to the text's end or up to a slash
abbrev pub matches : List Item → List ℕ → Bool
matches [] [] = true
matches [] (c ∷ text) = c == slash
matches (Star ∷ rest) text = matches_after_run (matches rest) text
matches (item ∷ rest) [] = false
matches (item ∷ rest) (c ∷ text) = matches_byte item c && matches rest text

-- whether the pattern matches the text, or a prefix of it that a slash follows
abbrev pub glob : List ℕ → List ℕ → Bool
glob pattern = matches (items pattern)
