-- Matching as a relation: the items of a pattern fill a whole text, or a prefix of it that a slash follows.
use Rattle.std.specs.Prelude.{◌≡◌, ◌≢◌, ℕ, true, List, [], ◌∷◌, ◌++◌}
use Rattle.st_glob.specs.Items.{Item, Star, slash}
use Rattle.st_glob.specs.Glob.{matches_byte}

-- items fill a whole text, one after the other
pub data Fills : List Item → List ℕ → Type 0 where
  Nothing : Fills [] []
  -- an item matches its byte
  Byte : {item : Item} {more : List Item} {c : ℕ} {text : List ℕ} → matches_byte item c ≡ true → Fills more text → Fills (item ∷ more) (c ∷ text)
  -- the run of a star ends
  Stop : {more : List Item} {text : List ℕ} → Fills more text → Fills (Star ∷ more) text
  -- the run of a star has a byte that isn't a slash, and continues
  Run : {more : List Item} {c : ℕ} {text : List ℕ} → c ≢ slash → Fills (Star ∷ more) text → Fills (Star ∷ more) (c ∷ text)

-- the rest of a text is empty or begins with a slash
abbrev pub IsComponentEnd : List ℕ → Type 0
IsComponentEnd [] = Unit {0}
IsComponentEnd (c ∷ text) = c ≡ slash

-- items fill a whole text, or a prefix of it that a slash follows
pub record FillsFront (items : List Item) (text : List ℕ) : Type 0 where
  pub front : List ℕ
  pub left : List ℕ
  pub parts : text ≡ front ++ left
  pub fills : Fills items front
  pub ended : IsComponentEnd left
