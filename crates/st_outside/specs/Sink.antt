-- How the written bytes of a sink change, if they are known.
use Rattle.std.specs.Prelude.{◌≡◌, ℕ, ◌<◌, List, ◌++◌, length, take, Option, option_map}

-- exactly these bytes were appended to the written bytes, if those are known
abbrev pub Appends : Option (List ℕ) → Option (List ℕ) → List ℕ → Type 0
Appends old new piece = new ≡ option_map (λ bytes. bytes ++ piece) old

-- a proper prefix of the text was appended to the written bytes, if those are known
abbrev pub AppendsPrefix : Option (List ℕ) → Option (List ℕ) → List ℕ → Type 0
AppendsPrefix old new text = (n : ℕ) × (n < length text) × Appends old new (take n text)
