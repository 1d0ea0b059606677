-- The components of several texts.
use Rattle.std.specs.Prelude.{◌<◌, List, [], ◌∷◌, ◌++◌, length, All}
use Rattle.st_names.specs.Name.{Components}

-- the components of these texts, those of the last text first
abbrev pub joined_components : List Components → Components
joined_components [] = []
joined_components (text ∷ texts) = joined_components texts ++ text

-- each text has a component left
abbrev pub AreUnfinished : List Components → Type 0
AreUnfinished texts = All (λ text. 0 < length text) texts
