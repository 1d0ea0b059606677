-- Change of an object's content.
use Rattle.std.specs.Prelude.{ℕ, List}
use Rattle.st_model.specs.Tree.{Node}

-- the object with this content instead of its own
abbrev pub with_content : Node → List ℕ → Node
with_content node content = record node { content = content }
