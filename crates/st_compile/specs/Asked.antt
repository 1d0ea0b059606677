-- The text that a filter asks for first.
use Rattle.std.specs.Prelude.{ℕ, List, []}
use Rattle.st_filter.specs.Formula.{Formula, And, Test}
use Rattle.st_filter.specs.declared.filter.Op.{Op}
use Rattle.st_filter.specs.declared.filter.Op.TheVariants.{Eq}

-- the text of a test for equality; that of any other test is empty
abbrev pub text_asked : Op → List ℕ → List ℕ
text_asked Eq text = text
text_asked _ text = []

-- the text that an expression asks for first; empty if it asks for none
abbrev pub asked_text : Formula → List ℕ
asked_text (And left right) = asked_text left
asked_text (Test label index op text) = text_asked op text
asked_text _ = []
