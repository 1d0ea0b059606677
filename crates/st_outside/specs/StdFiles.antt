-- The model of the host's files.
use Rattle.std.specs.Prelude.{ℕ, List}
use Rattle.st_outside.specs.Files.{FileView, Unknown}

-- the host's files, of whose content nothing is known: the names that were fetched, in order, and the count of faults
pub record HostFiles : Type 0 where
  pub asked : List (List ℕ)
  pub faults : ℕ

-- the content of no name is known
abbrev pub unknown_contents : List ℕ → FileView
unknown_contents name = Unknown
