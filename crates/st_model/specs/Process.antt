-- The row of a process.
use Rattle.std.specs.Prelude.{ℕ, Bool, List}
use Rattle.st_base.specs.declared.ids.Ids.{Ids}
use Rattle.st_names.specs.Name.{Components}

-- the data of a process: whether it is traced, its policy, ids, working directory and memory
pub record Process : Type 0 where
  -- whether policies apply to it
  pub traced : Bool
  -- the binary whose policy applies to it
  pub policy : List ℕ
  pub ids : Ids
  -- the working directory, where its relative names begin
  pub cwd : Components
  -- the number of its memory
  pub space : ℕ
