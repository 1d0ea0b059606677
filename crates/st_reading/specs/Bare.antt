-- The environment that policies are read with if there is no script.
use Rattle.std.specs.Prelude.{Bool, false, [], ◌∷◌, codes}
use Rattle.st_emulation.specs.declared.emulation.Emulation.{Emulation}
use Rattle.st_grammar.specs.declared.env.Env.{Env}

-- only the user `root` and the group `wheel`, both with the id 0, the texts of root, and this emulation
abbrev pub bare_env : Bool → Emulation → Env
bare_env elevate emulation = record {
  users = record { name = codes "root"; id = 0 } ∷ [];
  groups = record { name = codes "wheel"; id = 0 } ∷ [];
  dollars = record { home = codes "/root"; user = codes "root"; cwd = codes "/" };
  elevate = elevate;
  learn = false;
  emulation = emulation;
}
