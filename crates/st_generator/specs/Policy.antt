-- The policy of a generated run.
use Rattle.std.specs.Prelude.{ℕ, List, ◌++◌, codes}

-- what is in `/pub` may be asked for, nothing else
abbrev pub generated_policy : List ℕ
generated_policy =
    codes "Policy: /bin/gen, Emulation: native\n" ++
    codes "native-fsread: filename match \"/pub/*\" then permit\n" ++
    codes "native-fsread: true then deny[eacces]\n"
