use Rattle.std.proofs.Common.{◌≡◌}
use Rattle.st_script_names.specs.Names.{last_slash}
use Rattle.st_script_names.proofs.names.last_slash.Given as goal

-- the last slash so far
abbrev pub invariant-loop-i : goal.invariant-loop-i
invariant-loop-i l = l.last ≡ last_slash l.path l.i
