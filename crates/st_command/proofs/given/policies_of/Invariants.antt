use Rattle.std.proofs.Common.{◌≡◌, ◌++◌, map, drop}
use Rattle.st_command.specs.Command.{policies_of}
use Rattle.st_command.specs.Reading.{option_value}
use Rattle.st_command.proofs.given.policies_of.Given as goal

-- the names so far, and those that are left
abbrev pub invariant-loop-option : goal.invariant-loop-option
invariant-loop-option l = map (λ name. name.now) l.names ++ policies_of (map option_value (drop l.option-index l.options)) ≡ policies_of (map option_value l.options)
