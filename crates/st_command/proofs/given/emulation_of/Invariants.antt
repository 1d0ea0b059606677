use Rattle.std.proofs.Common.{◌≡◌, map, drop}
use Rattle.st_command.specs.Command.{emulation_of}
use Rattle.st_command.specs.Reading.{option_value}
use Rattle.st_command.proofs.given.emulation_of.Given as goal

-- the options that are left give the answer
abbrev pub invariant-loop-option : goal.invariant-loop-option
invariant-loop-option l = emulation_of (map option_value (drop l.option-index l.options)) ≡ emulation_of (map option_value l.options)
