use Rattle.std.proofs.Common.{◌≡◌, length, map}
use Rattle.st_command.specs.Given.{options_in}
use Rattle.st_command.specs.Reading.{option_value}
use Rattle.st_command.proofs.Options.{with_options}
use Rattle.st_command.proofs.reading.options_in.Given as goal

-- the options so far, and those that are left
abbrev pub invariant-loop-option : goal.invariant-loop-option
invariant-loop-option l = with_options (map option_value l.given) (options_in l.rest) ≡ options_in l.words

abbrev pub decreases-loop-option : goal.decreases-loop-option
decreases-loop-option l = length l.rest
