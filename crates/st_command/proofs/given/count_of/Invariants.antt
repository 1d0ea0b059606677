use Rattle.std.proofs.Common.{◌≡◌, ◌+◌, ◌≤◌, map, drop}
use Rattle.st_command.specs.Given.{count_of}
use Rattle.st_command.specs.Reading.{option_value}
use Rattle.st_command.proofs.given.count_of.Given as goal

-- the options counted so far, and those that are left
abbrev pub invariant-loop-option : goal.invariant-loop-option
invariant-loop-option l = record {
  few : l.count ≤ l.option-index;
  counted : l.count + count_of l.kind (map option_value (drop l.option-index l.options)) ≡ count_of l.kind (map option_value l.options);
}
