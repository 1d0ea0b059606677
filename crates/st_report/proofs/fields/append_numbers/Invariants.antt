use Rattle.std.proofs.Common.{◌≡◌, ◌++◌, take}
use Rattle.st_report.specs.Fields.{number_fields}
use Rattle.st_report.proofs.fields.append_numbers.Given as goal

-- the numbers so far are appended to the text
abbrev pub invariant-loop-number : goal.invariant-loop-number
invariant-loop-number l = l.text ≡ l.initial.text ++ number_fields (take l.number-index l.numbers)
