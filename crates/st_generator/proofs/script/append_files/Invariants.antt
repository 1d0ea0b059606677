use Rattle.std.proofs.Common.{◌≡◌, ◌++◌, ◌≤◌, flat_map}
use Rattle.std.specs.List.{range_with_len}
use Rattle.st_generator.specs.Script.{file_row}
use Rattle.st_generator.proofs.script.append_files.Given as goal

-- the rows so far are appended to the text
abbrev pub invariant-loop-number : goal.invariant-loop-number
invariant-loop-number l = record {
  within : l.number ≤ 5;
  text : l.text ≡ l.initial.text ++ flat_map file_row (range_with_len 0 l.number);
}
