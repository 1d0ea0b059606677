use Rattle.std.proofs.Common.{◌≡◌, ◌++◌, ◌≤◌}
use Rattle.st_generator.specs.Script.{rounds_lines}
use Rattle.st_generator.proofs.script.append_rounds.Given as goal

-- the lines of the rounds so far are appended to the text
abbrev pub invariant-loop-round : goal.invariant-loop-round
invariant-loop-round l = record {
  within : l.round ≤ l.rounds;
  text : l.text ≡ l.initial.text ++ rounds_lines l.round l.thread;
}
