use Rattle.std.proofs.Common.{◌≡◌, ◌-◌, ◌++◌, ◌≤◌, flat_map}
use Rattle.std.specs.List.{range_with_len}
use Rattle.st_generator.specs.Script.{thread_lines}
use Rattle.st_generator.proofs.script.append_threads.Given as goal

-- the threads so far are appended to the text
abbrev pub invariant-loop-thread : goal.invariant-loop-thread
invariant-loop-thread l = record {
  from : 1 ≤ l.thread;
  within : l.thread ≤ 5;
  text : l.text ≡ l.initial.text ++ flat_map (thread_lines l.rounds) (range_with_len 1 (l.thread - 1));
}
