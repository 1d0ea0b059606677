use Rattle.std.proofs.Common.{length, ◌-◌, ◌≡◌, ◌≤◌, take}
use Rattle.st_outside.specs.Sink.{Appends}
use Rattle.st_outside.proofs.sink.write_all.Given as goal

-- the first `done` bytes were appended, and no fault was counted
abbrev pub invariant-loop-done : goal.invariant-loop-done
invariant-loop-done g l = record {
  within : l.done ≤ length l.text;
  appended : Appends (g.S.Sink.written l.initial.out) (g.S.Sink.written l.out) (take l.done l.text);
  quiet : g.S.Sink.faults l.out ≡ g.S.Sink.faults l.initial.out;
}

abbrev pub decreases-loop-done : goal.decreases-loop-done
decreases-loop-done g l = length l.text - l.done
