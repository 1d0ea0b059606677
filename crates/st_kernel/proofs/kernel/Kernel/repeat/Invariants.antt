use Rattle.std.proofs.Common.{◌≡◌, ◌-◌}
use Rattle.st_law.specs.Schedules.{repeated}
use Rattle.st_kernel.specs.Kernel.{played_so_far, trace_of, Continues}
use Rattle.st_kernel.proofs.kernel.Kernel.repeat.Given as goal

-- the remaining repetitions continue the run as all of them do
abbrev pub invariant-loop : goal.invariant-loop
invariant-loop g l = record {
  made : Continues l.fn.self l.self;
  input : l.self.input ≡ l.fn.self.input;
  noted : g.R.Recorder.has_noted l.fn.recorder l.fn.self.input (trace_of l.fn.self) → g.R.Recorder.has_noted l.recorder l.self.input (trace_of l.self);
  left : repeated (l.repeat.times - l.counter) l.repeat.choice l.fn.self.input (played_so_far l.self) ≡ repeated l.repeat.times l.repeat.choice l.fn.self.input (played_so_far l.fn.self);
}
