use Rattle.std.proofs.Common.{◌≡◌, drop}
use Rattle.st_law.specs.Schedules.{lines_played}
use Rattle.st_kernel.specs.Kernel.{played_so_far, trace_of, Continues}
use Rattle.st_kernel.proofs.kernel.Kernel.play.Given as goal

-- the remaining lines continue the run as the whole schedule does
abbrev pub invariant-loop-line : goal.invariant-loop-line
invariant-loop-line g l = record {
  made : Continues l.fn.self l.self;
  input : l.self.input ≡ l.fn.self.input;
  noted : g.R.Recorder.has_noted l.fn.recorder l.fn.self.input (trace_of l.fn.self) → g.R.Recorder.has_noted l.recorder l.self.input (trace_of l.self);
  left : lines_played (drop l.line-index l.schedule.lines) l.schedule.bad l.fn.self.input (played_so_far l.self) ≡ lines_played l.schedule.lines l.schedule.bad l.fn.self.input (played_so_far l.fn.self);
}
