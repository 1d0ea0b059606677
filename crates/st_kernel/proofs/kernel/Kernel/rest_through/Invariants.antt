use Rattle.std.specs.Prelude.{◌≡◌, ◌-◌, length}
use Rattle.st_law.specs.Schedules.{most_steps}
use Rattle.st_kernel.specs.Kernel.{rested, trace_of, Continues}
use Rattle.st_kernel.proofs.kernel.Kernel.rest_through.Given as goal

abbrev pub invariant-loop-added : goal.invariant-loop-added
invariant-loop-added g l = record {
  on_the_way : rested l.self ≡ rested l.fn.self;
  made : Continues l.fn.self l.self;
  noted : g.R.Recorder.has_noted l.fn.recorder l.fn.self.input (trace_of l.fn.self) → g.R.Recorder.has_noted l.recorder l.self.input (trace_of l.self);
}

abbrev pub decreases-loop-added : goal.decreases-loop-added
decreases-loop-added g l = most_steps l.self.input - length l.self.choices
