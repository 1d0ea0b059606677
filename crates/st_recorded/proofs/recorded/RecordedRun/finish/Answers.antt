use Rattle.st_recorded.proofs.recorded.RecordedRun.finish.Goals as goal

pub settle-requires : goal.settle-requires
settle-requires g c = c.self.invariant.noted c.if-stopped.false
