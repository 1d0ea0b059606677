use Rattle.std.proofs.Common.{inl, inr, refl, subst, true≢false, true}
use Rattle.st_trace.specs.declared.entry.Choice.TheVariants.{Worker}
use Rattle.st_kernel.specs.declared.runners.Work.TheVariants.{Idle}
use Rattle.st_recorded.specs.Recorded.{IsWorkRecorded, RecordedSoFar}
use Rattle.st_recorded.proofs.Invariant.{few_posted, recorded_again, room_still}
use Rattle.st_recorded.proofs.recorded.RecordedRun.work.Goals as goal

pub catch_up-requires-clause-room : goal.catch_up-requires-clause-room
catch_up-requires-clause-room g c = room_still g.N.RunName.input g.N.RunName.queue (g.R.Recorder.has_noted c.self.inside.recorder) (record { so_far = c.self.inside.kernel; stopped = c.self.inside.stopped }) c.self.inside.poster c.self.invariant (Worker c.args.worker) c.work-made.new.kernel c.work-made.ensures.step

pub catch_up-requires-clause-count : goal.catch_up-requires-clause-count
catch_up-requires-clause-count g c = few_posted g.N.RunName.input g.N.RunName.queue (g.R.Recorder.has_noted c.self.inside.recorder) (record { so_far = c.self.inside.kernel; stopped = c.self.inside.stopped }) c.self.inside.poster c.self.invariant (Worker c.args.worker) c.work-made.new.kernel c.work-made.ensures.step

pub invariant_of-self : goal.invariant_of-self
invariant_of-self g c = recorded_again g.N.RunName.input g.N.RunName.queue (g.R.Recorder.has_noted c.self.inside.recorder) (record { so_far = c.self.inside.kernel; stopped = c.self.inside.stopped }) c.self.inside.poster c.self.invariant (Worker c.args.worker) c.work-made.new.kernel c.work-made.ensures.step
    (record { so_far = c.work-made.new.kernel; stopped = c.self.inside.stopped }) (g.R.Recorder.has_noted c.work-made.new.recorder) c.catch_up.new.poster refl
    (λ on. (on, c.in-Ok.ensures.noted)) c.catch_up.ensures.room c.catch_up.ensures.queue c.catch_up.ensures.startable c.catch_up.ensures.posted

pub invariant_of-self-in-Err : goal.invariant_of-self-in-Err
invariant_of-self-in-Err g c = recorded_again g.N.RunName.input g.N.RunName.queue (g.R.Recorder.has_noted c.self.inside.recorder) (record { so_far = c.self.inside.kernel; stopped = c.self.inside.stopped }) c.self.inside.poster c.self.invariant (Worker c.args.worker) c.work-made.new.kernel c.work-made.ensures.step
    (record { so_far = c.work-made.new.kernel; stopped = true }) (g.R.Recorder.has_noted c.work-made.new.recorder) c.catch_up.new.poster refl
    (λ on. absurd (true≢false on)) c.catch_up.ensures.room c.catch_up.ensures.queue c.catch_up.ensures.startable c.catch_up.ensures.posted

pub returns-in-Ok-clause-work : goal.returns-in-Ok-clause-work
returns-in-Ok-clause-work g c = subst (λ (now : RecordedSoFar). IsWorkRecorded now c.args.worker c.in-Ok.work (record { so_far = c.work-made.new.kernel; stopped = c.self.inside.stopped })) c.self.view_is (inl c.in-Ok.ensures.work)

pub returns-in-Err-clause-work : goal.returns-in-Err-clause-work
returns-in-Err-clause-work g c = subst (λ (now : RecordedSoFar). IsWorkRecorded now c.args.worker Idle (record { so_far = c.work-made.new.kernel; stopped = true })) c.self.view_is (inr (refl, (refl, c.work-made.ensures.step)))
