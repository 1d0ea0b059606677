use Rattle.std.proofs.Common.{inl, inr, refl, subst, true≢false, false, true}
use Rattle.st_recorded.specs.Recorded.{IsStepRecorded, RecordedSoFar}
use Rattle.st_recorded.proofs.Invariant.{few_posted, recorded_again, room_still}
use Rattle.st_recorded.proofs.recorded.RecordedRun.advance.Goals as goal

pub catch_up-requires-clause-room : goal.catch_up-requires-clause-room
catch_up-requires-clause-room g c = room_still g.N.RunName.input g.N.RunName.queue (g.R.Recorder.has_noted c.self.inside.recorder) (record { so_far = c.self.inside.kernel; stopped = c.self.inside.stopped }) c.self.inside.poster c.self.invariant c.args.choice c.advance-made.new.kernel c.advance-made.ensures.step

pub catch_up-requires-clause-count : goal.catch_up-requires-clause-count
catch_up-requires-clause-count g c = few_posted g.N.RunName.input g.N.RunName.queue (g.R.Recorder.has_noted c.self.inside.recorder) (record { so_far = c.self.inside.kernel; stopped = c.self.inside.stopped }) c.self.inside.poster c.self.invariant c.args.choice c.advance-made.new.kernel c.advance-made.ensures.step

pub invariant_of-self : goal.invariant_of-self
invariant_of-self g c = recorded_again g.N.RunName.input g.N.RunName.queue (g.R.Recorder.has_noted c.self.inside.recorder) (record { so_far = c.self.inside.kernel; stopped = c.self.inside.stopped }) c.self.inside.poster c.self.invariant c.args.choice c.advance-made.new.kernel c.advance-made.ensures.step
    (record { so_far = c.advance-made.new.kernel; stopped = c.self.inside.stopped }) (g.R.Recorder.has_noted c.advance-made.new.recorder) c.catch_up.new.poster refl
    (λ on. (on, c.in-Ok.ensures.noted)) c.catch_up.ensures.room c.catch_up.ensures.queue c.catch_up.ensures.startable c.catch_up.ensures.posted

pub invariant_of-self-in-Err : goal.invariant_of-self-in-Err
invariant_of-self-in-Err g c = recorded_again g.N.RunName.input g.N.RunName.queue (g.R.Recorder.has_noted c.self.inside.recorder) (record { so_far = c.self.inside.kernel; stopped = c.self.inside.stopped }) c.self.inside.poster c.self.invariant c.args.choice c.advance-made.new.kernel c.advance-made.ensures.step
    (record { so_far = c.advance-made.new.kernel; stopped = true }) (g.R.Recorder.has_noted c.advance-made.new.recorder) c.catch_up.new.poster refl
    (λ on. absurd (true≢false on)) c.catch_up.ensures.room c.catch_up.ensures.queue c.catch_up.ensures.startable c.catch_up.ensures.posted

pub returns-in-Ok-clause-made : goal.returns-in-Ok-clause-made
returns-in-Ok-clause-made g c = subst (λ (now : RecordedSoFar). IsStepRecorded now c.args.choice c.in-Ok.enabled (record { so_far = c.advance-made.new.kernel; stopped = c.self.inside.stopped })) c.self.view_is (inl c.in-Ok.ensures.made)

pub returns-in-Err-clause-made : goal.returns-in-Err-clause-made
returns-in-Err-clause-made g c = subst (λ (now : RecordedSoFar). IsStepRecorded now c.args.choice false (record { so_far = c.advance-made.new.kernel; stopped = true })) c.self.view_is (inr (refl, (refl, c.advance-made.ensures.step)))
